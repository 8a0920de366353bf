use Rattle.std.proofs.Common.{◌≡◌, ◌++◌, take, string_bytes}
use Rattle.po_script.specs.Lines.{ended_lines}
use Rattle.po_script.proofs.lines.push_ended.Given as goal

abbrev pub invariant-loop-call : goal.invariant-loop-call
invariant-loop-call l = string_bytes l.reply ≡ string_bytes l.initial.reply ++ ended_lines (take l.call-index l.calls)
