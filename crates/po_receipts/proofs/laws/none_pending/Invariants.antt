use Rattle.std.proofs.Common.{take}
use Rattle.po_receipts.specs.Answers.{NonePending}
use Rattle.po_receipts.proofs.laws.none_pending.Given as goal

abbrev pub invariant-loop-pass : goal.invariant-loop-pass
invariant-loop-pass g l = NonePending (take l.pass-index l.passes)
