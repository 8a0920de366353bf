use Rattle.std.proofs.Common.{◌≤◌, ◌||◌, length, arith}
use Rattle.std.proofs.lemmas.List.{append-nil}
use Rattle.std.proofs.lemmas.Result.{err_from_is_err_and}
use Rattle.po_script.specs.Cutter.{kept, number_of}
use Rattle.po_script.specs.Script.{cut}
use Rattle.po_script.proofs.EndLemmas.{run_end_well, end_ends, whole_line}
use Rattle.po_script.proofs.run.Run.finish.Goals as goal

pub returns-in_err-carry_out-clause-err : goal.returns-in_err-carry_out-clause-err
returns-in_err-carry_out-clause-err g c =
    let p = err_from_is_err_and c.from_residual.result c.from_residual.ensures.1 in
    let run = c.args.self.now in
    rw (p.1, p.2) (λ none bytes start left first reads had s fine.
    let few : length bytes ≤ 67108864 = omega (arith, s.cuts.total_is, run.lines.few) in
    let whole = whole_line (kept run.lines) (cut bytes).rest s.cuts.line_is s.short in
    rw (none, append-nil) (end_ends g.O.ScriptObject.units g.O.ScriptObject.object run.interpreter bytes had _ s.tells s.short c.in_err-carry_out.field-0.0 (number_of run.lines) _ (g.W.Sink.failed c.args.writer.now || g.W.Sink.stuck c.args.writer.now) (g.W.Sink.failed c.carry_out.new.writer || g.W.Sink.stuck c.carry_out.new.writer) few s.cuts.number_is fine (rw (c.number.ensures, c.line.ensures, whole) at c.in_err-carry_out.ensures.err)))

pub returns-clause-ok : goal.returns-clause-ok
returns-clause-ok g c = λ bytes start left first reads had s fine.
    let k = c.in_ok-carry_out.ensures.ok in
    let same = c.in_ok-carry_out.ensures.fine in
    let run = c.args.self.now in
    let few : length bytes ≤ 67108864 = omega (arith, s.cuts.total_is, run.lines.few) in
    let whole = whole_line (kept run.lines) (cut bytes).rest s.cuts.line_is s.short in
    run_end_well g.O.ScriptObject.units g.O.ScriptObject.object run.interpreter bytes had _ s.tells s.short k.command _ _ few (rw (c.line.ensures, whole) at k.says) k.told (rw (same.0, same.1) fine)
