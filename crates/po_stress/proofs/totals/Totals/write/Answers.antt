use Rattle.std.proofs.Common.{subst, ◌≡◌, ◌||◌, true, ℕ, List}
use Rattle.po_stress.specs.Totals.{line_with}
use Rattle.po_stress.specs.Reports.{TakesPart}
use Rattle.po_stress.proofs.Parts.{on_err}
use Rattle.po_stress.proofs.totals.Totals.write.Goals as goal

pub returns-in_err-write_with-clause-err : goal.returns-in_err-write_with-clause-err
returns-in_err-write_with-clause-err g c =
    let part : List ℕ → Type 0 = λ words. TakesPart (g.W.Sink.taken c.args.writer.now) (g.W.Sink.taken c.write_with.new.writer) (line_with words c.args.self.now)
    × ((g.W.Sink.failed c.write_with.new.writer || g.W.Sink.stuck c.write_with.new.writer) ≡ true) in
    on_err c.from_residual.result _ (subst part c.words.ensures c.in_err-write_with.ensures.err)
