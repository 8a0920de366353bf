use Rattle.std.proofs.Common.{◌≤◌, length, arith}
use Rattle.std.proofs.lemmas.List.{append-nil}
use Rattle.std.proofs.lemmas.Result.{err_from_is_err_and}
use Rattle.po_script.specs.Script.{cut}
use Rattle.po_script.specs.Units.{listed}
use Rattle.po_check.proofs.CheckLemmas.{finish_ends, says_kept}
use Rattle.po_check.proofs.EarlyEnds.{finish_early}
use Rattle.po_check.proofs.check.Check.finish.Goals as goal

pub returns-clause-ok : goal.returns-clause-ok
returns-clause-ok g c = λ bytes start left first reads had s.
    let units = g.O.ScriptObject.units in
    let few : length bytes ≤ 67108864 = omega (arith, s.cuts.total_is, c.args.self.now.lines.few) in
    let same = says_kept (listed units) c.args.self.now.checker.known (cut bytes).rest in
    let k = rw (c.line.ensures, c.number.ensures, s.cuts.line_is, s.cuts.number_is, same) at c.in_ok-check.ensures in
    finish_ends units _ _ _ _ bytes had _ _ s.tells few (k.verdict s.tells.facts_are) (k.told s.tells.facts_are)

pub returns-in_err-check-clause-err : goal.returns-in_err-check-clause-err
returns-in_err-check-clause-err g c =
    let p = err_from_is_err_and c.from_residual.result c.from_residual.ensures.1 in
    let units = g.O.ScriptObject.units in
    rw (p.1, p.2) (
      c.in_err-check.ensures.err.0,
      λ bytes start left first reads had s.
          let few : length bytes ≤ 67108864 = omega (arith, s.cuts.total_is, c.args.self.now.lines.few) in
          let same = says_kept (listed units) c.args.self.now.checker.known (cut bytes).rest in
          let k = rw (c.line.ensures, c.number.ensures, s.cuts.line_is, s.cuts.number_is, same) at c.in_err-check.ensures.err in
          rw (c.requires, append-nil) (finish_early units _ _ _ bytes had _ _ s.tells few (k.1 s.tells.facts_are)),
    )
