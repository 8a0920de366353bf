use Rattle.std.proofs.Common.{◌<◌, length, arith}
use Rattle.std.proofs.lemmas.Result.{err_from_is_err_and}
use Rattle.po_script.specs.Script.{cut}
use Rattle.po_script.specs.Units.{listed}
use Rattle.po_check.proofs.CheckLemmas.{newline_stands, says_kept}
use Rattle.po_check.proofs.EarlyEnds.{newline_early}
use Rattle.po_check.proofs.check.Check.newline.Goals as goal

pub returns-clause-ok : goal.returns-clause-ok
returns-clause-ok g c = λ bytes start left first reads had s.
    let units = g.O.ScriptObject.units in
    let same = says_kept (listed units) c.args.self.now.checker.known (cut bytes).rest in
    let k = rw (c.line.ensures, c.number.ensures, s.cuts.line_is, s.cuts.number_is, same) at c.in_ok-check.ensures in
    record {
      cuts = c.newline.ensures.on bytes start left first reads s.cuts;
      tells = newline_stands units _ _ _ _ _ _ bytes had _ _ s.tells k.known (k.facts s.tells.facts_are) (k.verdict s.tells.facts_are) (k.told s.tells.facts_are);
    }

pub returns-in_err-check-clause-err : goal.returns-in_err-check-clause-err
returns-in_err-check-clause-err g c =
    let p = err_from_is_err_and c.from_residual.result c.from_residual.ensures.1 in
    let units = g.O.ScriptObject.units in
    rw (p.1, p.2) (
      c.in_err-check.ensures.err.0,
      λ bytes start left first reads had s.
          let room : length bytes < 67108864 = omega (arith, s.cuts.total_is, c.requires.room) in
          let same = says_kept (listed units) c.args.self.now.checker.known (cut bytes).rest in
          let k = rw (c.line.ensures, c.number.ensures, s.cuts.line_is, s.cuts.number_is, same) at c.in_err-check.ensures.err in
          rw c.requires.next.1 (newline_early units _ _ _ bytes c.requires.next.0 had _ _ s.tells room (k.1 s.tells.facts_are)),
    )
