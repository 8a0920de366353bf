use Rattle.std.proofs.Common.{◌≡◌, ◌≤◌, ◌∙◌, ap, cond, ltb, length, arith, List, ℕ}
use Rattle.po_language.specs.declared.command.FaultKind.TheVariants.{ScriptTooLong, LineTooLong}
use Rattle.std.proofs.lemmas.Result.{err_from_is_err_and}
use Rattle.po_check.proofs.CheckLemmas.{past_ends}
use Rattle.po_check.proofs.EarlyEnds.{limit_early}
use Rattle.po_check.proofs.check.Check.past_limit.Goals as goal

pub returns-clause-ok : goal.returns-clause-ok
returns-clause-ok g c = λ bytes start left first reads had s.
    let all : length bytes ≡ 67108864 = omega (arith, s.cuts.total_is, c.requires.all) in
    let kind = c.limit_fault.ensures ∙ ap (λ (l : List ℕ). cond (ltb 4096 (length l)) LineTooLong ScriptTooLong) s.cuts.line_is in
    rw c.requires.next.2 (past_ends g.O.ScriptObject.units _ _ _ bytes c.requires.next.0 c.requires.next.1 had _ _ _ s.tells all kind (rw (c.number.ensures, s.cuts.number_is) at c.in_ok-report.ensures.ok))

pub returns-in_err-report-clause-err : goal.returns-in_err-report-clause-err
returns-in_err-report-clause-err g c =
    let p = err_from_is_err_and c.from_residual.result c.from_residual.ensures.1 in
    let k = c.in_err-report.ensures.err in
    rw (p.1, p.2) (
      k.0,
      λ bytes start left first reads had s.
          let few : length bytes ≤ 67108864 = omega (arith, s.cuts.total_is, c.requires.all) in
          limit_early g.O.ScriptObject.units _ _ _ bytes _ had _ _ s.tells few k.1,
    )
