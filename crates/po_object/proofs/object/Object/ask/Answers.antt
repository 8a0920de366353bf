use Rattle.std.proofs.Common.{ap, refl, rules}
use Rattle.po_receipts.proofs.OneHistory.{answers-pending}
use Rattle.po_object.specs.Refused.{IsCallRefusal}
use Rattle.po_object.proofs.Refused.{call-refusal}
use Rattle.po_object.proofs.object.Object.ask.Goals as goal

pub returns-in-Some-clause-answered : goal.returns-in-Some-clause-answered
returns-in-Some-clause-answered g c =
    let k = c.in_ok-issue.ensures in
    answers-pending g.U.Unit.meaning _ c.issue.new.pass c.issue.new.pass _ _ _ _ _ _ _ _ refl (ap (λ p. p.pending) k.pending) k.issued c.in-Some.ensures.ended

pub returns-clause-answered : goal.returns-clause-answered
returns-clause-answered g c =
    let k = c.in_ok-issue.ensures in
    answers-pending g.U.Unit.meaning _ _ _ _ _ _ _ _ _ _ _ c.in_default.ensures.left.1 (ap (λ p. p.pending) k.pending) k.issued c.wait.ensures.ended

pub returns-in_err-issue-clause-refused : goal.returns-in_err-issue-clause-refused
returns-in_err-issue-clause-refused g c =
    let k = c.in_err-issue.ensures in
    let refused : IsCallRefusal g.R.Record.is_bounded g.C.CallLedger.shape c.args.entry c.in_err-issue.field-0.0 = call-refusal g.R.Record.is_bounded c.deref_mut.result.now.object _ c.args.entry c.in_err-issue.field-0.0 k.shape k.refused in
    search (rules, refused)
