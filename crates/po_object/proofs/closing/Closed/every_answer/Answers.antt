use Rattle.std.proofs.Common.{◌≡◌, subst, sym}
use Rattle.po_receipts.specs.Answers.{AnswersAreOwn}
use Rattle.po_receipts.specs.OneHistory.{IsWholeHistory, state_after}
use Rattle.po_receipts.proofs.OneHistory.{whole-history, whole-leads}
use Rattle.po_receipts.proofs.OwnAnswers.{own_answers}
use Rattle.po_object.proofs.closing.Closed.every_answer.Goals as goal

pub returns-clause-own : goal.returns-clause-own
returns-clause-own g c =
    let closed = c.args.self.now in
    let meaning = g.U.Unit.meaning in
    let leads = subst (λ closed. state_after meaning closed.core.object.setup closed.log ≡ closed.core.object.state) c.self.view_is
    (whole-leads meaning c.self.inside.core.object c.self.inside.log.items c.headline.ensures.headline c.self.invariant.whole) in
    subst (λ state. AnswersAreOwn state.ended closed.log closed.passes) (sym leads)
    (own_answers closed.core.object.state.ended closed.log closed.passes (c.closing_totals.ensures.due c.requires))

pub returns-clause-serial : goal.returns-clause-serial
returns-clause-serial g c =
    subst (λ closed. IsWholeHistory g.U.Unit.meaning closed.core.object.setup closed.log) c.self.view_is
    (whole-history g.U.Unit.meaning c.self.inside.core.object c.self.inside.log.items c.headline.ensures.headline c.self.invariant.whole)
