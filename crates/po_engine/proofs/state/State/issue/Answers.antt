use Rattle.std.proofs.Common.{◌≡◌, ◌<◌, ap, sym, subst, ◌∙◌, Some}
use Rattle.std.specs.List.{All}
use Rattle.std.specs.Result.{is_err}
use Rattle.std.proofs.lemmas.Bool.{true≢false}
use Rattle.po_engine.specs.Arrival.{AreAt, noted}
use Rattle.po_engine.proofs.PlaceSteps.{at_noted, noted_here, below_absent}
use Rattle.po_engine.proofs.state.State.issue.Goals as goal
use Rattle.po_engine.proofs.state.State.issue.Goals.{then-is_err, else-is_err}

pub returns-in-Ok-true-clause-places : goal.returns-in-Ok-true-clause-places
returns-in-Ok-true-clause-places g c = λ f at.
    let now = c.args.self.now in
    let n = now.state.next in
    let same : c.if-is_err.self ≡ now = elim c.if-is_err.branch [ then-is_err w ↦ absurd (true≢false (sym w.if-is_err.true ∙ c.is_err.ensures.value ∙ ap is_err c.in-Ok-true.is)) | else-is_err w ↦ w.self-is ] in
    let told = c.self-2.view_is ∙ same in
    let earlier = subst (λ v. All (λ x. x.number < v.state.next) v.state.waiting) c.self.view_is c.recall_invariant.ensures.sound.below_next in
    let to = noted f c.args.queueing.place (Some n) in
    let here = ap to (c.next_number.ensures ∙ ap (λ v. v.state.next) told) ∙ noted_here f c.args.queueing.place n in
    let noted_now = at_noted f c.args.queueing.place n now.state.waiting now.places (below_absent n now.state.waiting earlier) at in
    let before = subst (λ v. AreAt to v.state.waiting v.places) (sym told) noted_now in
    let added = subst (λ k. AreAt to k.waiting k.places) (sym c.add-ticket.ensures.after) before in
    c.run_body.ensures.places to here added

pub returns-in-Ok-false-clause-places : goal.returns-in-Ok-false-clause-places
returns-in-Ok-false-clause-places g c = λ f at.
    let now = c.args.self.now in
    let n = now.state.next in
    let same : c.if-is_err.self ≡ now = elim c.if-is_err.branch [ then-is_err w ↦ absurd (true≢false (sym w.if-is_err.true ∙ c.is_err.ensures.value ∙ ap is_err c.in-Ok-false.is)) | else-is_err w ↦ w.self-is ] in
    let told = c.self-2.view_is ∙ same in
    let earlier = subst (λ v. All (λ x. x.number < v.state.next) v.state.waiting) c.self.view_is c.recall_invariant.ensures.sound.below_next in
    let to = noted f c.args.queueing.place (Some n) in
    let here = ap to (c.next_number.ensures ∙ ap (λ v. v.state.next) told) ∙ noted_here f c.args.queueing.place n in
    let noted_now = at_noted f c.args.queueing.place n now.state.waiting now.places (below_absent n now.state.waiting earlier) at in
    let before = subst (λ v. AreAt to v.state.waiting v.places) (sym told) noted_now in
    let added = subst (λ k. AreAt to k.waiting k.places) (sym c.add-ticket.ensures.after) before in
    c.enter.ensures.places to here added
