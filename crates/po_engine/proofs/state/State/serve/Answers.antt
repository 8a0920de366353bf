use Rattle.std.proofs.Common.{◌≡◌, ◌<◌, ◌≤◌, Some, sym, subst, ◌∙◌}
use Rattle.std.specs.List.{find, All, count_by}
use Rattle.std.specs.Option.{option_map}
use Rattle.po_engine.specs.WaitingCalls.{is_on, has_number}
use Rattle.po_engine.specs.Arrival.{AreAt, noted}
use Rattle.po_engine.proofs.PlaceSteps.{All-places, at_taken, noted_here}
use Rattle.po_engine.proofs.state.State.serve.Goals as goal

pub run_body-requires-clause-later : goal.run_body-requires-clause-later
run_body-requires-clause-later g c =
    let s = c.args.self.now in
    subst (λ v. All (λ k. k < c.args.queueing.place) v.places) (sym c.take_on.ensures.state) (All-places (λ k. k < c.args.queueing.place) (is_on c.args.e) s.state.waiting s.places c.requires.later)

pub returns-in-Some-clause-places : goal.returns-in-Some-clause-places
returns-in-Some-clause-places g c = λ f at.
    let s = c.args.self.now in
    let x = c.in-Some.call in
    let found : find (is_on c.args.e) s.state.waiting ≡ Some x = sym c.take_on.ensures.found ∙ c.in-Some.is in
    let once = subst (λ v. count_by (has_number x.number) v.state.waiting ≤ 1) c.self.view_is (c.recall_invariant.ensures.sound.once x.number) in
    let to = noted f c.args.queueing.place (Some x.number) in
    let taken = subst (λ v. AreAt to v.state.waiting v.places) (sym c.take_on.ensures.state) (at_taken f c.args.queueing.place (is_on c.args.e) s.state.waiting s.places x found once at) in
    subst (λ o. AreAt (noted f c.args.queueing.place (option_map (λ y. y.number) o)) c.run_body.new.self.state.waiting c.run_body.new.self.places) (sym found) (c.run_body.ensures.places to (noted_here f c.args.queueing.place x.number) taken)
