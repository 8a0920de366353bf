use Rattle.std.proofs.Common.{◌≡◌, ◌<◌, ◌∙◌, None, ap, sym, subst, arith}
use Rattle.std.specs.List.{All}
use Rattle.po_engine.specs.Arrival.{Increases}
use Rattle.po_engine.specs.WaitingCalls.{is_on}
use Rattle.po_engine.proofs.PlaceSteps.{All-places, increases_without}
use Rattle.po_driven.specs.OnePlace.{HasTickets, calls_in_service}
use Rattle.po_driven.proofs.Held.{length_taken}
use Rattle.po_driven.proofs.Spots.{took}
use Rattle.po_driven.proofs.Leads.{selected}
use Rattle.po_driven.proofs.Tickets.{same_tickets}
use Rattle.po_driven.proofs.Traces.{traced_on}
use Rattle.po_driven.specs.declared.happening.Happening.TheVariants.{Selected}
use Rattle.po_driven.specs.DrivenCallsView.{DrivenCallsView, KeepsTickets}
use Rattle.po_driven.proofs.driven_calls.DrivenCalls.select.Goals as goal

pub invariant_of-self : goal.invariant_of-self
invariant_of-self c =
    let i = c.self.inside in
    let old : DrivenCallsView = record { object = i.state; place = i.place; happened = i.happened.items } in
    let a = c.take_on-call.ensures in let s = i.state in
    let idle = subst (λ v. v.object.serving ≡ None) (sym c.self.view_is) c.requires.serving in
    let new : DrivenCallsView = record { object = c.take_on-call.new.self; place = i.place; happened = c.then-self-inside.result.items } in
    let goes = selected i.state c.take_on-call.new.self c.args.e (ap (λ v. v.state) a.state) (ap (λ v. v.serving) a.state ∙ a.found) in
    traced_on old new (Selected c.args.e) c.self.invariant (ap (λ v. v.state.unit) a.state) c.then-self-inside.ensures (omega arith) goes
    (λ p. took s c.take_on-call.new.self (is_on c.args.e) c.take_on-call.result idle (sym a.found) (ap (λ v. v.state) a.state) (ap (λ v. v.serving) a.state) p)
    (subst HasTickets (sym a.state) (omega (arith, c.self.invariant.tickets, ap calls_in_service idle, length_taken (is_on c.args.e) s.state.waiting c.take_on-call.result (sym a.found))))
    (λ r. subst (λ v. Increases v.places) (sym a.state) (increases_without (is_on c.args.e) s.state.waiting s.places r))
    (subst (λ v. All (λ j. j < i.place) v.places) (sym a.state) (All-places (λ j. j < i.place) (is_on c.args.e) s.state.waiting s.places c.self.invariant.later))

pub returns-clause-tickets_kept : goal.returns-clause-tickets_kept
returns-clause-tickets_kept c =
    let s = c.self.inside.state in let n = c.take_on-call.new.self in let a = c.take_on-call.ensures in
    subst (λ v. KeepsTickets v.object n) c.self.view_is (same_tickets s n (ap (λ v. v.tickets) a.state) (ap (λ v. v.state.ended) a.state))
