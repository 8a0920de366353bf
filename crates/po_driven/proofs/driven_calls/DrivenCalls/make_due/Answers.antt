use Rattle.std.proofs.Common.{◌≡◌, ◌<◌, ◌∙◌, Some, ap, sym, subst, arith}
use Rattle.std.specs.List.{All}
use Rattle.po_engine.specs.Arrival.{Increases}
use Rattle.po_driven.proofs.Leads.{due}
use Rattle.po_driven.specs.OnePlace.{HasTickets, calls_in_service}
use Rattle.po_driven.proofs.Spots.{turned}
use Rattle.po_driven.proofs.Traces.{traced_on}
use Rattle.po_driven.specs.declared.happening.Happening.TheVariants.{Due}
use Rattle.po_driven.specs.DrivenCallsView.{DrivenCallsView}
use Rattle.po_driven.proofs.driven_calls.DrivenCalls.make_due.Goals as goal

pub invariant_of-self : goal.invariant_of-self
invariant_of-self c =
    let i = c.self.inside in
    let old : DrivenCallsView = record { object = i.state; place = i.place; happened = i.happened.items } in
    let a = c.set_deadline-moved.ensures in
    let serving = subst (λ v. v.object.serving ≡ Some c.args.call) (sym c.self.view_is) c.requires in
    let new : DrivenCallsView = record { object = c.set_deadline-moved.new.self; place = i.place; happened = c.then-self-inside.result.items } in
    let goes = due i.state c.set_deadline-moved.new.self c.args.call serving (ap (λ v. v.state) a.after) (ap (λ v. v.serving) a.after ∙ ap Some a.call) in
    traced_on old new Due c.self.invariant (ap (λ v. v.state.unit) a.after) c.then-self-inside.ensures (omega arith) goes
    (λ p. turned i.state c.set_deadline-moved.new.self c.args.call c.set_deadline-moved.result serving (ap (λ x. x.number) a.call) (ap (λ v. v.state) a.after) (ap (λ v. v.serving) a.after) p)
    (subst HasTickets (sym a.after) (omega (arith, c.self.invariant.tickets, ap calls_in_service serving))) (λ r. subst (λ v. Increases v.places) (sym a.after) r) (subst (λ v. All (λ k. k < i.place) v.places) (sym a.after) c.self.invariant.later)
