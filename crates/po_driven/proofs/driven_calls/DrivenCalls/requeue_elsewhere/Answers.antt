use Rattle.std.proofs.Common.{◌≡◌, ◌<◌, Some, ap, sym, subst, arith}
use Rattle.std.specs.List.{All}
use Rattle.po_engine.specs.Arrival.{Increases}
use Rattle.po_driven.proofs.Leads.{gone_elsewhere}
use Rattle.po_driven.proofs.Traces.{traced_on}
use Rattle.po_driven.specs.declared.happening.Happening.TheVariants.{RequeuedElsewhere}
use Rattle.po_driven.specs.DrivenCallsView.{DrivenCallsView, KeepsTickets}
use Rattle.po_driven.proofs.driven_calls.DrivenCalls.requeue_elsewhere.Goals as goal

pub invariant_of-self : goal.invariant_of-self
invariant_of-self c =
    let i = c.self.inside in
    let old : DrivenCallsView = record { object = i.state; place = i.place; happened = i.happened.items } in
    let a = c.finish.ensures in
    let serving = subst (λ v. v.object.serving ≡ Some c.args.call) (sym c.self.view_is) c.requires in
    let new : DrivenCallsView = record { object = c.finish.new.state; place = i.place; happened = c.then-self-inside.result.items } in
    let goes = gone_elsewhere i.state c.finish.new.state c.args.call serving (ap (λ v. v.state) a.state) (ap (λ v. v.serving) a.state) in
    traced_on old new RequeuedElsewhere c.self.invariant (ap (λ v. v.state.unit) a.state) c.then-self-inside.ensures (omega arith) goes a.placed (a.tickets c.self.invariant.tickets) (λ r. subst (λ v. Increases v.places) (sym a.state) r) (subst (λ v. All (λ k. k < i.place) v.places) (sym a.state) c.self.invariant.later)

pub returns-clause-tickets_kept : goal.returns-clause-tickets_kept
returns-clause-tickets_kept c = subst (λ v. KeepsTickets v.object c.finish.new.state) c.self.view_is c.finish.ensures.tickets_kept
