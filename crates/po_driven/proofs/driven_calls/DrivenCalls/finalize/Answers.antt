use Rattle.std.proofs.Common.{◌<◌, ap, sym, subst, arith}
use Rattle.std.specs.List.{All}
use Rattle.po_engine.specs.Arrival.{Increases}
use Rattle.po_driven.specs.OnePlace.{IsThereOnce, HasTickets}
use Rattle.po_driven.specs.DrivenCallsView.{DrivenCallsView}
use Rattle.po_driven.proofs.Leads.{finalized}
use Rattle.po_driven.proofs.Traces.{traced_on}
use Rattle.po_driven.specs.declared.happening.Happening.TheVariants.{Finalized}
use Rattle.po_driven.proofs.driven_calls.DrivenCalls.finalize.Goals as goal

pub invariant_of-self : goal.invariant_of-self
invariant_of-self c =
    let i = c.self.inside in
    let old : DrivenCallsView = record { object = i.state; place = i.place; happened = i.happened.items } in
    let a = c.set_finalized.ensures in
    let new : DrivenCallsView = record { object = c.set_finalized.new.self; place = i.place; happened = c.then-self-inside.result.items } in
    let goes = finalized i.state c.set_finalized.new.self (ap (λ v. v.state) a) (ap (λ v. v.serving) a) in
    traced_on old new Finalized c.self.invariant (ap (λ v. v.state.unit) a) c.then-self-inside.ensures (omega arith) goes
    (λ p. subst IsThereOnce (sym a) (record { low = p.low; each = p.each }))
    (subst HasTickets (sym a) c.self.invariant.tickets)
    (λ r. subst (λ v. Increases v.places) (sym a) r) (subst (λ v. All (λ k. k < i.place) v.places) (sym a) c.self.invariant.later)
