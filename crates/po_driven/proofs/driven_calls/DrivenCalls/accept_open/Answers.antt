use Rattle.std.proofs.Common.{◌≡◌, ◌+◌, ◌<◌, ◌∙◌, ap, sym, length, None, Some, subst, arith}
use Rattle.std.specs.List.{All}
use Rattle.po_engine.specs.Arrival.{Increases}
use Rattle.po_engine.proofs.TicketCounts.{one-more}
use Rattle.po_driven.specs.DrivenCallsView.{DrivenCallsView, KeepsTickets}
use Rattle.po_driven.proofs.Leads.{served}
use Rattle.po_driven.proofs.Spots.{begun}
use Rattle.po_driven.proofs.Tickets.{one_given}
use Rattle.po_driven.proofs.Traces.{traced_on, below_more}
use Rattle.po_driven.specs.declared.happening.Happening.TheVariants.{Served}
use Rattle.po_driven.specs.OnePlace.{calls_in_service}
use Rattle.po_driven.proofs.driven_calls.DrivenCalls.accept_open.Goals as goal

pub invariant_of-self : goal.invariant_of-self
invariant_of-self c =
    let i = c.self.inside in
    let old : DrivenCallsView = record { object = i.state; place = i.place; happened = i.happened.items } in
    let a = c.take_in.ensures in let m = c.take_in.new.self in
    let none = subst (λ v. v.object.serving ≡ None) (sym c.self.view_is) c.requires.passes.idle in
    let idle = ap calls_in_service (subst (λ v. v.object.serving ≡ None) (sym c.self.view_is) c.requires.passes.idle) in
    let new : DrivenCallsView = record { object = c.take_in.new.self; place = i.place + 1; happened = c.then-self-inside.result.items } in
    let goes = served i.state c.take_in.new.self c.args.arriving (ap (λ v. v.state) a.state) (ap (λ v. v.serving) a.state ∙ ap Some a.call) in
    traced_on old new (Served c.args.arriving) c.self.invariant (ap (λ v. v.state.unit) a.state) c.then-self-inside.ensures (omega arith) goes
    (λ p. begun i.state m c.take_in.result.0 none (ap (λ x. x.number) a.call) (ap (λ v. v.state) a.state) (ap (λ v. v.serving) a.state) p)
    (omega (arith, c.self.invariant.tickets, one-more i.state.tickets m.tickets c.take_in.result.1.key c.take_in.result.1.number a.key a.ticket, idle, ap (λ v. length v.state.waiting) a.state, ap (λ v. calls_in_service v.serving) a.state))
    (λ r. subst (λ v. Increases v.places) (sym a.state) r)
    (subst (λ v. All (λ k. k < i.place + 1) v.places) (sym a.state) (below_more i.place i.state.places c.self.invariant.later))

pub returns-clause-tickets_kept : goal.returns-clause-tickets_kept
returns-clause-tickets_kept c =
    let s = c.self.inside.state in let m = c.take_in.new.self in let a = c.take_in.ensures in
    subst (λ v. KeepsTickets v.object m) c.self.view_is (one_given s m c.take_in.result.1.key (Some c.take_in.result.1.number) a.key a.ticket (ap (λ v. v.state.ended) a.state))
