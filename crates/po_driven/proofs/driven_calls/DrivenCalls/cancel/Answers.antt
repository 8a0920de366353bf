use Rattle.std.proofs.Common.{◌≡◌, ◌∙◌, None, ap, sym, subst, arith}
use Rattle.po_driven.proofs.Leads.{cancelled}
use Rattle.po_driven.proofs.Traces.{traced_on}
use Rattle.po_driven.specs.declared.happening.Happening.TheVariants.{Cancelled}
use Rattle.po_driven.specs.DrivenCallsView.{DrivenCallsView, KeepsTickets}
use Rattle.po_driven.proofs.driven_calls.DrivenCalls.cancel.Goals as goal

pub invariant_of-self : goal.invariant_of-self
invariant_of-self c =
    let i = c.self.inside in
    let old : DrivenCallsView = record { object = i.state; place = i.place; happened = i.happened.items } in
    let a = c.withdraw.ensures in
    let serving = subst (λ v. v.object.serving ≡ None) (sym c.self.view_is) c.requires.serving in
    let n = c.args.ticket.number in
    let new : DrivenCallsView = record { object = c.withdraw.new.state; place = i.place; happened = c.then-self-inside.result.items } in
    let goes = cancelled i.state c.withdraw.new.state n (ap (λ v. v.state) a.state) (ap (λ v. v.serving) a.state ∙ serving) in
    traced_on old new (Cancelled n) c.self.invariant a.unit c.then-self-inside.ensures (omega arith) goes a.placed (a.tickets c.self.invariant.tickets) a.rises (a.kept i.place c.self.invariant.later)

pub returns-clause-tickets_kept : goal.returns-clause-tickets_kept
returns-clause-tickets_kept c = subst (λ v. KeepsTickets v.object c.withdraw.new.state) c.self.view_is c.withdraw.ensures.tickets_kept
