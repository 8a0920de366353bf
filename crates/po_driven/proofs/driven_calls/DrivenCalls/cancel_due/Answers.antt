use Rattle.std.proofs.Common.{◌≡◌, ◌∙◌, ◌++◌, ◌∷◌, [], Some, sym, subst, ap}
use Rattle.std.specs.List.{find}
use Rattle.po_engine.specs.Tickets.{waiting_among}
use Rattle.po_engine.specs.WaitingCalls.{is_due}
use Rattle.po_driven.specs.declared.happening.Happening.TheVariants.{Cancelled}
use Rattle.po_driven.specs.DrivenCallsView.{DrivenCallsView, led_by}
use Rattle.po_driven.proofs.Traces.{there}
use Rattle.po_driven.proofs.Numbers.{due_call, found_number, live_found}
use Rattle.po_driven.proofs.driven_calls.DrivenCalls.cancel_due.Goals as goal

pub returns-in_err-call-clause-found : goal.returns-in_err-call-clause-found
returns-in_err-call-clause-found c =
    let i = c.self.inside in let o = i.state in let k = c.in_ok-ticket.ensures in
    let old : DrivenCallsView = record { object = i.state; place = i.place; happened = i.happened.items } in
    let same = c.first_due.ensures.same in
    let due = due_call o c.in_ok-ticket.ticket c.first_due.result c.in_ok-ticket.was (there (led_by old) o c.self.invariant.leads c.self.invariant.placed) c.first_due.ensures.found k.live in
    let call = subst (λ v. c.waiting_call.result ≡ find (is_due o.state.clock) o.state.waiting) c.self.view_is (rw same at c.waiting_call.ensures ∙ due) in
    subst (λ v. c.from_residual-in_err-call.result ≡ find (is_due v.object.state.clock) v.object.state.waiting) c.self.view_is (c.from_residual-in_err-call.ensures ∙ sym c.in_err-call.was ∙ call)

pub returns-clause-found : goal.returns-clause-found
returns-clause-found c =
    let i = c.self.inside in let o = i.state in let k = c.in_ok-ticket.ensures in
    let old : DrivenCallsView = record { object = i.state; place = i.place; happened = i.happened.items } in
    let same = c.first_due.ensures.same in
    let due = due_call o c.in_ok-ticket.ticket c.first_due.result c.in_ok-ticket.was (there (led_by old) o c.self.invariant.leads c.self.invariant.placed) c.first_due.ensures.found k.live in
    subst (λ v. Some c.in_ok-call.call ≡ find (is_due v.object.state.clock) v.object.state.waiting) c.self.view_is (sym c.in_ok-call.was ∙ rw same at c.waiting_call.ensures ∙ due)

pub returns-clause-happened : goal.returns-clause-happened
returns-clause-happened c =
    let n = c.in_ok-ticket.ticket.number in
    let live = c.in_ok-ticket.ensures.live in
    let o = c.self.inside.state in
    let among : c.waiting_call.result ≡ waiting_among o.state.waiting o.tickets c.in_ok-ticket.ticket = rw c.first_due.ensures.same at c.waiting_call.ensures in
    let found = among ∙ live_found o.state.waiting o.tickets c.in_ok-ticket.ticket live in
    let number = found_number n o.state.waiting c.in_ok-call.call (sym found ∙ c.in_ok-call.was) in
    subst (λ k. c.cancel.new.self.happened ≡ c.args.self.now.happened ++ Cancelled k ∷ []) (sym number) (c.cancel.ensures.happened ∙ ap (λ v. v.happened ++ Cancelled n ∷ []) c.self.view_is)
