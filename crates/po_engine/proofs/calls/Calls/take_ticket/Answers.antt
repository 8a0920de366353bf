use Rattle.std.proofs.Common.{◌≡◌, Some, refl, sym, ap, ◌∙◌, subst}
use Rattle.po_calls.specs.Calls.{waiting_call}
use Rattle.po_engine.specs.Calls.{IsQueued, call_at, key_of}
use Rattle.po_engine.proofs.ServiceSteps.{none_serving, no_number, number_taken}
use Rattle.po_engine.proofs.TicketSteps.{ticket_queued, ticket_absent, live_kept}
use Rattle.po_engine.proofs.CallSteps.{taken_in_service}
use Rattle.po_engine.proofs.calls.Calls.take_ticket.Goals as goal

pub returns-in_err-call-clause-found : goal.returns-in_err-call-clause-found
returns-in_err-call-clause-found g c =
    let s = c.self.inside in let i = c.self.invariant in
    let f = call_at s.table.calls in let ix = key_of s.first s.keys.items in
    let t = c.args.ticket in
    let r = rw (← c.self.view_is) at c.requires in
    let none = none_serving f ix s.queues s.serving i.queued r.serving in
    let gone = no_number f ix s.queues s.serving t.number i.queued (ticket_absent s.table ix s.queues s.ended.items t r.live (sym c.in_err-call.ensures) i.kept) in
    rw (c.from_residual.ensures, ← c.self.view_is) (sym gone.found)

pub returns-in_err-call-clause-taken : goal.returns-in_err-call-clause-taken
returns-in_err-call-clause-taken g c =
    let s = c.self.inside in let i = c.self.invariant in
    let f = call_at s.table.calls in let ix = key_of s.first s.keys.items in
    let t = c.args.ticket in
    let r = rw (← c.self.view_is) at c.requires in
    let none = none_serving f ix s.queues s.serving i.queued r.serving in
    let gone = no_number f ix s.queues s.serving t.number i.queued (ticket_absent s.table ix s.queues s.ended.items t r.live (sym c.in_err-call.ensures) i.kept) in
    rw (c.from_residual.ensures, ← c.self.view_is) (rw (r.serving, gone.waiting, gone.places) refl)

pub invariant_of-self : goal.invariant_of-self
invariant_of-self g c =
    let s = c.self.inside in let i = c.self.invariant in
    let f = call_at s.table.calls in let ix = key_of s.first s.keys.items in
    let t = c.args.ticket in
    let r = rw (← c.self.view_is) at c.requires in
    let none = none_serving f ix s.queues s.serving i.queued r.serving in
    let at : f t.key ≡ Some c.in_ok-call.field-0.now = sym (ap waiting_call (live_kept s.table t r.live)) ∙ sym c.in_ok-call.ensures in
    let there = ticket_queued s.table ix s.queues s.ended.items t c.in_ok-call.field-0.now r.live (sym c.in_ok-call.ensures) (subst (IsQueued f ix s.queues) none i.queued) i.kept in
    let taken = number_taken f ix s.queues s.serving t.number t.key c.recall_invariant.ensures i.queued there in
    rw c.remove.ensures.others (taken_in_service s.table s.queues s.keys.items s.ended.items s.before.items s.ended_now s.first s.next s.serving s.capacity s.is_fixed t.key c.recall_invariant.ensures taken.has none i)

pub returns-clause-found : goal.returns-clause-found
returns-clause-found g c =
    let s = c.self.inside in let i = c.self.invariant in
    let f = call_at s.table.calls in let ix = key_of s.first s.keys.items in
    let t = c.args.ticket in
    let r = rw (← c.self.view_is) at c.requires in
    let none = none_serving f ix s.queues s.serving i.queued r.serving in
    let at : f t.key ≡ Some c.in_ok-call.field-0.now = sym (ap waiting_call (live_kept s.table t r.live)) ∙ sym c.in_ok-call.ensures in
    let there = ticket_queued s.table ix s.queues s.ended.items t c.in_ok-call.field-0.now r.live (sym c.in_ok-call.ensures) (subst (IsQueued f ix s.queues) none i.queued) i.kept in
    let taken = number_taken f ix s.queues s.serving t.number t.key c.recall_invariant.ensures i.queued there in
    rw (← c.self.view_is) (sym at ∙ taken.found)

pub returns-clause-taken : goal.returns-clause-taken
returns-clause-taken g c =
    let s = c.self.inside in let i = c.self.invariant in
    let f = call_at s.table.calls in let ix = key_of s.first s.keys.items in
    let t = c.args.ticket in
    let r = rw (← c.self.view_is) at c.requires in
    let none = none_serving f ix s.queues s.serving i.queued r.serving in
    let at : f t.key ≡ Some c.in_ok-call.field-0.now = sym (ap waiting_call (live_kept s.table t r.live)) ∙ sym c.in_ok-call.ensures in
    let there = ticket_queued s.table ix s.queues s.ended.items t c.in_ok-call.field-0.now r.live (sym c.in_ok-call.ensures) (subst (IsQueued f ix s.queues) none i.queued) i.kept in
    let taken = number_taken f ix s.queues s.serving t.number t.key c.recall_invariant.ensures i.queued there in
    rw (c.remove.ensures.others, ← c.self.view_is) (rw (taken.waiting, taken.places, at) refl)
