use Rattle.std.proofs.Common.{◌≡◌, Some, refl, sym, ap, ◌∙◌, subst, arith}
use Rattle.po_calls.specs.Calls.{waiting_call, IsAbove}
use Rattle.po_engine.specs.Calls.{IsQueued, call_at, key_of}
use Rattle.po_engine.proofs.ServiceSteps.{none_serving, unmarked, marked}
use Rattle.po_engine.proofs.KeptSteps.{kept_changed, kept_call}
use Rattle.po_engine.proofs.TicketSteps.{ticket_queued, ticket_absent, live_kept, its_number}
use Rattle.std.proofs.Common.{true}
use Rattle.po_engine.proofs.CallSteps.{reserved_kept}
use Rattle.po_engine.proofs.calls.Calls.mark.Goals as goal

pub returns-in_default : goal.returns-in_default
returns-in_default g c =
    let s = c.self.inside in let i = c.self.invariant in
    let f = call_at s.table.calls in let ix = key_of s.first s.keys.items in
    let t = c.args.ticket in
    let r = rw (← c.self.view_is) at c.requires in
    let none = none_serving f ix s.queues s.serving i.queued r.serving in
    let gone = ticket_absent s.table ix s.queues s.ended.items t r.live (sym c.get.ensures ∙ sym c.in_default.ensures) i.kept in
    rw (← c.self.view_is) (rw (unmarked f ix s.queues s.serving t.number i.queued gone) refl)

pub invariant_of-self : goal.invariant_of-self
invariant_of-self g c =
    let s = c.self.inside in let i = c.self.invariant in
    let f = call_at s.table.calls in let ix = key_of s.first s.keys.items in
    let t = c.args.ticket in
    let r = rw (← c.self.view_is) at c.requires in
    let none = none_serving f ix s.queues s.serving i.queued r.serving in
    let at : f t.key ≡ Some c.in-Some.found = sym (ap waiting_call (live_kept s.table t r.live)) ∙ sym c.get.ensures ∙ sym c.in-Some.ensures in
    let there = ticket_queued s.table ix s.queues s.ended.items t c.in-Some.found r.live (sym c.get.ensures ∙ sym c.in-Some.ensures) (subst (IsQueued f ix s.queues) none i.queued) i.kept in
    let num = its_number f t.number t.key c.in-Some.found at there.its in
    let u = c.mark.ensures.updates c.in-Some.found (kept_call s.table t.key c.in-Some.found.number c.in-Some.found at refl) in
    let now = call_at c.mark.new.self.calls in
    let queued = marked f ix now s.queues t.number t.key c.in-Some.found there at num (ap waiting_call u.changed) (λ j ne. ap waiting_call (u.others j ne)) (subst (IsQueued f ix s.queues) none i.queued) in
    record {
      queued = subst (IsQueued now ix s.queues) (sym none) queued.0;
      kept = kept_changed s.table.calls c.mark.new.self.calls t.key c.in-Some.found (record c.in-Some.found { aborted = true }) ix s.ended.items at refl u i.kept;
      last = subst (λ last. IsAbove last s.next) (sym c.mark.ensures.room.last) i.last;
      numbers = i.numbers;
      ended_before = i.ended_before;
      each = i.each;
      shown = i.shown;
      few = omega (arith, i.few, c.mark.ensures.room.len);
      room = omega (arith, i.room, c.mark.ensures.room.capacity);
      reserved = reserved_kept s.is_fixed s.table.calls c.mark.new.self.calls s.queues.reserved s.capacity (omega (arith, c.mark.ensures.room.len)) c.mark.ensures.room.capacity i.reserved;
      for_ended = i.for_ended;
      for_all = i.for_all;
    }

pub returns : goal.returns
returns g c =
    let s = c.self.inside in let i = c.self.invariant in
    let f = call_at s.table.calls in let ix = key_of s.first s.keys.items in
    let t = c.args.ticket in
    let r = rw (← c.self.view_is) at c.requires in
    let none = none_serving f ix s.queues s.serving i.queued r.serving in
    let at : f t.key ≡ Some c.in-Some.found = sym (ap waiting_call (live_kept s.table t r.live)) ∙ sym c.get.ensures ∙ sym c.in-Some.ensures in
    let there = ticket_queued s.table ix s.queues s.ended.items t c.in-Some.found r.live (sym c.get.ensures ∙ sym c.in-Some.ensures) (subst (IsQueued f ix s.queues) none i.queued) i.kept in
    let num = its_number f t.number t.key c.in-Some.found at there.its in
    let u = c.mark.ensures.updates c.in-Some.found (kept_call s.table t.key c.in-Some.found.number c.in-Some.found at refl) in
    let now = call_at c.mark.new.self.calls in
    let queued = marked f ix now s.queues t.number t.key c.in-Some.found there at num (ap waiting_call u.changed) (λ j ne. ap waiting_call (u.others j ne)) (subst (IsQueued f ix s.queues) none i.queued) in
    rw (← c.self.view_is) (rw (queued.1, c.mark.ensures.numbers, none) refl)
