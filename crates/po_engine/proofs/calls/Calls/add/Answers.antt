use Rattle.std.proofs.Common.{◌≡◌, ◌<◌, ◌+◌, ◌∷◌, ◌++◌, [], Some, refl, sym, ap, arith, subst, length-append}
use Rattle.std.proofs.lemmas.List.Elements.{All-weaker}
use Rattle.po_calls.specs.Calls.{waiting_call, IsAbove}
use Rattle.po_engine.specs.declared.ended.Ended.{Ended}
use Rattle.slab.specs.Slab.{slab_len}
use Rattle.po_engine.specs.Calls.{IsQueued, IsKeptWell, call_at, key_of, calls_in_service}
use Rattle.po_engine.proofs.CallSteps.{key_reserved, reserved_kept}
use Rattle.po_engine.proofs.ServiceSteps.{added, none_serving}
use Rattle.po_engine.proofs.CallReads.{length_same}
use Rattle.po_engine.proofs.Uncollected.{uncollected_kept, ended_length}
use Rattle.po_engine.proofs.KeptSteps.{kept_added, key_more, key_last, ticket_set}
use Rattle.po_engine.proofs.calls.Calls.add.Goals as goal

pub invariant_of-self : goal.invariant_of-self
invariant_of-self g c =
    let s = c.self.inside in let i = c.self.invariant in
    let f = call_at s.table.calls in let ix = key_of s.first s.keys.items in
    let r = rw (← c.self.view_is) at c.requires in
    let call = c.args.call in
    let k = c.put-ticket.result.key in
    let none = none_serving f ix s.queues s.serving i.queued r.serving in
    let u = c.put-ticket.ensures.updates in
    let now = call_at c.put-ticket.new.self.calls in
    let later = key_of s.first (s.keys.items ++ k ∷ []) in
    let led : later call.number ≡ Some k = key_last s.first k s.keys.items call.number (omega (arith, r.number, i.numbers)) in
    let few : slab_len s.table.calls < s.capacity = omega (arith, uncollected_kept s.table.calls.slots, r.room) in
    let low = key_reserved s.is_fixed s.table.calls s.queues.reserved s.capacity k (omega (arith, c.put-ticket.ensures.key_in_range, c.put-ticket.ensures.capacity)) few i.reserved in
    let queued = added f ix now later s.queues k call (ap waiting_call c.put-ticket.ensures.was_vacant) (ap waiting_call u.changed) (λ j ne. ap waiting_call (u.others j ne)) (key_more s.first k s.keys.items) led low (subst (IsQueued f ix s.queues) none i.queued) in
    let before = All-weaker (λ (x : Ended g.row.V.Denot). x.number < s.next) (λ (x : Ended g.row.V.Denot). x.number < call.number) (λ x lt. omega (arith, r.number, lt)) s.ended.items i.ended_before in
    let keys = sym c.then-self-inside.ensures in
    record {
      queued = subst (λ l. IsQueued now (key_of s.first l) s.queues (Some k)) keys queued.0;
      kept = subst (λ l. IsKeptWell c.put-ticket.new.self.calls (key_of s.first l) s.ended.items) keys (kept_added s.table.calls c.put-ticket.new.self.calls k call ix later s.ended.items u (key_more s.first k s.keys.items) led before i.kept);
      last = subst (λ last. IsAbove last (s.next + 1)) (sym c.put-ticket.ensures.last) (omega (arith, r.number));
      numbers = rw c.then-self-inside.ensures (omega (arith, i.numbers, length-append s.keys.items (k ∷ [])));
      ended_before = All-weaker (λ (x : Ended g.row.V.Denot). x.number < s.next) (λ (x : Ended g.row.V.Denot). x.number < s.next + 1) (λ x lt. omega (arith, lt)) s.ended.items i.ended_before;
      each = rw c.then-self-inside.ensures (omega (arith, i.each, ap calls_in_service none, length-append s.keys.items (k ∷ [])));
      shown = i.shown;
      few = omega (arith, c.put-ticket.ensures.len, few);
      room = omega (arith, i.room, c.put-ticket.ensures.capacity);
      reserved = reserved_kept s.is_fixed s.table.calls c.put-ticket.new.self.calls s.queues.reserved s.capacity (omega (arith, c.put-ticket.ensures.len)) c.put-ticket.ensures.capacity i.reserved;
      for_ended = omega (arith, r.memory, i.for_all, ended_length s.ended.items s.before.items s.ended_now.items i.shown, s.ended_now.ok.0, length_same f ix s.queues.items i.queued.queued);
      for_all = i.for_all;
    }

pub returns-clause-after : goal.returns-clause-after
returns-clause-after g c =
    let s = c.self.inside in let i = c.self.invariant in
    let f = call_at s.table.calls in let ix = key_of s.first s.keys.items in
    let r = rw (← c.self.view_is) at c.requires in
    let call = c.args.call in
    let k = c.put-ticket.result.key in
    let none = none_serving f ix s.queues s.serving i.queued r.serving in
    let u = c.put-ticket.ensures.updates in
    let now = call_at c.put-ticket.new.self.calls in
    let later = key_of s.first (s.keys.items ++ k ∷ []) in
    let led : later call.number ≡ Some k = key_last s.first k s.keys.items call.number (omega (arith, r.number, i.numbers)) in
    let few : slab_len s.table.calls < s.capacity = omega (arith, uncollected_kept s.table.calls.slots, r.room) in
    let low = key_reserved s.is_fixed s.table.calls s.queues.reserved s.capacity k (omega (arith, c.put-ticket.ensures.key_in_range, c.put-ticket.ensures.capacity)) few i.reserved in
    let in_service : now k ≡ Some call = ap waiting_call u.changed in
    let queued = added f ix now later s.queues k call (ap waiting_call c.put-ticket.ensures.was_vacant) in_service (λ j ne. ap waiting_call (u.others j ne)) (key_more s.first k s.keys.items) led low (subst (IsQueued f ix s.queues) none i.queued) in
    rw (c.then-self-inside.ensures, ← c.self.view_is) (rw (queued.1, in_service) refl)

pub returns-clause-ticket : goal.returns-clause-ticket
returns-clause-ticket g c =
    let s = c.self.inside in
    rw (← c.self.view_is) (ticket_set s.table c.put-ticket.new.self c.put-ticket.result.key _ c.put-ticket.ensures.updates)
