use Rattle.std.proofs.Common.{◌≡◌, Some, refl, sym, ap, ◌∙◌, arith, subst}
use Rattle.po_calls.specs.Calls.{waiting_call, IsAbove}
use Rattle.po_engine.specs.Calls.{IsQueued, call_at, key_of, of_key}
use Rattle.po_engine.proofs.ServiceSteps.{changed}
use Rattle.po_engine.proofs.KeptSteps.{kept_call, kept_changed}
use Rattle.po_engine.proofs.CallSteps.{reserved_kept}
use Rattle.po_engine.proofs.calls.Calls.requeue.Goals as goal

pub invariant_of-self : goal.invariant_of-self
invariant_of-self g c =
    let s = c.self.inside in let i = c.self.invariant in
    let f = call_at s.table.calls in let ix = key_of s.first s.keys.items in
    let call = c.args.call in
    let k = c.in-Some.key in
    let is = c.in-Some.is in
    let serving = rw (← c.self.view_is) at c.requires.in_service in
    let at : f k ≡ Some call = ap (of_key f) (sym is) ∙ serving in
    let u = c.requeue.ensures.updates call (kept_call s.table k call.number call at refl) in
    let moved = record call { entry = c.args.entry; value = c.args.value; without_abort = c.args.without_abort } in
    let now = call_at c.requeue.new.self.calls in
    let queued = changed f ix now s.queues k call moved at (ap waiting_call u.changed) refl (λ j ne. ap waiting_call (u.others j ne)) (subst (IsQueued f ix s.queues) is i.queued) in
    record {
      queued = subst (IsQueued now ix s.queues) (sym is) queued.0;
      kept = kept_changed s.table.calls c.requeue.new.self.calls k call moved ix s.ended.items at refl u i.kept;
      last = subst (λ last. IsAbove last (s.next)) (sym c.requeue.ensures.room.last) i.last;
      numbers = i.numbers;
      ended_before = i.ended_before;
      each = i.each;
      shown = i.shown;
      few = omega (arith, i.few, c.requeue.ensures.room.len);
      room = omega (arith, i.room, c.requeue.ensures.room.capacity);
      reserved = reserved_kept s.is_fixed s.table.calls c.requeue.new.self.calls s.queues.reserved s.capacity (omega (arith, c.requeue.ensures.room.len)) c.requeue.ensures.room.capacity i.reserved;
      for_ended = i.for_ended;
      for_all = i.for_all;
    }

pub returns-clause-after : goal.returns-clause-after
returns-clause-after g c =
    let s = c.self.inside in let i = c.self.invariant in
    let f = call_at s.table.calls in let ix = key_of s.first s.keys.items in
    let call = c.args.call in
    let k = c.in-Some.key in
    let is = c.in-Some.is in
    let serving = rw (← c.self.view_is) at c.requires.in_service in
    let at : f k ≡ Some call = ap (of_key f) (sym is) ∙ serving in
    let u = c.requeue.ensures.updates call (kept_call s.table k call.number call at refl) in
    let moved = record call { entry = c.args.entry; value = c.args.value; without_abort = c.args.without_abort } in
    let now = call_at c.requeue.new.self.calls in
    let queued = changed f ix now s.queues k call moved at (ap waiting_call u.changed) refl (λ j ne. ap waiting_call (u.others j ne)) (subst (IsQueued f ix s.queues) is i.queued) in
    let in_service : of_key now s.serving ≡ Some moved = ap (of_key now) is ∙ ap waiting_call u.changed in
    rw (← c.self.view_is) (rw (queued.1, c.requeue.ensures.numbers, in_service) refl)
