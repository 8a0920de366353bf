use Rattle.std.proofs.Common.{◌≡◌, ◌<◌, Some, refl, sym, ap, ◌∙◌, arith, subst, ◌++◌, ◌∷◌, [], append_assoc, List, length, length-append}
use Rattle.std.specs.List.{All}
use Rattle.std.proofs.lemmas.List.Elements.{All-push}
use Rattle.po_calls.specs.Calls.{waiting_call, IsAbove}
use Rattle.po_engine.specs.Ending.{ended_as}
use Rattle.po_engine.specs.Calls.{IsQueued, IsKeptWell, call_at, key_of, of_key, calls_in_service}
use Rattle.po_engine.proofs.ServiceSteps.{dropped}
use Rattle.po_engine.proofs.KeptSteps.{kept_call, kept_ended, key_below, waiting_indexed}
use Rattle.po_engine.proofs.CallSteps.{reserved_kept}
use Rattle.po_engine.specs.declared.ended.Ended.{Ended}
use Rattle.po_engine.proofs.calls.Calls.end.Goals as goal

pub invariant_of-self : goal.invariant_of-self
invariant_of-self g c =
    let s = c.self.inside in let i = c.self.invariant in
    let f = call_at s.table.calls in let ix = key_of s.first s.keys.items in
    let call = c.args.call in
    let k = c.in-Some.key in
    let is = c.in-Some.is in
    let serving = rw (← c.self.view_is) at c.requires in
    let at : f k ≡ Some call = ap (of_key f) (sym is) ∙ serving in
    let u = c.finish.ensures.updates call (kept_call s.table k call.number call at refl) in
    let queued = dropped f ix (call_at c.finish.new.self.calls) s.queues k (ap waiting_call u.changed) (λ j ne. ap waiting_call (u.others j ne)) (subst (IsQueued f ix s.queues) is i.queued) in
    let items = sym c.then-self-inside.ensures in let items_end = c.then-self-inside.ensures in
    let below : call.number < s.next = omega (arith, i.numbers, key_below s.first s.keys.items call.number k (waiting_indexed s.table.calls k call ix s.ended.items at i.kept)) in
    record {
      queued = queued.0;
      kept = subst (IsKeptWell c.finish.new.self.calls ix) items (kept_ended s.table.calls c.finish.new.self.calls k call c.args.end ix s.ended.items at u i.kept);
      last = subst (λ last. IsAbove last (s.next)) (sym c.finish.ensures.room.last) i.last;
      numbers = i.numbers;
      ended_before = subst (All (λ x. x.number < s.next)) items (All-push (λ x. x.number < s.next) s.ended.items (ended_as c.args.end call) i.ended_before below);
      each = omega (arith, i.each, ap calls_in_service is, ap (λ (l : List (Ended g.row.V.Denot)). length l) items_end, length-append s.ended.items (ended_as c.args.end call ∷ []));
      shown = items_end ∙ ap (λ l. l ++ ended_as c.args.end call ∷ []) i.shown ∙ append_assoc s.before.items s.ended_now.items (ended_as c.args.end call ∷ []) ∙ ap (λ l. s.before.items ++ l) (sym c.push_reserved.ensures.items);
      few = omega (arith, i.few, c.finish.ensures.room.len);
      room = omega (arith, i.room, c.finish.ensures.room.capacity);
      reserved = reserved_kept s.is_fixed s.table.calls c.finish.new.self.calls s.queues.reserved s.capacity (omega (arith, c.finish.ensures.room.len)) c.finish.ensures.room.capacity i.reserved;
      for_ended = omega (arith, i.for_ended, ap calls_in_service is, c.push_reserved.ensures.len, c.push_reserved.ensures.capacity);
      for_all = omega (arith, i.for_all, c.push_reserved.ensures.capacity);
    }

pub returns : goal.returns
returns g c =
    let s = c.self.inside in let i = c.self.invariant in
    let f = call_at s.table.calls in let ix = key_of s.first s.keys.items in
    let call = c.args.call in
    let k = c.in-Some.key in
    let serving = rw (← c.self.view_is) at c.requires in
    let at : f k ≡ Some call = ap (of_key f) (sym c.in-Some.is) ∙ serving in
    let u = c.finish.ensures.updates call (kept_call s.table k call.number call at refl) in
    let queued = dropped f ix (call_at c.finish.new.self.calls) s.queues k (ap waiting_call u.changed) (λ j ne. ap waiting_call (u.others j ne)) (subst (IsQueued f ix s.queues) c.in-Some.is i.queued) in
    rw (c.then-self-inside.ensures, ← c.self.view_is) (rw (queued.1, c.finish.ensures.numbers) refl)
