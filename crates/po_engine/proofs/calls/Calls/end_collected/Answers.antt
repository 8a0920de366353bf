-- The call is gone, and its end is the last of all.
use Rattle.std.proofs.Common.{◌≡◌, ◌<◌, ◌∷◌, [], Some, refl, sym, ap, ◌∙◌, arith, subst, List, length, length-append, append-nil}
use Rattle.std.specs.List.{All}
use Rattle.std.proofs.lemmas.List.Elements.{All-push}
use Rattle.slab.specs.Slab.{slab_len}
use Rattle.po_calls.specs.Calls.{waiting_call, IsAbove}
use Rattle.po_engine.specs.Ending.{ended_as}
use Rattle.po_engine.specs.Calls.{IsQueued, IsKeptWell, call_at, key_of, of_key, calls_in_service}
use Rattle.po_engine.specs.declared.ended.Ended.{Ended}
use Rattle.po_engine.proofs.ServiceSteps.{dropped}
use Rattle.po_engine.proofs.KeptSteps.{kept_taken_out, key_below, waiting_indexed, ticket_set}
use Rattle.po_engine.proofs.CallSteps.{IsLeft, all_reserved, left_between, reserved_given}
use Rattle.po_engine.proofs.TicketSteps.{live_at}
use Rattle.po_engine.proofs.Uncollected.{uncollected_kept}
use Rattle.po_engine.proofs.calls.Calls.end_collected.Goals as goal

pub invariant_of-self : goal.invariant_of-self
invariant_of-self g c =
    let s = c.self.inside in let i = c.self.invariant in
    let f = call_at s.table.calls in let ix = key_of s.first s.keys.items in
    let call = c.args.call in
    let k = c.in-Some.key in
    let is = c.in-Some.is in
    let serving = rw (← c.self.view_is) at c.requires in
    let at : f k ≡ Some call = ap (of_key f) (sym is) ∙ serving in
    let t = c.take_out.ensures in
    let table = c.take_out.new.self in
    let queued = dropped f ix (call_at table.calls) s.queues k (ap waiting_call t.updates.changed) (λ j ne. ap waiting_call (t.updates.others j ne)) (subst (IsQueued f ix s.queues) is i.queued) in
    let over = ended_as c.args.end call in
    let items = sym c.then-self-inside.ensures in let items_end = c.then-self-inside.ensures in
    let below : call.number < s.next = omega (arith, i.numbers, key_below s.first s.keys.items call.number k (waiting_indexed s.table.calls k call ix s.ended.items at i.kept)) in
    let r = c.room_left-self-inside.ensures in
    let left = c.room_left-self-inside.result in
    let given : IsLeft s.capacity (slab_len table.calls) table.calls.capacity s.queues.reserved left = record {
      all = r.all;
      none = r.none;
    } in
    let between = left_between s.capacity (slab_len table.calls) table.calls.capacity s.queues.reserved left (omega (arith, i.few, t.len)) given in
    record {
      queued = queued.0;
      kept = subst (IsKeptWell table.calls ix) items (kept_taken_out s.table.calls table.calls k call c.args.end ix s.ended.items at t.updates i.kept);
      last = subst (λ last. IsAbove last (s.next)) (sym t.last) i.last;
      numbers = i.numbers;
      ended_before = subst (All (λ x. x.number < s.next)) items (All-push (λ x. x.number < s.next) s.ended.items over i.ended_before below);
      each = omega (arith, i.each, ap calls_in_service is, ap (λ (l : List (Ended g.row.V.Denot)). length l) items_end, length-append s.ended.items (over ∷ []));
      shown = rw (c.copy-self-inside.ensures, c.clear.ensures.items) (sym (append-nil _));
      few = between.0;
      room = omega (arith, i.room, t.capacity, between.1);
      reserved = reserved_given s.is_fixed s.table.calls table.calls s.queues.reserved s.capacity left t.capacity given i.reserved;
      for_ended = omega (arith, i.for_ended, ap calls_in_service is, c.clear.ensures.len, c.clear.ensures.capacity);
      for_all = omega (arith, i.for_all, between.1, c.clear.ensures.capacity);
    }

pub returns-clause-after : goal.returns-clause-after
returns-clause-after g c =
    let s = c.self.inside in let i = c.self.invariant in
    let f = call_at s.table.calls in let ix = key_of s.first s.keys.items in
    let call = c.args.call in
    let k = c.in-Some.key in
    let t = c.take_out.ensures in
    let queued = dropped f ix (call_at c.take_out.new.self.calls) s.queues k (ap waiting_call t.updates.changed) (λ j ne. ap waiting_call (t.updates.others j ne)) (subst (IsQueued f ix s.queues) c.in-Some.is i.queued) in
    rw (c.copy-self-inside.ensures, c.then-self-inside.ensures, ← c.self.view_is) (rw (queued.1, length-append s.ended.items (ended_as c.args.end call ∷ [])) refl)

pub returns-clause-live : goal.returns-clause-live
returns-clause-live g c =
    let s = c.self.inside in
    let f = call_at s.table.calls in
    let serving = rw (← c.self.view_is) at c.requires in
    let at : f c.in-Some.key ≡ Some c.args.call = ap (of_key f) (sym c.in-Some.is) ∙ serving in
    rw (← c.self.view_is) (live_at s.table c.in-Some.key c.args.call at)

pub returns-clause-taken : goal.returns-clause-taken
returns-clause-taken g c =
    rw (← c.self.view_is) (ticket_set c.self.inside.table c.take_out.new.self c.in-Some.key _ c.take_out.ensures.updates)

pub returns-clause-kept_room : goal.returns-clause-kept_room
returns-clause-kept_room g c = λ room.
    let s = c.self.inside in let i = c.self.invariant in
    let has_room = rw (← c.self.view_is) at room in
    let few : slab_len s.table.calls < s.capacity = omega (arith, uncollected_kept s.table.calls.slots, has_room) in
    let all = all_reserved s.is_fixed s.table.calls s.queues.reserved s.capacity few i.reserved in
    rw (← c.self.view_is) (c.room_left-self-inside.ensures.all (omega (arith, all, c.take_out.ensures.capacity)))
