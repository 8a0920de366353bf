-- What is kept stays, whichever room was made; in the end there is room for one more.
use Rattle.std.proofs.Common.{◌≡◌, ◌+◌, ◌≤◌, ℕ, List, Option, map, option_map, is_some, count_by, refl, sym, arith, false, nat_lt}
use Rattle.std.proofs.lemmas.Bool.Decides.{nat_tests}
use Rattle.slab.specs.Slab.{slab_len}
use Rattle.po_calls.specs.declared.kept.Kept.{Kept}
use Rattle.po_engine.specs.Tickets.{uncollected}
use Rattle.po_engine.proofs.CallSteps.{with_more_room, none_reserved}
use Rattle.po_engine.proofs.Uncollected.{uncollected_kept}
use Rattle.po_engine.proofs.calls.Calls.reserve.Goals as goal

no_room : {V : Type 0} (slots : List (Option (Kept V))) (most : ℕ) → nat_lt (uncollected (map (option_map (λ k. k.call.number)) slots)) most ≡ false → most ≤ count_by is_some slots
no_room slots most full = grind (arith, nat_tests, uncollected_kept slots)

pub invariant_of-self : goal.invariant_of-self
invariant_of-self g c =
    let s = c.self.inside in let i = c.self.invariant in
    let fixed = rw (← c.self.view_is) at c.requires in
    let full = no_room s.table.calls.slots s.capacity (sym (rw (← c.self.view_is) at c.if-has_room.ensures)) in
    rw c.reserve_one.ensures.stays (with_more_room s.table s.queues s.keys.items s.ended.items s.before.items s.ended_now s.ended_now s.first s.next s.serving s.capacity s.capacity s.is_fixed c.reserve_one.new.self.calls.capacity s.queues.reserved fixed
    (omega arith) (omega (arith, i.room, c.reserve_one.ensures.grows)) (omega arith) (none_reserved s.table.calls s.is_fixed c.reserve_one.new.self.calls.capacity s.queues.reserved s.queues.reserved s.capacity fixed full i.reserved) refl refl (omega arith) i.for_all i)

pub invariant_of-self-in_err-reserve_below : goal.invariant_of-self-in_err-reserve_below
invariant_of-self-in_err-reserve_below g c =
    let s = c.self.inside in let i = c.self.invariant in
    let fixed = rw (← c.self.view_is) at c.requires in
    let full = no_room s.table.calls.slots s.capacity (sym (rw (← c.self.view_is) at c.if-has_room.ensures)) in
    rw (c.reserve_one.ensures.stays, c.reserve_below.ensures.only_room) (with_more_room s.table s.queues s.keys.items s.ended.items s.before.items s.ended_now s.ended_now s.first s.next s.serving s.capacity s.capacity s.is_fixed c.reserve_one.new.self.calls.capacity c.reserve_below.new.queues.reserved fixed
    (omega arith) (omega (arith, i.room, c.reserve_one.ensures.grows)) c.reserve_below.ensures.grows (none_reserved s.table.calls s.is_fixed c.reserve_one.new.self.calls.capacity s.queues.reserved c.reserve_below.new.queues.reserved s.capacity fixed full i.reserved) refl refl (omega arith) i.for_all i)

pub invariant_of-self-in_err-reserve : goal.invariant_of-self-in_err-reserve
invariant_of-self-in_err-reserve g c =
    let s = c.self.inside in let i = c.self.invariant in
    let fixed = rw (← c.self.view_is) at c.requires in
    let full = no_room s.table.calls.slots s.capacity (sym (rw (← c.self.view_is) at c.if-has_room.ensures)) in
    rw (c.reserve_one.ensures.stays, c.reserve_below.ensures.only_room) (with_more_room s.table s.queues s.keys.items s.ended.items s.before.items s.ended_now c.reserve.new.self s.first s.next s.serving s.capacity s.capacity s.is_fixed c.reserve_one.new.self.calls.capacity c.reserve_below.new.queues.reserved fixed
    (omega arith) (omega (arith, i.room, c.reserve_one.ensures.grows)) c.reserve_below.ensures.grows (none_reserved s.table.calls s.is_fixed c.reserve_one.new.self.calls.capacity s.queues.reserved c.reserve_below.new.queues.reserved s.capacity fixed full i.reserved) c.reserve.ensures.items c.reserve.ensures.len c.reserve.ensures.capacity (omega (arith, i.for_all, c.reserve.ensures.capacity)) i)

pub invariant_of-self-2 : goal.invariant_of-self-2
invariant_of-self-2 g c =
    let s = c.self.inside in let i = c.self.invariant in
    let fixed = rw (← c.self.view_is) at c.requires in
    let full = no_room s.table.calls.slots s.capacity (sym (rw (← c.self.view_is) at c.if-has_room.ensures)) in
    let stays = c.reserve_one.ensures.stays in
    let room = rw stays at c.in_ok-reserve_one.ensures.room in
    let len = rw stays at c.len.ensures in
    let capacity = rw stays at c.capacity.ensures in
    let one_more = rw c.in_ok-capacity.ensures.ok_part at c.checked_add.ensures in
    let most : c.in_ok-capacity.capacity ≡ slab_len s.table.calls + 1 = omega (arith, one_more.1, len) in
    rw (stays, c.reserve_below.ensures.only_room) (with_more_room s.table s.queues s.keys.items s.ended.items s.before.items s.ended_now c.reserve.new.self s.first s.next s.serving s.capacity c.in_ok-capacity.capacity s.is_fixed c.reserve_one.new.self.calls.capacity c.reserve_below.new.queues.reserved fixed
    (omega (arith, full, most)) (omega (arith, most, room)) c.reserve_below.ensures.grows (λ lt. omega (arith, capacity, c.in_ok-reserve_below.ensures.ok)) c.reserve.ensures.items c.reserve.ensures.len c.reserve.ensures.capacity
    (omega (arith, c.saturating_sub-more.ensures, c.in_ok-reserve.ensures.ok, c.len-2.ensures, c.reserve.ensures.len)) i)
