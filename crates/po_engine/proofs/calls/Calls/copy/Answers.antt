-- What is kept is the same, with as much room or more.
use Rattle.std.proofs.Common.{arith}
use Rattle.po_engine.proofs.CallSteps.{with_room, reserved_below}
use Rattle.po_engine.proofs.Copies.{same_seen}
use Rattle.po_engine.proofs.calls.Calls.copy.Goals as goal

pub invariant_of-result-3 : goal.invariant_of-result-3
invariant_of-result-3 g c =
    let s = c.self.inside in let i = c.self.invariant in
    let t = c.in_ok-table.table in
    let q = c.reserve_below.new.queues in
    let e = c.in_ok-copied.ensures in
    let grows = rw c.in_ok-queues.ensures at c.reserve_below.ensures.grows in
    rw (c.table.view_is, c.queues.view_is, c.in_ok-table.ensures.same, c.reserve_below.ensures.only_room, c.in_ok-queues.ensures, c.copy-3.ensures, c.copy-4.ensures, c.copy-5.ensures)
    (with_room s.table s.queues s.keys.items s.ended.items s.before.items s.ended_now c.in_ok-copied.field-0 s.first s.next s.serving s.capacity s.capacity s.is_fixed t.calls.capacity q.reserved
    (omega arith) c.in_ok-table.ensures.room grows
    (reserved_below s.is_fixed (record s.table.calls { capacity = t.calls.capacity }) q.reserved s.capacity (omega (arith, c.in_ok-reserve_below.ensures.ok, c.capacity.ensures)))
    e.same e.len e.room (omega (arith, i.for_all, e.room)) i)

pub returns : goal.returns
returns g c =
    let s = c.self.inside in
    rw (← c.self.view_is)
    (same_seen s.first s.next s.serving s.capacity s.is_fixed s.table c.in_ok-table.table _ s.queues c.in_ok-queues.queues c.reserve_below.new.queues _ s.keys.items _ s.ended.items _ s.before.items _
    c.table.view_is c.in_ok-table.ensures.same c.queues.view_is c.reserve_below.ensures.only_room c.in_ok-queues.ensures
    c.copy-3.ensures c.copy-4.ensures c.copy-5.ensures)
