-- No call is kept, and there is memory for as many as may be uncollected.
use Rattle.std.proofs.Common.{◌≡◌, ap, ◌∙◌, arith, [], true}
use Rattle.po_queues.specs.Arrived.{EntryQueuesView}
use Rattle.po_engine.proofs.CallSteps.{begun}
use Rattle.po_engine.proofs.calls.Calls.with_capacity.Goals as goal

pub invariant_of-result-3 : goal.invariant_of-result-3
invariant_of-result-3 g c =
    let t = c.in_ok-table.ensures in
    let q = c.reserve_below.new.queues in
    let now = c.in_ok-with_capacity.field-0 in let w = c.in_ok-with_capacity.ensures in
    let items : q.items ≡ [] = ap (λ (v : EntryQueuesView). v.items) (c.reserve_below.ensures.only_room) ∙ ap (λ (v : EntryQueuesView). v.items) c.in_ok-queues.ensures in
    rw (c.table.view_is, c.queues.view_is)
    (begun c.in_ok-table.table q c.new-2.result.items c.new-3.result.items c.new-4.result.items now c.args.first c.args.capacity true
    t.vacant t.len (omega (arith, t.len, t.room)) t.last items (omega (arith, c.in_ok-reserve_below.ensures.ok, c.capacity.ensures)) c.new-2.ensures c.new-3.ensures c.new-4.ensures w.items w.len w.capacity)
