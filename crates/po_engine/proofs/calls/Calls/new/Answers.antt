-- No call is kept, and there is room for none.
use Rattle.std.proofs.Common.{◌≡◌, ◌∙◌, ap, sym, arith, [], false}
use Rattle.std.specs.List.{count_by}
use Rattle.std.specs.Option.{is_some}
use Rattle.po_queues.specs.Arrived.{EntryQueuesView}
use Rattle.po_engine.proofs.CallSteps.{begun}
use Rattle.po_engine.proofs.Uncollected.{uncollected_kept}
use Rattle.po_engine.specs.Tickets.{uncollected}
use Rattle.po_engine.proofs.calls.Calls.new.Goals as goal

pub invariant_of-result : goal.invariant_of-result
invariant_of-result g c =
    let t = c.new.ensures in
    let q = c.in_ok-new.field-0 in
    let w = c.new-6.ensures in
    let none : count_by is_some c.new.result.calls.slots ≡ 0 = sym (uncollected_kept c.new.result.calls.slots) ∙ ap uncollected t.numbers in
    let items : q.items ≡ [] = ap (λ (v : EntryQueuesView). v.items) c.in_ok-new.ensures in
    begun c.new.result q c.new-3.result.items c.new-4.result.items c.new-5.result.items c.new-6.result c.args.first 0 false
    t.vacant none (omega arith) t.last items (λ lt. absurd (omega (arith, lt))) c.new-3.ensures c.new-4.ensures c.new-5.ensures w.items w.len (omega arith)
