-- The older of two turns is the first up to one entry more, and in the end the first of all.
use Rattle.std.proofs.Common.{◌≤◌, ◌<◌, refl, sym}
use Rattle.po_queues.specs.Service.{turn_at}
use Rattle.po_queues.proofs.TurnLemmas.{past_next, below_next}
use Rattle.po_queues.proofs.StampLemmas.{none_below, older_step, all_told, each_item}
use Rattle.po_queues.proofs.examination.oldest_turn.Goals as goal

pub loop-entry-init : goal.loop-entry-init
loop-entry-init g c =
    sym (none_below (turn_at g.U.Unit.meaning c.args.unit.now c.args.queues.now) c.args.queues.now.items)

pub loop-entry-preserved : goal.loop-entry-preserved
loop-entry-preserved g c =
    let f = turn_at g.U.Unit.meaning c.args.unit.now c.args.queues.now in
    let next = c.loop-entry.next in
    let e = c.in-Some.entry in
    let found = c.in-Some.ensures.some in
    let items = c.args.queues.now.items in
    let all = each_item (λ i. next ≤ i → e ≤ i) items (past_next c.args.queues.now next e found) in
    older_step f next e items found.from_here c.recall_invariant.ensures.rising all _ _ _ c.older_of-found.ensures
    c.loop-entry.invariant c.stamped_turn.ensures

pub returns : goal.returns
returns g c =
    let f = turn_at g.U.Unit.meaning c.args.unit.now c.args.queues.now in
    let next = c.loop-entry.next in
    let idle = c.in_default.ensures.none refl in
    let all = each_item (λ i. i < next) c.args.queues.now.items (below_next c.args.queues.now next idle) in
    all_told f next c.args.queues.now.items all _ c.loop-entry.invariant _ c.selection_in.ensures
