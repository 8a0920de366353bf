-- The key is queued at the end, and there is room in the counts.
use Rattle.std.proofs.Common.{None, arith}
use Rattle.std.proofs.lemmas.List.{get_or_read}
use Rattle.po_queues.specs.QueuedKeys.{QueuedKey}
use Rattle.po_queues.proofs.QueueLemmas.{push_at}
use Rattle.po_queues.proofs.RoomLemmas.{count_fits}
use Rattle.po_queues.proofs.queues.Queues.append.Goals as goal

pub invariant_of-self : goal.invariant_of-self
invariant_of-self c =
    let s = c.self.inside in
    let i = c.self.invariant in
    let x : QueuedKey = record { entry = c.args.entry; key = c.args.key; stamp = c.args.stamp } in
    let r = rw (← c.self.view_is) at c.requires in
    let here = c.from-index.ensures in
    let index = c.from-index.result in
    let last = get_or_read s.lasts.items index _ (omega (arith, here, i.lasts_len, r.entry)) c.index-last.ensures None
    in
    let count = get_or_read s.counts.items index _ (omega (arith, here, r.entry)) c.index_mut-3.ensures.value 0 in
    let m = c.mark.ensures in
    (push_at i x index here r.entry r.reserved r.not_queued r.rises _ last _ count _ _ _ c.set_after.ensures
    c.set_first.ensures (record { same = m.same; others = m.others; len = m.words })).keeps

pub returns : goal.returns
returns c =
    let s = c.self.inside in
    let i = c.self.invariant in
    let x : QueuedKey = record { entry = c.args.entry; key = c.args.key; stamp = c.args.stamp } in
    let r = rw (← c.self.view_is) at c.requires in
    let here = c.from-index.ensures in
    let index = c.from-index.result in
    let last = get_or_read s.lasts.items index _ (omega (arith, here, i.lasts_len, r.entry)) c.index-last.ensures None
    in
    let count = get_or_read s.counts.items index _ (omega (arith, here, r.entry)) c.index_mut-3.ensures.value 0 in
    let m = c.mark.ensures in
    rw (← c.self.view_is) (push_at i x index here r.entry r.reserved r.not_queued r.rises _ last _ count _ _ _
    c.set_after.ensures c.set_first.ensures (record { same = m.same; others = m.others; len = m.words })).view

pub overflow_add-index_mut : goal.overflow_add-index_mut
overflow_add-index_mut c =
    let s = c.self.inside in
    let r = rw (← c.self.view_is) at c.requires in
    let here = c.from-index.ensures in
    let count = get_or_read s.counts.items c.from-index.result _ (omega (arith, here, r.entry))
    c.index_mut-3.ensures.value 0 in
    let room = count_fits c.self.invariant c.args.entry c.args.key r.entry r.reserved r.not_queued in
    omega (arith, rw here at count, room.count, s.links.ok.0)

pub overflow_add-self : goal.overflow_add-self
overflow_add-self c =
    let r = rw (← c.self.view_is) at c.requires in
    let room = count_fits c.self.invariant c.args.entry c.args.key r.entry r.reserved r.not_queued in
    omega (arith, room.all, c.self.inside.links.ok.0)
