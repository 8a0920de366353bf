-- A key with a link is taken out; one without a link isn't queued.
use Rattle.std.proofs.Common.{refl, sym, arith}
use Rattle.std.proofs.lemmas.List.{get_or_read}
use Rattle.po_queues.proofs.QueueLemmas.{remove_at, has_link}
use Rattle.po_queues.proofs.HoldLemmas.{no_link}
use Rattle.po_queues.proofs.queues.Queues.remove.Goals as goal

pub returns-in_default-clause-was_queued : goal.returns-in_default-clause-was_queued
returns-in_default-clause-was_queued c = sym (no_link c.args.key c.args.self.now.items (sym c.in_default.ensures)).0

pub returns-in_default-clause-others : goal.returns-in_default-clause-others
returns-in_default-clause-others c = rw (no_link c.args.key c.args.self.now.items (sym c.in_default.ensures)).1 refl

pub replace_if-requires : goal.replace_if-requires
replace_if-requires c =
    let i = c.self.invariant in
    let l = has_link i c.self.view_is c.args.key c.in-Some.link c.in-Some.ensures in
    omega (arith, l.entry, i.firsts_len, c.from-index.ensures)

pub replace_if-requires-2 : goal.replace_if-requires-2
replace_if-requires-2 c =
    let i = c.self.invariant in
    let l = has_link i c.self.view_is c.args.key c.in-Some.link c.in-Some.ensures in
    omega (arith, l.entry, i.lasts_len, c.from-index.ensures)

pub index-requires : goal.index-requires
index-requires c =
    let l = has_link c.self.invariant c.self.view_is c.args.key c.in-Some.link c.in-Some.ensures in
    omega (arith, l.entry, c.self.inside.counts.ok.0, c.from-index.ensures)

pub index_mut-requires-2 : goal.index_mut-requires-2
index_mut-requires-2 c =
    let l = has_link c.self.invariant c.self.view_is c.args.key c.in-Some.link c.in-Some.ensures in
    omega (arith, l.entry, c.self.inside.counts.ok.0, c.from-index.ensures)

pub mark-requires : goal.mark-requires
mark-requires c =
    let i = c.self.invariant in
    let l = has_link i c.self.view_is c.args.key c.in-Some.link c.in-Some.ensures in
    omega (arith, l.entry, i.busy.enough)

pub overflow_sub-count : goal.overflow_sub-count
overflow_sub-count c =
    let l = has_link c.self.invariant c.self.view_is c.args.key c.in-Some.link c.in-Some.ensures in
    let count = get_or_read c.self.inside.counts.items c.from-index.result _
    (omega (arith, l.entry, c.from-index.ensures)) c.index.ensures 0 in
    omega (arith, rw c.from-index.ensures at count, l.is_counted)

pub overflow_sub-self : goal.overflow_sub-self
overflow_sub-self c = (has_link c.self.invariant c.self.view_is c.args.key c.in-Some.link
    c.in-Some.ensures).is_one_of_all

pub returns-clause-was_queued : goal.returns-clause-was_queued
returns-clause-was_queued c =
    let l = has_link c.self.invariant c.self.view_is c.args.key c.in-Some.link c.in-Some.ensures in
    rw (← c.self.view_is) (sym l.is_queued)

pub invariant_of-self : goal.invariant_of-self
invariant_of-self c =
    let i = c.self.invariant in
    let index = c.from-index.result in
    let here = c.from-index.ensures in
    let link = c.in-Some.link in
    let l = has_link i c.self.view_is c.args.key link c.in-Some.ensures in
    let count = get_or_read c.self.inside.counts.items index _ (omega (arith, l.entry, here)) c.index.ensures 0 in
    let m = c.mark.ensures in
    (remove_at i c.args.key link index here l.read _ count _ _ _ _ (rw c.set_after.ensures at c.set_before.ensures)
    c.replace_if.ensures c.replace_if-2.ensures
    (record { same = m.same; others = m.others; len = m.words })).keeps

pub returns-clause-others : goal.returns-clause-others
returns-clause-others c =
    let i = c.self.invariant in
    let index = c.from-index.result in
    let here = c.from-index.ensures in
    let link = c.in-Some.link in
    let l = has_link i c.self.view_is c.args.key link c.in-Some.ensures in
    let count = get_or_read c.self.inside.counts.items index _ (omega (arith, l.entry, here)) c.index.ensures 0 in
    let m = c.mark.ensures in
    rw (← c.self.view_is) (remove_at i c.args.key link index here l.read _ count _ _ _ _
    (rw c.set_after.ensures at c.set_before.ensures) c.replace_if.ensures c.replace_if-2.ensures
    (record { same = m.same; others = m.others; len = m.words })).view
