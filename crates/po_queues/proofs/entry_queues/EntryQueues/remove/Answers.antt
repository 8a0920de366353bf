-- The key is taken out of all three, if it was queued.
use Rattle.std.proofs.Common.{sym, ◌∙◌, ap}
use Rattle.po_queues.specs.QueuedKeys.{occurs}
use Rattle.po_queues.proofs.EntryLemmas.{seen_keys, left_keeps, left_view, without_keeps, without_view}
use Rattle.po_queues.proofs.entry_queues.EntryQueues.remove.Goals as goal

pub invariant_of-self : goal.invariant_of-self
invariant_of-self c = rw c.remove.ensures.others
    (left_keeps c.self.invariant c.args.key (sym c.remove.ensures.was_queued ∙ c.if-not-remove.true))

pub returns-then-not-remove-clause-was_queued : goal.returns-then-not-remove-clause-was_queued
returns-then-not-remove-clause-was_queued c =
    sym c.if-not-remove.true ∙ c.remove.ensures.was_queued
    ∙ ap (occurs c.args.key) (seen_keys c.self.invariant c.self.view_is)

pub returns-then-not-remove-clause-others : goal.returns-then-not-remove-clause-others
returns-then-not-remove-clause-others c =
    let s = c.self.inside in
    rw (c.remove.ensures.others, ← c.self.view_is) (left_view s.reserved s.by_entry s.expirations c.args.key)

pub invariant_of-self-2 : goal.invariant_of-self-2
invariant_of-self-2 c =
    rw (c.remove.ensures.others, c.remove-2.ensures, c.remove-3.ensures.others)
    (without_keeps c.self.invariant c.args.key)

pub returns-clause-was_queued : goal.returns-clause-was_queued
returns-clause-was_queued c =
    sym c.if-not-remove.false ∙ c.remove.ensures.was_queued
    ∙ ap (occurs c.args.key) (seen_keys c.self.invariant c.self.view_is)

pub returns-clause-others : goal.returns-clause-others
returns-clause-others c =
    let s = c.self.inside in
    rw (c.remove.ensures.others, c.remove-3.ensures.others, ← c.self.view_is)
    (without_view s.reserved s.by_entry s.expirations c.args.key)
