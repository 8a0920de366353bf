-- The keys queued on each entry are the same without times.
use Rattle.std.proofs.Common.{List, length, ap, ◌∙◌}
use Rattle.po_queues.specs.QueuedKeys.{QueuedKey, queue_of}
use Rattle.po_queues.proofs.EntryLemmas.{seen_queued}
use Rattle.po_queues.proofs.entry_queues.EntryQueues.counts.Goals as goal

pub returns-clause-each : goal.returns-clause-each
returns-clause-each c = λ e lt. c.counts.ensures.each e (rw (← c.self.view_is) at lt)
    ∙ ap (λ (items : List QueuedKey). length (queue_of e items)) (seen_queued c.self.invariant c.self.view_is)
