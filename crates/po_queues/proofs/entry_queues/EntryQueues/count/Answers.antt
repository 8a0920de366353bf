-- The keys queued on the entry are the same without times.
use Rattle.std.proofs.Common.{List, length, ap, ◌∙◌}
use Rattle.po_queues.specs.QueuedKeys.{QueuedKey, queue_of}
use Rattle.po_queues.proofs.EntryLemmas.{seen_queued}
use Rattle.po_queues.proofs.entry_queues.EntryQueues.count.Goals as goal

pub returns : goal.returns
returns c =
    c.count.ensures
    ∙ ap (λ (items : List QueuedKey). length (queue_of c.args.entry items))
    (seen_queued c.self.invariant c.self.view_is)
