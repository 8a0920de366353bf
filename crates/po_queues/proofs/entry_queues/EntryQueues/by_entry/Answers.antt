-- The queued keys are the same without times.
use Rattle.po_queues.proofs.EntryLemmas.{seen_queued}
use Rattle.po_queues.proofs.entry_queues.EntryQueues.by_entry.Goals as goal

pub returns-clause-items : goal.returns-clause-items
returns-clause-items c = seen_queued c.self.invariant c.self.view_is
