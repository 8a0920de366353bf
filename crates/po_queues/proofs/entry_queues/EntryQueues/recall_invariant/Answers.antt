-- The queues keep their own invariant, and each queued key is reserved.
use Rattle.std.proofs.Common.{subst}
use Rattle.po_queues.specs.Arrived.{AreInOrder}
use Rattle.po_queues.proofs.EntryLemmas.{in_order}
use Rattle.po_queues.proofs.entry_queues.EntryQueues.recall_invariant.Goals as goal

pub returns : goal.returns
returns c = subst AreInOrder c.self.view_is (in_order c.self.invariant c.recall_invariant.ensures)
