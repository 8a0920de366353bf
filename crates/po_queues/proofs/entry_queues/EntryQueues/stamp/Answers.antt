-- The stamps are the same without times.
use Rattle.std.proofs.Common.{ap, ◌∙◌}
use Rattle.po_queues.specs.QueuedKeys.{stamp_of}
use Rattle.po_queues.proofs.EntryLemmas.{seen_queued}
use Rattle.po_queues.proofs.entry_queues.EntryQueues.stamp.Goals as goal

pub returns : goal.returns
returns c = c.stamp.ensures ∙ ap (stamp_of c.args.key) (seen_queued c.self.invariant c.self.view_is)
