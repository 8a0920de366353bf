-- The keys are the same without times.
use Rattle.std.proofs.Common.{ap, ◌∙◌}
use Rattle.po_queues.specs.QueuedKeys.{occurs}
use Rattle.po_queues.proofs.EntryLemmas.{seen_keys}
use Rattle.po_queues.proofs.entry_queues.EntryQueues.contains.Goals as goal

pub returns : goal.returns
returns c = c.contains.ensures ∙ ap (occurs c.args.key) (seen_keys c.self.invariant c.self.view_is)
