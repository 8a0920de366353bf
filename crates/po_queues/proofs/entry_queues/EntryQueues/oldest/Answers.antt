-- The first key among the arrivals is the first of all keys.
use Rattle.std.proofs.Common.{ap, ◌∙◌}
use Rattle.po_queues.specs.QueuedKeys.{first_key}
use Rattle.po_queues.proofs.EntryLemmas.{seen_arrived}
use Rattle.po_queues.proofs.entry_queues.EntryQueues.oldest.Goals as goal

pub returns : goal.returns
returns c = c.first.ensures ∙ ap first_key (seen_arrived c.self.invariant c.self.view_is)
