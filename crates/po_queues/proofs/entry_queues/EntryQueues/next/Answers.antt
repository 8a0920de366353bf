-- The next key among the arrivals is the next of all keys.
use Rattle.std.proofs.Common.{ap, ◌∙◌}
use Rattle.po_queues.specs.QueuedKeys.{key_after}
use Rattle.po_queues.proofs.EntryLemmas.{seen_arrived}
use Rattle.po_queues.proofs.entry_queues.EntryQueues.next.Goals as goal

pub returns : goal.returns
returns c = c.after.ensures ∙ ap (key_after c.args.key) (seen_arrived c.self.invariant c.self.view_is)
