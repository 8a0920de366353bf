-- What the invariant says about the view.
use Rattle.std.proofs.Common.{subst}
use Rattle.po_queues.specs.QueuedKeys.{IsSound}
use Rattle.po_queues.proofs.QueueLemmas.{sound}
use Rattle.po_queues.proofs.queues.Queues.recall_invariant.Goals as goal

pub returns : goal.returns
returns c = subst IsSound c.self.view_is (sound c.self.invariant)
