-- Of the keys whose time has come, the one with the least stamp is the first in order of arrival.
use Rattle.po_queues.proofs.EntryLemmas.{seen_due}
use Rattle.po_queues.proofs.entry_queues.EntryQueues.first_due.Goals as goal

pub returns : goal.returns
returns c = record {
  found = seen_due c.self.invariant c.self.view_is c.recall_invariant.ensures c.first_due.result
      c.first_due.ensures.found c.first_due.ensures.none;
}
