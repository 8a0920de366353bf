use Rattle.std.proofs.Common.{◌≡◌}
use Rattle.po_core.specs.View.{ended_now}
use Rattle.po_script.specs.Tickets.{Knows}
use Rattle.po_script.proofs.CollectLemmas.{AreCollectedTo}
use Rattle.po_script.proofs.collection.collect.Given as goal

abbrev pub invariant-loop-index : goal.invariant-loop-index
invariant-loop-index g l =
    record {
      object : l.core.object ≡ l.fn.core.object;
      knows : Knows l.core.tickets l.tickets;
      collected : AreCollectedTo l.core.tickets (ended_now l.fn.core.object) l.index;
    }
