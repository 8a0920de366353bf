-- The turn found so far is the first among the entries before the next one.
use Rattle.std.proofs.Common.{◌≡◌, ◌-◌, ltb}
use Rattle.po_queues.specs.Service.{turn_at}
use Rattle.po_queues.specs.Stamps.{first_stamped}
use Rattle.po_queues.proofs.examination.oldest_turn.Given as goal

abbrev pub invariant-loop-entry : goal.invariant-loop-entry
invariant-loop-entry g l =
    l.found ≡ first_stamped (λ i. ltb i l.next) (turn_at g.U.Unit.meaning l.unit l.queues) l.queues.items

abbrev pub decreases-loop-entry : goal.decreases-loop-entry
decreases-loop-entry g l = l.queues.total - l.next
