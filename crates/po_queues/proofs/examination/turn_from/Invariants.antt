-- No entry before the next one has its turn.
use Rattle.std.proofs.Common.{◌≤◌, ◌-◌}
use Rattle.po_queues.proofs.TurnLemmas.{AllQuiet}
use Rattle.po_queues.proofs.examination.turn_from.Given as goal

abbrev pub invariant-loop-entry : goal.invariant-loop-entry
invariant-loop-entry g l = record {
  ahead : l.from ≤ l.next;
  quiet : AllQuiet g.U.Unit.meaning l.unit l.queues l.from l.next;
}

abbrev pub decreases-loop-entry : goal.decreases-loop-entry
decreases-loop-entry g l = l.to - l.next
