use Rattle.std.proofs.Common.{◌≡◌}
use Rattle.po_engine.specs.Pick.{weight}
use Rattle.po_core.specs.Progress.{Settles, IsSameCommand}
use Rattle.po_core.proofs.core_in_action.CoreInAction.settle.Given as goal

abbrev pub invariant-loop : goal.invariant-loop
invariant-loop g l = record {
  settles : Settles g.U.Unit.meaning l.initial.self.object l.self.object;
  same : IsSameCommand l.initial.self.object l.self.object;
  tickets : l.self.tickets ≡ l.initial.self.tickets;
  capacity : l.self.capacity ≡ l.initial.self.capacity;
}

abbrev pub decreases-loop : goal.decreases-loop
decreases-loop g l = weight g.U.Unit.meaning l.self.object.state
