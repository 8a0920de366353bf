use Rattle.std.proofs.Common.{◌≤◌, ◌-◌, length}
use Rattle.po_receipts.specs.Agreement.{AgreeBelow, history_of}
use Rattle.po_receipts.proofs.comparison.compare.Given as goal

abbrev pub invariant-loop-first : goal.invariant-loop-first
invariant-loop-first g l = record {
  within : l.first ≤ length l.passes;
  agree : AgreeBelow l.core.object.state.ended (history_of l.core l.volumes) l.passes l.first;
}

abbrev pub decreases-loop-first : goal.decreases-loop-first
decreases-loop-first g l = length l.passes - l.first
