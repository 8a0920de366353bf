-- The node has the number of the root.
use Rattle.std.proofs.Common.{◌≡◌, ◌<◌, ◌-◌, ◌*◌}
use Rattle.po_queues.specs.Least.{number_of}
use Rattle.po_queues.proofs.minima.least_leaf.Given as goal

abbrev pub invariant-loop-at : goal.invariant-loop-at
invariant-loop-at l = record {
  node : l.at < 2 * l.leaves - 1;
  least : number_of l.nodes.items l.at ≡ number_of l.nodes.items (2 * l.leaves - 2);
}

abbrev pub decreases-loop-at : goal.decreases-loop-at
decreases-loop-at l = l.at
