-- The nodes so far are settled, and the leaves are as they were.
use Rattle.std.proofs.Common.{ℕ, ◌≡◌, ◌<◌, ◌-◌, ◌*◌, length, take}
use Rattle.po_queues.specs.Least.{IsMinimum}
use Rattle.po_queues.proofs.minima.settle.Given as goal

abbrev pub invariant-loop-above : goal.invariant-loop-above
invariant-loop-above l = record {
  nodes_len : length l.nodes.items ≡ 2 * l.leaves - 1;
  minima : (m : ℕ) → m < l.above → IsMinimum l.leaves l.nodes.items m;
  row : take l.leaves l.nodes.items ≡ take l.leaves l.fn.nodes.items;
}
