-- All nodes are settled except the next one above, and the leaves are as they were.
use Rattle.std.proofs.Common.{ℕ, ◌≡◌, ◌≢◌, ◌<◌, ◌+◌, ◌-◌, ◌*◌, ◌/◌, length, take}
use Rattle.po_queues.specs.Least.{IsMinimum}
use Rattle.po_queues.proofs.minima.settle_above.Given as goal

abbrev pub invariant-loop-at : goal.invariant-loop-at
invariant-loop-at l = record {
  nodes_len : length l.nodes.items ≡ 2 * l.leaves - 1;
  node : l.at < length l.nodes.items;
  minima : (m : ℕ) → m + 1 < l.leaves → m ≢ l.at / 2 → IsMinimum l.leaves l.nodes.items m;
  row : take l.leaves l.nodes.items ≡ take l.leaves l.fn.nodes.items;
}

abbrev pub decreases-loop-at : goal.decreases-loop-at
decreases-loop-at l = 2 * l.leaves - l.at
