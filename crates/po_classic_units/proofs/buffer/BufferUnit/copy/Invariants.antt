use Rattle.std.proofs.Common.{◌≡◌, ◌+◌, ◌≤◌, ◌++◌, length}
use Rattle.std.specs.VecDeque.{deque_len, deque_capacity}
use Rattle.std.specs.VecDeque.Iter.{deque_iter_rest}
use Rattle.po_classic_units.proofs.buffer.BufferUnit.copy.Given as goal

abbrev pub invariant-loop-value : goal.invariant-loop-value
invariant-loop-value l = record {
  copied : l.self-inside.values.items ≡ l.values.items ++ deque_iter_rest l.value-iterator;
  room : deque_len l.values + length (deque_iter_rest l.value-iterator) ≤ deque_capacity l.values;
  reserved : l.self-inside.capacity ≤ deque_capacity l.values;
}
