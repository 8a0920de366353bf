-- The calls before the next key are in the list.
use Rattle.std.proofs.Common.{◌≡◌, ◌++◌, length, map}
use Rattle.po_queues.specs.QueuedKeys.{first_key}
use Rattle.po_queues.specs.Arrived.{arrived_keys}
use Rattle.po_engine.specs.Calls.{call_at, waiting_in}
use Rattle.po_engine.proofs.CallWalks.{left_from}
use Rattle.po_engine.proofs.calls.Calls.arrivals.Given as goal

abbrev pub invariant-loop-next : goal.invariant-loop-next
invariant-loop-next g l =
    let s = l.self-inside in
    let left = left_from l.next s.queues.items in
    record {
      begins : first_key (arrived_keys left) ≡ l.next;
      calls : map (λ a. a.call) l.list.items ++ waiting_in (call_at s.table.calls) left ≡ waiting_in (call_at s.table.calls) s.queues.items;
      places : map (λ a. a.place) l.list.items ++ map (λ i. i.stamp) left ≡ map (λ i. i.stamp) s.queues.items;
    }

abbrev pub decreases-loop-next : goal.decreases-loop-next
decreases-loop-next g l = length (left_from l.next l.self-inside.queues.items)
