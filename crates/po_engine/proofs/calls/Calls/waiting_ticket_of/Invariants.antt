-- No call before the next key is of the owner.
use Rattle.std.proofs.Common.{◌≡◌, length}
use Rattle.std.specs.List.{find}
use Rattle.po_queues.specs.QueuedKeys.{first_key}
use Rattle.po_queues.specs.Arrived.{arrived_keys}
use Rattle.po_engine.specs.WaitingCalls.{is_of}
use Rattle.po_engine.specs.Calls.{call_at, waiting_in}
use Rattle.po_engine.proofs.CallWalks.{left_from}
use Rattle.po_engine.proofs.calls.Calls.waiting_ticket_of.Given as goal

abbrev pub invariant-loop-next : goal.invariant-loop-next
invariant-loop-next g l =
    let s = l.self-inside in
    let left = left_from l.next s.queues.items in
    record {
      begins : first_key (arrived_keys left) ≡ l.next;
      rest : find (is_of l.owner) (waiting_in (call_at s.table.calls) s.queues.items) ≡ find (is_of l.owner) (waiting_in (call_at s.table.calls) left);
    }

abbrev pub decreases-loop-next : goal.decreases-loop-next
decreases-loop-next g l = length (left_from l.next l.self-inside.queues.items)
