-- The view stays the same, and each call is in one of the rows.
use Rattle.std.proofs.Common.{◌≡◌}
use Rattle.po_queues.specs.Expiring.{ExpirationsView}
use Rattle.po_queues.specs.Timed.{HoldsExpirations}
use Rattle.po_queues.proofs.PlaceLemmas.{numbers}
use Rattle.po_queues.proofs.expirations.Expirations.rise.Given as goal

abbrev pub invariant-loop-key : goal.invariant-loop-key
invariant-loop-key l =
    let s = l.self-inside in
    let seen : ExpirationsView = record { clock = s.clock; calls = s.calls.items } in
    record { seen_is : seen ≡ l.fn.self; holds : HoldsExpirations s.calls.items s.later s.due l.clock }

abbrev pub decreases-loop-key : goal.decreases-loop-key
decreases-loop-key l = numbers l.self-inside.later
