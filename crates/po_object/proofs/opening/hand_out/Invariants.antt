use Rattle.std.proofs.Common.{◌≡◌, ◌+◌, ◌≤◌, vec_len, vec_capacity}
use Rattle.std.specs.Option.{option_map}
use Rattle.po_object.specs.Seats.{AreFresh}
use Rattle.po_object.specs.Reservations.{reserved}
use Rattle.po_object.proofs.opening.hand_out.Given as goal

abbrev pub invariant-loop-seat : goal.invariant-loop-seat
invariant-loop-seat g l = record {
  parkers : vec_len l.parkers + l.seat ≡ l.seats;
  calls : l.last_calls.parts + l.seat ≡ l.seats + 1;
  procedures : l.last_procedures.parts + l.seat ≡ l.seats + 1;
  none : (l.last_calls.amount ≡ 0) × (l.last_procedures.amount ≡ 0);
  free : l.reservations ≡ reserved g.Q.Receipts.is_bounded l.seat;
  rest : option_map (λ n. n + l.seat) l.unreserved ≡ reserved g.Q.Receipts.is_bounded (l.seats + 1);
  passes : AreFresh l.seat l.passes.items;
  room : l.seats ≤ vec_capacity l.passes;
}
