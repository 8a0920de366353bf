use Rattle.std.proofs.Common.{◌≡◌, ◌+◌, ◌∙◌, ap, arith}
use Rattle.po_object.specs.Reservations.{reserved}
use Rattle.po_object.proofs.Seating.{fresh-more}
use Rattle.po_object.proofs.Rooms.{reserve-both, reserve-left, reserve-more, reserve-rest, reserve-own}
use Rattle.po_object.proofs.opening.hand_out.Goals as goal

pub loop-seat-preserved : goal.loop-seat-preserved
loop-seat-preserved g c = let inv = c.loop-seat.invariant in
    let len = c.pop.ensures.len in
    let a = c.split_off-made.ensures in
    let b = c.split_off-ran.ensures in
    let p = c.push_reserved.ensures in
    let n = inv.none in
    let test = c.loop-seat-test.true in
    record {
      parkers = search (arith, len);
      calls = omega arith;
      procedures = omega arith;
      none = (omega arith, omega arith);
      free = reserve-more g.Q.Receipts.is_bounded (c.args.seats + 1) c.loop-seat.seat c.loop-seat.reservations c.reserve-own.new.self inv.free c.reserve-own.ensures.total;
      rest = reserve-rest g.Q.Receipts.is_bounded (c.args.seats + 1) c.loop-seat.seat c.loop-seat.unreserved c.reserve-own.new.rest c.reserve-own.ensures.rest inv.rest;
      passes = rw (p.items, c.new.ensures) (fresh-more _ _ inv.passes);
      room = omega arith;
    }

pub reserve-own-requires-clause-both : goal.reserve-own-requires-clause-both
reserve-own-requires-clause-both g c =
    let inv = c.loop-seat.invariant in
    reserve-both g.Q.Receipts.is_bounded (c.args.seats + 1) c.loop-seat.seat c.loop-seat.reservations c.loop-seat.unreserved inv.free inv.rest

pub reserve-own-requires-clause-left : goal.reserve-own-requires-clause-left
reserve-own-requires-clause-left g c =
    let inv = c.loop-seat.invariant in
    let test = c.loop-seat-test.true in
    reserve-left g.Q.Receipts.is_bounded (c.args.seats + 1) c.loop-seat.seat c.loop-seat.unreserved inv.rest (omega (arith, test))

pub new-requires-clause-reservation : goal.new-requires-clause-reservation
new-requires-clause-reservation g c =
    let inv = c.loop-seat.invariant in
    reserve-own g.Q.Receipts.is_bounded (c.args.seats + 1) c.loop-seat.seat c.loop-seat.reservations c.reserve-own.result inv.free c.reserve-own.ensures.own

pub returns-clause-free : goal.returns-clause-free
returns-clause-free g c =
    let inv = c.loop-seat.invariant in
    let test = c.loop-seat-test.false in
    let all : c.loop-seat.seat ≡ c.args.seats = omega (arith, test, inv.parkers) in
    inv.free ∙ ap (reserved g.Q.Receipts.is_bounded) all
