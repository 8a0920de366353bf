use Rattle.std.proofs.Common.{◌≡◌, ◌+◌, ◌≤◌, vec_len, length, sum_by}
use Rattle.std.specs.List.{All}
use Rattle.po_receipts.specs.Told.{IsToldOf}
use Rattle.po_object.specs.Seats.{ArePlaced}
use Rattle.po_object.proofs.closing.collect.Given as goal

abbrev pub invariant-loop-pass : goal.invariant-loop-pass
invariant-loop-pass g l = record {
  can : (goal.iterator-loop-pass g).can_next l.pass-iterator;
  finite : (goal.iterator-loop-pass g).is_finite l.pass-iterator;
  room : vec_len l.room ≡ l.seats;
  parts : (l.made.parts ≡ length l.yielded + 1) × (l.ran.parts ≡ length l.yielded + 1);
  bound : l.made.parts ≤ g.C.Ledger.parts;
  amounts : (l.made.amount ≡ sum_by (λ p. p.calls) l.yielded) × (l.ran.amount ≡ sum_by (λ p. p.procedures) l.yielded);
  placed : ArePlaced l.seats l.yielded l.room.items;
  told : All (IsToldOf g.C.CallLedger.end_of l.initial.log) l.yielded;
  log : l.log ≡ l.initial.log;
}
