use Rattle.std.proofs.Common.{◌≡◌, vec_len}
use Rattle.po_object.proofs.opening.prepare.Given as goal

abbrev pub invariant-loop-i : goal.invariant-loop-i
invariant-loop-i g l = record {
  parkers : vec_len l.parkers ≡ l.i;
  places : vec_len l.places ≡ l.i;
  room : vec_len l.room ≡ l.i;
  counts : vec_len l.counts ≡ l.i;
}
