-- The events that may still come are few.
use Rattle.std.proofs.Common.{◌<◌, ◌≤◌, Bool, true, false, length, arith, if◌then◌else◌}
use Rattle.po_unit.specs.Meaning.{Meaning}
use Rattle.po_engine.specs.ObjectState.{ObjectState}
use Rattle.po_engine.specs.StateView.{AreLow}
use Rattle.po_engine.specs.Pick.{owed}
use Rattle.po_engine.proofs.Owing.{owed_few}

none_or_one : (b : Bool) → (if b then 0 else 1) ≤ 1
none_or_one true = omega arith
none_or_one false = omega arith

pub owed_low : {S V : Type 0} (m : Meaning S V) (s : ObjectState S V) → AreLow m s.waiting → length s.waiting < 18_446_744_073_709_551_616 → owed m s ≤ 9_000_000_000_000_000_000_000
owed_low m s low few = omega (arith, owed_few m s.waiting low, few, none_or_one s.finalized)
