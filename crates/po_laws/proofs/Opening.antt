-- A driven object that was just made meets `IsDriven`.
use Rattle.std.proofs.Common.{ℕ, ◌≡◌, ◌<◌, [], Bool, true, nat_le, nat_lt, ◌&&◌, if◌then◌else◌, refl, arith}
use Rattle.std.proofs.lemmas.Bool.Decides.{nat_tests}
use Rattle.std.proofs.lemmas.List.{length-replicate}
use Rattle.std.proofs.lemmas.List.Elements.{All-nil}
use Rattle.po_calls.specs.declared.call.Call.{Call}
use Rattle.po_driven.specs.AtRest.{told}
use Rattle.po_driven.specs.DrivenView.{IsDriven, at_opening}
use Rattle.po_driven.specs.DrivenCallsView.{opening_calls}

nobody : (n : ℕ) → ◌≡◌ {A = ℕ} 0 (if nat_le 1 n && nat_lt n 1 then 1 else 0)
nobody n = grind (arith, nat_tests)

pub opening_driven : (entries most : ℕ) (is_fixed : Bool) → IsDriven (at_opening (opening_calls entries most is_fixed) entries)
opening_driven entries most is_fixed = record {
  traced = record {
    leads = record { state = refl; serving = refl; left = λ p. refl };
    placed = record { low = omega arith; each = nobody };
    tickets = refl;
    rises = tt;
    later = All-nil (λ k. k < 0);
    place = refl;
  };
  waits = record {
    limits = length-replicate entries 0;
    awaits = record { idle = refl; closed = All-nil (λ (x : Call ℕ). told [] x.entry ≡ true); none_due = refl };
  };
}
