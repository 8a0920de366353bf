-- From which length on a queue is full, and that a longer one has a first call.
use Rattle.std.proofs.Common.{ℕ, ◌≡◌, ◌++◌, List, [], ◌∷◌, Some, refl}
use Rattle.std.specs.Prelude.{IsSome}
use Rattle.std.specs.List.{slice_get}
use Rattle.std.proofs.lemmas.Bool.{ne_eqb}
use Rattle.po_calls.specs.declared.call.Call.{Call}
use Rattle.po_driven.specs.Noted.{full_at}

pub full_some : (limit : ℕ) → (limit ≡ 0 → ⊥) → Some limit ≡ full_at limit
full_some limit some = rw (ne_eqb limit 0 some) refl

-- if one more call is queued, there is a first one
pub one_waits : (xs : List (Call ℕ)) (x : Call ℕ) → IsSome (slice_get (xs ++ x ∷ []) 0)
one_waits [] x = refl
one_waits (y ∷ xs) x = refl
