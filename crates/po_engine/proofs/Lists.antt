-- Lists without their first element that passes a test, and the counts of entries.
use Rattle.std.proofs.Common.{◌≡◌, ℕ, ◌<◌, List, [], ◌∷◌, get_or, refl, ap, Bool, true, false, cond, arith, subst, Some, None}
use Rattle.std.proofs.lemmas.Bool.Decides.{nat_tests}
use Rattle.po_calls.specs.declared.call.Call.{Call}
use Rattle.std.specs.List.{count_by, find}
use Rattle.po_engine.specs.Finding.{without_first}
use Rattle.po_queues.proofs.RangeLemmas.{get_or-map-below}
use Rattle.po_engine.specs.WaitingCalls.{counts_of, is_on}

module _ {X : Type 0} (p : X → Bool) where
  -- a list with no such element stays as it is, and an element that is found passes
  without_kept : (b : Bool) (x : X) (xs : List X) → p x ≡ b → cond b (Some x) (find p xs) ≡ None → (find p xs ≡ None → without_first p xs ≡ xs) → cond b xs (x ∷ without_first p xs) ≡ x ∷ xs
  without_kept true x xs e h k = cc
  without_kept false x xs e h k = ap (λ ys. x ∷ ys) (k h)

  pub without_none : (xs : List X) → find p xs ≡ None → without_first p xs ≡ xs
  without_none [] h = refl
  without_none (x ∷ xs) h = without_kept (p x) x xs refl h (without_none xs)

  passes : (b : Bool) (x y : X) (xs : List X) → p x ≡ b → cond b (Some x) (find p xs) ≡ Some y → (find p xs ≡ Some y → p y ≡ true) → p y ≡ true
  passes true x y xs e h k = let same : x ≡ y = cc in subst (λ z. p z ≡ true) same e
  passes false x y xs e h k = k h

  pub found_passes : (xs : List X) (y : X) → find p xs ≡ Some y → p y ≡ true
  found_passes [] y h = cc
  found_passes (x ∷ xs) y h = passes (p x) x y xs refl h (found_passes xs y)

pub found_on : {V : Type 0} (e : ℕ) (calls : List (Call V)) (x : Call V) → find (is_on e) calls ≡ Some x → x.entry ≡ e
found_on e calls x h = let t = found_passes (is_on e) calls x h in grind (arith, nat_tests)

-- the count of an entry is at its number (9.9)
pub count_at : {V : Type 0} (total : ℕ) (calls : List (Call V)) (e : ℕ) → e < total → get_or (counts_of total calls) e 0 ≡ count_by (is_on e) calls
count_at total calls e lt = get_or-map-below (λ k. count_by (is_on k) calls) total e lt
