-- What is taken out of a list of calls, and what isn't in it.
use Rattle.std.proofs.Common.{◌≡◌, ℕ, ◌+◌, ◌==◌, List, [], ◌∷◌, refl, sym, ◌∙◌, arith, Bool, true, false, cond}
use Rattle.std.specs.List.{count_by, All}
use Rattle.std.proofs.lemmas.List.Elements.{All-nil, All-cons, All-head, All-tail}
use Rattle.std.proofs.lemmas.Bool.Decides.{nat_tests}
use Rattle.po_calls.specs.declared.call.Call.{Call}
use Rattle.po_engine.specs.WaitingCalls.{has_number}
use Rattle.po_engine.specs.Finding.{without_first}
use Rattle.po_engine.proofs.Sums.{sum_by-cons}

pub eq_self : (n : ℕ) → (n == n) ≡ true
eq_self n = grind (arith, nat_tests)

module _ {X : Type 0} (P : X → Type 0) (p : X → Bool) where
  left : (b : Bool) (x : X) (xs : List X) → All P (x ∷ xs) → All P (without_first p xs) → All P (cond b xs (x ∷ without_first p xs))
  left true x xs h k = All-tail P x xs h
  left false x xs h k = All-cons P x (without_first p xs) (All-head P x xs h) k

  pub All-without : (xs : List X) → All P xs → All P (without_first p xs)
  All-without [] h = h
  All-without (x ∷ xs) h = left (p x) x xs h (All-without xs (All-tail P x xs h))

module _ {V : Type 0} where
  abbrev pub IsAbsent : ℕ → List (Call V) → Type 0
  IsAbsent n xs = All (λ y. has_number n y ≡ false) xs

  absent_one : (n : ℕ) (b : Bool) (x : Call V) (xs : List (Call V)) → has_number n x ≡ b → cond b 1 0 + count_by (has_number n) xs ≡ 0 → (count_by (has_number n) xs ≡ 0 → IsAbsent n xs) → IsAbsent n (x ∷ xs)
  absent_one n true x xs e h k = absurd (omega arith)
  absent_one n false x xs e h k = All-cons (λ y. has_number n y ≡ false) x xs e (k (omega arith))

  pub absent_from_count : (n : ℕ) (xs : List (Call V)) → count_by (has_number n) xs ≡ 0 → IsAbsent n xs
  absent_from_count n [] h = All-nil (λ y. has_number n y ≡ false)
  absent_from_count n (x ∷ xs) h = absent_one n (has_number n x) x xs refl (sym (sum_by-cons (λ y. cond (has_number n y) 1 0) x xs) ∙ h) (absent_from_count n xs)
