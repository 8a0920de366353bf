-- The outcomes that a history keeps, after one more call has ended.
use Rattle.std.proofs.Common.{◌≡◌, ◌≢◌, ℕ, zero, suc, ◌+◌, ◌==◌, ◌<◌, ◌≤◌, List, [], ◌∷◌, ◌++◌, length, ◌-◌, take, drop, get_or, length-append, length-drop, refl, sym, ap, ◌∙◌, arith, inl, inr, Bool, true, false, cond, Option, Some, None, subst}
use Rattle.std.specs.List.{All, find, count_by}
use Rattle.std.specs.Option.{option_or}
use Rattle.std.proofs.Math.Seq.{take-append-add, take-length}
use Rattle.std.proofs.lemmas.List.{get_or-append-add, take-append-drop, drop-drop}
use Rattle.std.proofs.lemmas.List.Folds.{find-append}
use Rattle.std.proofs.lemmas.List.Sums.{count_by_more_yes, sum_by-take-le}
use Rattle.std.proofs.lemmas.Bool.Decides.{nat_tests}
use Rattle.std.proofs.lemmas.Bool.{cases_eq}
use Rattle.po_history.specs.Histories.{HistoryView, outcome_of}
use Rattle.po_engine.specs.declared.ended.Ended.{Ended}
use Rattle.po_engine.specs.Ending.{has_ended}
use Rattle.po_core.specs.Outcomes.{AreOutcomes}
use Rattle.po_engine.proofs.Absent.{eq_self}
use Rattle.po_engine.proofs.Sums.{sum_by-cons}

module _ {X : Type 0} (p : X → Bool) where
  none_there : (b : Bool) (x : X) (xs : List X) → p x ≡ b → cond b 1 0 + count_by p xs ≡ 0 → (count_by p xs ≡ 0 → find p xs ≡ None) → cond b (Some x) (find p xs) ≡ None
  none_there true x xs e h k = absurd (omega arith)
  none_there false x xs e h k = k (omega arith)

  -- If none is counted, none is found.
  pub none_counted : (xs : List X) → count_by p xs ≡ 0 → find p xs ≡ None
  none_counted [] h = refl
  none_counted (x ∷ xs) h = none_there (p x) x xs refl (sym (sum_by-cons (λ y. cond (p y) 1 0) x xs) ∙ h) (none_counted xs)

  -- What passes is counted.
  pub counted_at : (xs : List X) (i : ℕ) (d : X) → i < length xs → p (get_or xs i d) ≡ true → 1 ≤ count_by p xs
  counted_at xs i d lt t =
      let more : count_by p (take (i + 1) xs) ≡ count_by p (take i xs) + 1 = count_by_more_yes p xs i d lt t in
      omega (arith, more, sum_by-take-le (λ y. cond (p y) 1 0) xs (i + 1))

or_none : {X : Type 0} (o : Option X) → option_or o None ≡ o
or_none None = refl
or_none (Some x) = refl

differs : (k n : ℕ) → n ≢ k → (k == n) ≡ false
differs k n h = grind (arith, nat_tests)

nothing_more : {X : Type 0} (xs : List (Option X)) (i : ℕ) → get_or (xs ++ None ∷ []) i None ≡ get_or xs i None
nothing_more [] zero = refl
nothing_more [] (suc i) = refl
nothing_more (x ∷ xs) zero = refl
nothing_more (x ∷ xs) (suc i) = nothing_more xs i

module _ {V : Type 0} where
  -- Room for one more outcome changes no outcome.
  pub outcomes_reserved : (h : HistoryView V) (room n : ℕ) → outcome_of (record h { owed = room; outcomes = h.outcomes ++ None ∷ [] }) n ≡ outcome_of h n
  outcomes_reserved h room n = rw (nothing_more h.outcomes (n - h.first_number)) refl

  -- A call that ends only once isn't among the earlier ended calls.
  pub not_earlier : (xs : List (Ended V)) (i : ℕ) (x : Ended V) → i < length xs → x ≡ get_or xs i x → count_by (has_ended x.number) xs ≤ 1 → find (has_ended x.number) (take i xs) ≡ None
  not_earlier xs i x lt is once =
      let test = has_ended x.number in
      let here : test (get_or xs i x) ≡ true = subst (λ y. test y ≡ true) is (eq_self x.number) in
      let more : count_by test (take (i + 1) xs) ≡ count_by test (take i xs) + 1 = count_by_more_yes test xs i x lt here in
      let some : count_by test (take (i + 1) xs) ≤ count_by test xs = sum_by-take-le (λ y. cond (test y) 1 0) xs (i + 1) in
      none_counted test (take i xs) (omega (arith, more, some, once))

  last_found : (xs : List (Ended V)) (x : Ended V) → find (has_ended x.number) xs ≡ None → find (has_ended x.number) (xs ++ x ∷ []) ≡ Some x
  last_found xs x h = rw (find-append, h, eq_self) refl

  other_found : (xs : List (Ended V)) (x : Ended V) (n : ℕ) → n ≢ x.number → find (has_ended n) (xs ++ x ∷ []) ≡ find (has_ended n) xs
  other_found xs x n h = rw (find-append, differs x.number n h) (or_none (find (has_ended n) xs))

  -- The outcomes are those of the ended calls, with one more.
  pub outcomes_push : (old new : HistoryView V) (xs : List (Ended V)) (x : Ended V) → find (has_ended x.number) xs ≡ None → AreOutcomes old xs → outcome_of new x.number ≡ Some x.end → ((m : ℕ) → m ≢ x.number → outcome_of new m ≡ outcome_of old m) → AreOutcomes new (xs ++ x ∷ [])
  outcomes_push old new xs x none h set others = λ n. elim (cases_eq n x.number) [
    | inl same ↦ rw (same, last_found xs x none) set
    | inr other ↦ rw (other_found xs x n other) (others n other ∙ h n)
  ]

  -- A further call hasn't ended among the earlier ones, nor among those of the further ones that come before it.
  pub not_before : (old now : List (Ended V)) (i : ℕ) (x : Ended V) → i < length now → x ≡ get_or now i x → count_by (has_ended x.number) (old ++ now) ≤ 1 → find (has_ended x.number) (old ++ take i now) ≡ None
  not_before old now i x lt is once =
      let below : length old + i < length (old ++ now) = omega (arith, lt, length-append old now) in
      ap (find (has_ended x.number)) (sym (take-append-add old now i)) ∙ not_earlier (old ++ now) (length old + i) x below (is ∙ sym (get_or-append-add old now i x)) once

  -- What holds of all ended calls holds of a further one.
  pub later_holds : (P : Ended V → Type 0) (old now : List (Ended V)) (i : ℕ) (x : Ended V) → i < length now → x ≡ get_or now i x → All P (old ++ now) → P x
  later_holds P old now i x lt is all = subst P (get_or-append-add old now i x ∙ sym is) (all (length old + i) x (omega (arith, lt, length-append old now)))

-- What is noted of a list is a part of it, and the rest is what comes after that part.
pub rest_noted : {X : Type 0} (all : List X) (before noted k : ℕ) → before + noted ≡ k → k ≤ length all → take k all ++ take (length (drop before all) - noted) (drop noted (drop before all)) ≡ all
rest_noted all before noted k is le =
    let behind : drop noted (drop before all) ≡ drop k all = drop-drop noted before all ∙ ap (λ i. drop i all) is in
    let len : length (drop before all) - noted ≡ length (drop k all) = omega (arith, length-drop before all, length-drop k all, is) in
    rw (behind, len, take-length (drop k all)) (take-append-drop k all)
