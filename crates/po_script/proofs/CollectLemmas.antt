-- The tickets that a script keeps: one more is added, and the ended calls are collected one after another.
use Rattle.std.proofs.Common.{◌≡◌, ◌≢◌, ℕ, zero, suc, ◌+◌, ◌<◌, true, List, [], ◌∷◌, length, drop, get_or, Bool}
use Rattle.std.proofs.Common.{Option, Some, None, refl, sym, ap, subst, ◌∙◌, inl, inr, arith, length-drop}
use Rattle.std.specs.List.{find, slice_index_or}
use Rattle.std.specs.Option.{IsSome}
use Rattle.std.proofs.lemmas.Bool.{cases_Bool, cases_eq, eq-eqb}
use Rattle.std.proofs.lemmas.List.{get_or_default, get_or-drop}
use Rattle.po_engine.specs.declared.ended.Ended.{Ended}
use Rattle.po_engine.specs.Ending.{has_ended}
use Rattle.po_engine.specs.Tickets.{number_at, SetsTicket}
use Rattle.po_script.specs.Tickets.{key_of, Knows, IsCollected}
use Rattle.po_script.specs.declared.tickets.Tickets.{Tickets}

some_same : (a b : ℕ) → Some a ≡ Some b → a ≡ b
some_same a b e = cc

none_some : (n : ℕ) → None ≡ Some n → ⊥
none_some n e = cc

-- an element that passes the test is found
found : {X : Type 0} (p : X → Bool) (xs : List X) (i : ℕ) (d : X)
    → i < length xs → p (get_or xs i d) ≡ true → IsSome (find p xs)
found p [] i d h e = absurd (omega (arith, h))
found p (x ∷ xs) zero d h e = simp e refl
found p (x ∷ xs) (suc i) d h e = elim (cases_Bool (p x)) [
  | inl passes ↦ simp passes refl
  | inr fails ↦ simp fails (found p xs i d (omega (arith, h)) e)
]

-- each of the calls that ended last is found among all ended ones
pub found_ended : {V : Type 0} (xs : List (Ended V)) (before i : ℕ) (d : Ended V)
    → i < length (drop before xs) → IsSome (find (has_ended (get_or (drop before xs) i d).number) xs)
found_ended {V} xs before i d h =
    let low : before + i < length xs = omega (arith, h, length-drop before xs) in
    let n = (get_or xs (before + i) d).number in
    rw (get_or-drop before xs i d) (found (has_ended n) xs (before + i) d low (eq-eqb n n refl))

-- The first `many` calls of xs are collected.
abbrev pub AreCollectedTo : {V : Type 0} → List (Option ℕ) → List (Ended V) → ℕ → Type 0
AreCollectedTo {V} core xs many =
    (k : ℕ) (d : Ended V) → k < many → k < length xs → IsCollected core (slice_index_or xs k d).number

-- one more call is collected
pub collected_more : {V : Type 0} (old new : List (Option ℕ)) (xs : List (Ended V)) (index : ℕ) (e : Ended V)
    → AreCollectedTo old xs index
    → ((n : ℕ) → IsCollected old n → IsCollected new n)
    → IsCollected new (slice_index_or xs index e).number
    → AreCollectedTo new xs (index + 1)
collected_more old new xs index e before others this = λ k d low within. elim (cases_eq k index) [
  | inl same ↦
      let there : get_or xs index e ≡ get_or xs k d =
      ap (λ i. get_or xs i e) (sym same) ∙ get_or_default xs k e d within in
      subst (λ x. IsCollected new x.number) there this
  | inr other ↦ others _ (before k d (omega (arith, low, other)) within)
]

-- the tickets after that of a new call is added
pub knows_issued : (old new : List (Option ℕ)) (t u : Tickets) (key n : ℕ)
    → Knows old t
    → ((k j : ℕ) → number_at old k ≡ Some j → j < n)
    → number_at old key ≡ None
    → SetsTicket old new key (Some n)
    → key_of u n ≡ Some key
    → ((j : ℕ) → j ≢ n → key_of u j ≡ key_of t j)
    → Knows new u
knows_issued old new t u key n knows low free set kept others = record {
  kept = λ k j is. elim (cases_eq k key) [
    | inl same ↦
        let number : n ≡ j = some_same n j (sym set.changed ∙ (ap (number_at new) (sym same) ∙ is)) in
        ap (key_of u) (sym number) ∙ (kept ∙ ap (λ i. Some i) (sym same))
    | inr other ↦
        let was = sym (set.others k other) ∙ is in
        let less = low k j was in
        others j (λ same. omega (arith, less, same)) ∙ knows.kept k j was
  ];
  live = λ k j is. elim (cases_eq j n) [
    | inl same ↦
        let index : key ≡ k = some_same key k (sym kept ∙ (ap (key_of u) (sym same) ∙ is)) in
        ap (number_at new) (sym index) ∙ (set.changed ∙ ap (λ i. Some i) (sym same))
    | inr other ↦
        let was = knows.live k j (sym (others j other) ∙ is) in
        set.others k (λ same. none_some j (sym free ∙ (ap (number_at old) (sym same) ∙ was))) ∙ was
  ];
}
