-- The numbers of the calls in a table, and the greatest one put.
use Rattle.std.proofs.Common.{◌≡◌, ℕ, ◌≤◌, List, map, get_or, set, Option, Some, None, sym, ap, arith, inl, inr, ◌∙◌}
use Rattle.std.proofs.Math.Seq.{map-set_same}
use Rattle.std.specs.Option.{option_map}
use Rattle.std.proofs.lemmas.Bool.{cases_eq}
use Rattle.slab.specs.Slab.{Slab, get, Updates}
use Rattle.po_calls.specs.declared.kept.Kept.{Kept}
use Rattle.po_calls.specs.Calls.{AreReached, IsAbove, IsReached}

-- a reached number is at most each number that is above all
at_most : (last : Option ℕ) (n m : ℕ) → IsReached last n → IsAbove last m → n ≤ m
at_most None n m reached above = absurd reached
at_most (Some most) n m reached above = omega (arith, reached, above)

module _ {V : Type 0} where
  same_number : (a b : Kept V) → Some a ≡ Some b → b.call.number ≤ a.call.number
  same_number a b is = let same : a ≡ b = cc in omega (arith, ap (λ k. k.call.number) same)

  -- after a put, each number in the table is at most the new one
  pub reached_put :
      (old new : Slab (Kept V)) (last : Option ℕ) (key : ℕ) (kept : Kept V)
      → Updates old new key (Some kept) → IsAbove last kept.call.number
      → AreReached (record { calls = old; last = last })
      → AreReached (record { calls = new; last = Some kept.call.number })
  reached_put old new last key kept set above h = λ k found is. elim (cases_eq k key) [
    | inl same ↦ same_number kept found (sym set.changed ∙ (ap (get new) (sym same) ∙ is))
    | inr other ↦ at_most last found.call.number kept.call.number (h k found (sym (set.others k other) ∙ is)) above
  ]

  -- if a call is replaced by one with the same number, the numbers stay
  pub numbers_stay : (slots : List (Option (Kept V))) (key : ℕ) (was now : Kept V)
      → Some was ≡ get_or slots key None → now.call.number ≡ was.call.number
      → map (option_map (λ k. k.call.number)) (set slots key (Some now)) ≡ map (option_map (λ k. k.call.number)) slots
  numbers_stay slots key was now found same =
      let number : Option (Kept V) → Option ℕ = option_map (λ k. k.call.number) in
      map-set_same number slots key (Some now) None (ap (λ n. Some n) same ∙ ap number found)
