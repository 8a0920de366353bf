-- If one test finds an item that another passes, the other counts at least one.
use Rattle.std.proofs.Common.{◌≡◌, ◌+◌, ◌≤◌, List, [], ◌∷◌, refl, ap, sym, ◌∙◌, arith, cond, Bool, true, false, Some}
use Rattle.std.specs.List.{find, count_by}
use Rattle.std.proofs.lemmas.List.Sums.{sum_by-cons}

module _ {X : Type 0} (p q : X → Bool) where
  counted-here : (b c : Bool) (x y : X) (xs : List X) → q y ≡ c → cond b (Some y) (find p xs) ≡ Some x → q x ≡ true → (find p xs ≡ Some x → 1 ≤ count_by q xs) → 1 ≤ cond c 1 0 + count_by q xs
  counted-here b true x y xs same h k l = omega arith
  counted-here true false x y xs same h k l = let one : y ≡ x = cc in let bad : false ≡ true = sym same ∙ (ap q one ∙ k) in cc
  counted-here false false x y xs same h k l = omega (arith, l h)

  pub counted-too : (xs : List X) (x : X) → find p xs ≡ Some x → q x ≡ true → 1 ≤ count_by q xs
  counted-too [] x h k = cc
  counted-too (y ∷ xs) x h k =
      omega (arith, counted-here (p y) (q y) x y xs refl h k (λ l. counted-too xs x l k), sum_by-cons (λ z. cond (q z) 1 0) y xs)
