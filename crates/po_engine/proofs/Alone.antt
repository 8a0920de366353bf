-- What is found is counted. If at most one element passes a test, each test that a found element passes finds it.
use Rattle.std.proofs.Common.{◌≡◌, ◌∙◌, ◌+◌, ◌≤◌, List, [], ◌∷◌, Bool, true, false, cond, Some, ap, refl, sym, arith}
use Rattle.std.specs.List.{count_by, find}
use Rattle.po_engine.proofs.Sums.{sum_by-cons}

module _ {X : Type 0} (p : X → Bool) where
  -- what is found is counted
  counted : (b : Bool) (x y : X) (xs : List X) → p x ≡ b → cond b (Some x) (find p xs) ≡ Some y → (find p xs ≡ Some y → (q : X → Bool) → q y ≡ true → 1 ≤ count_by q xs) → (q : X → Bool) → q y ≡ true → 1 ≤ count_by q (x ∷ xs)
  counted true x y xs e h k q t = let same : x ≡ y = cc in let one : q x ≡ true = ap q same ∙ t in rw (sum_by-cons (λ z. cond (q z) 1 0) x xs, one) (omega arith)
  counted false x y xs e h k q t = omega (arith, k h q t, sum_by-cons (λ z. cond (q z) 1 0) x xs)

  pub found_counted : (xs : List X) (y : X) → find p xs ≡ Some y → (q : X → Bool) → q y ≡ true → 1 ≤ count_by q xs
  found_counted [] y h q t = cc
  found_counted (x ∷ xs) y h q t = counted (p x) x y xs refl h (found_counted xs y) q t

  -- if at most one element passes another test, that test finds it too
  alone : (q : X → Bool) (b c : Bool) (x y : X) (xs : List X) → p x ≡ b → q x ≡ c → cond b (Some x) (find p xs) ≡ Some y → q y ≡ true → count_by q (x ∷ xs) ≤ 1 → (find p xs ≡ Some y → count_by q xs ≤ 1 → find q xs ≡ Some y) → cond c (Some x) (find q xs) ≡ Some y
  alone q true true x y xs e t h u le k = h
  alone q true false x y xs e t h u le k = let same : x ≡ y = cc in let bad : false ≡ true = sym t ∙ (ap q same ∙ u) in cc
  alone q false true x y xs e t h u le k =
      let more : 1 ≤ count_by q xs = found_counted xs y h q u in
      let all : count_by q (x ∷ xs) ≡ 1 + count_by q xs = sum_by-cons (λ z. cond (q z) 1 0) x xs ∙ ap (λ b. cond b 1 0 + count_by q xs) t in
      absurd (omega (arith, more, all, le))
  alone q false false x y xs e t h u le k = k h (omega (arith, sum_by-cons (λ z. cond (q z) 1 0) x xs, le))

  pub found_alone : (q : X → Bool) (xs : List X) (y : X) → find p xs ≡ Some y → q y ≡ true → count_by q xs ≤ 1 → find q xs ≡ Some y
  found_alone q [] y h u le = cc
  found_alone q (x ∷ xs) y h u le = alone q (p x) (q x) x y xs refl refl h u le (λ i j. found_alone q xs y i u j)
