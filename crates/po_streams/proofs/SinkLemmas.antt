-- What a writer holds after one more write.
use Rattle.std.proofs.Common.{◌≡◌, Bool, ◌||◌, ℕ, zero, suc, ◌+◌, Option, List, [], ◌∷◌, ◌++◌, take, drop, refl, sym, ap, ◌∙◌, arith}
use Rattle.std.specs.Io.KnownBytes.{Appends}
use Rattle.std.specs.Bool.{◌==◌}
use Rattle.std.proofs.lemmas.Bool.Decides.{nat_tests}
use Rattle.std.proofs.KnownBytes.{Appends-trans}

pub take_add : {A : Type 0} (k n : ℕ) (xs : List A) → take (k + n) xs ≡ take k xs ++ take n (drop k xs)
take_add zero n xs = ap (λ i. take i xs) (omega arith)
take_add {A} (suc k) n [] =
    let nil : (m : ℕ) → take m (let e : List A = [] in e) ≡ [] = take_nil in nil (suc k + n) ∙ sym (nil n)
  where
    take_nil : (m : ℕ) → take {A = A} m [] ≡ []
    take_nil zero = refl
    take_nil (suc m) = refl
take_add (suc k) n (x ∷ xs) =
    let e : suc k + n ≡ suc (k + n) = omega arith in rw (e, take_add k n xs)

pub written_more : (a b c : Option (List ℕ)) (bytes : List ℕ) (k n : ℕ) → Appends a b (take k bytes) → Appends b c (take n (drop k bytes)) → Appends a c (take (k + n) bytes)
written_more a b c bytes k n x y = rw (take_add k n bytes) (Appends-trans a b c (take k bytes) (take n (drop k bytes)) x y)

pub still : (s t : Bool) (n : ℕ) → t ≡ (s || (n == 0)) → (n ≡ 0 → ⊥) → t ≡ s
still s t n e h = grind (arith, nat_tests)
