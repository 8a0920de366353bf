-- The lines of entries one after another, and the names in a table.
use Rattle.std.proofs.Common.{◌≡◌, ℕ, zero, suc, ◌+◌, ◌<◌, ◌≤◌, get_or, List, [], ◌∷◌, ◌++◌, take, length, flat_map, refl, ap, ◌∙◌, arith, append-nil, Some}
use Rattle.std.specs.List.{slice_get}
use Rattle.std.specs.Borrow.{Bor}
use Rattle.std.proofs.lemmas.Grind.{flat_map-append}
use Rattle.std.proofs.lemmas.List.Concat.{flat_map-cons}
use Rattle.po_classic_units.specs.Names.{texts_of}
use Rattle.po_script.specs.Lines.{name_at}

take_more : {X : Type 0} (xs : List X) (k : ℕ) (x : X) → slice_get xs k ≡ Some x → take (suc k) xs ≡ take k xs ++ x ∷ []
take_more [] k x h = cc
take_more (y ∷ ys) zero x h = let same : y ≡ x = cc in ap (λ z. z ∷ []) same
take_more (y ∷ ys) (suc k) x h = ap (λ l. y ∷ l) (take_more ys k x h)

one_more : (k : ℕ) → k + 1 ≡ suc k
one_more k = omega arith

-- one more line
pub flat_map_more : {X A : Type 0} (f : X → List A) (xs : List X) (k : ℕ) (x : X) → slice_get xs k ≡ Some x → flat_map f (take (k + 1) xs) ≡ flat_map f (take k xs) ++ f x
flat_map_more f xs k x h =
    let more : take (k + 1) xs ≡ take k xs ++ x ∷ [] = ap (λ n. take n xs) (one_more k) ∙ take_more xs k x h in
    ap (flat_map f) more ∙ (flat_map-append f (take k xs) (x ∷ []) ∙ ap (λ l. flat_map f (take k xs) ++ l) (flat_map-cons f x [] ∙ append-nil (f x)))

take_all : {X : Type 0} (xs : List X) (k : ℕ) → length xs ≤ k → take k xs ≡ xs
take_all [] zero h = refl
take_all [] (suc k) h = refl
take_all (y ∷ ys) zero h = absurd (omega (arith, h))
take_all (y ∷ ys) (suc k) h = ap (λ l. y ∷ l) (take_all ys k (omega (arith, h)))

-- all lines
pub flat_map_all : {X A : Type 0} (f : X → List A) (xs : List X) (k : ℕ) → length xs ≤ k → flat_map f (take k xs) ≡ flat_map f xs
flat_map_all f xs k h = ap (flat_map f) (take_all xs k h)

-- a name that is in the table
pub name_there : (names : List (Bor (List ℕ))) (k : ℕ) (d : Bor (List ℕ)) → k < length names → (get_or names k d).now ≡ name_at (texts_of names) k
name_there [] k d h = absurd (omega (arith, h))
name_there (n ∷ ns) zero d h = refl
name_there (n ∷ ns) (suc k) d h = name_there ns k d (omega (arith, h))

-- a number past the table has no name
pub name_past : (names : List (Bor (List ℕ))) (k : ℕ) → length names ≤ k → name_at (texts_of names) k ≡ []
name_past [] k h = refl
name_past (n ∷ ns) zero h = absurd (omega (arith, h))
name_past (n ∷ ns) (suc k) h = name_past ns k (omega (arith, h))
