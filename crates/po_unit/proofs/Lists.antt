-- Elements of lists that are joined, or made by a function of the position.
use Rattle.std.proofs.Common.{◌≡◌, ℕ, ◌+◌, ◌<◌, List, length, map, slice_get, Some, refl, ap, ◌∙◌, arith, ◌++◌}
use Rattle.std.specs.List.{range_with_len}
use Rattle.std.proofs.lemmas.List.FromFn.{length-map-range_with_len, get_or-map-range_with_len}
use Rattle.std.proofs.lemmas.Option.{slice_get-get_or}
use Rattle.std.proofs.Common.{[], ◌∷◌, zero, suc}

-- an element of the first part
pub slice_get-append_left : {X : Type 0} (xs ys : List X) (i : ℕ) → i < length xs → slice_get (xs ++ ys) i ≡ slice_get xs i
slice_get-append_left [] ys i h = absurd (omega arith)
slice_get-append_left (x ∷ xs) ys zero h = refl
slice_get-append_left (x ∷ xs) ys (suc i) h = slice_get-append_left xs ys i (omega arith)

-- an element of the second part
pub slice_get-append_right : {X : Type 0} (xs ys : List X) (i k : ℕ) → i ≡ length xs + k → slice_get (xs ++ ys) i ≡ slice_get ys k
slice_get-append_right [] ys i k h = ap (slice_get ys) (omega arith)
slice_get-append_right (x ∷ xs) ys zero k h = absurd (omega arith)
slice_get-append_right (x ∷ xs) ys (suc i) k h = slice_get-append_right xs ys i k (omega arith)

-- an element of a list that a function of the position makes
pub slice_get-map-range_with_len : {X : Type 0} (f : ℕ → X) (n i : ℕ) → i < n → slice_get (map f (range_with_len 0 n)) i ≡ Some (f i)
slice_get-map-range_with_len f n i h =
    let long : length (map f (range_with_len 0 n)) ≡ n = length-map-range_with_len f 0 n in
    slice_get-get_or _ i (f i) (omega arith) ∙ ap Some (get_or-map-range_with_len f 0 n i i (f i) h (omega arith))
