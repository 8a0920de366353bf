-- Beginnings of lists.
use Rattle.std.proofs.Common.{◌≡◌, ◌≤◌, suc, List, [], ◌∷◌, map, length, refl, ap, arith}
use mathlib.Core.List.{IsPrefix}

-- a list is as long as its codes
pub length-coded : {X Y : Type 0} (f : X → Y) (xs : List X) → length (map f xs) ≡ length xs
length-coded f [] = refl
length-coded f (x ∷ xs) = ap suc (length-coded f xs)

-- of two beginnings of one list, the shorter is a beginning of the longer
pub prefix_shorter : {A : Type 0} (xs ys zs : List A) → IsPrefix xs zs → IsPrefix ys zs → length xs ≤ length ys → IsPrefix xs ys
prefix_shorter [] ys zs p q le = (ys, refl)
prefix_shorter (x ∷ xs) [] zs p q le = absurd (omega arith)
prefix_shorter (x ∷ xs) (y ∷ ys) [] p q le = absurd (cc (p.1))
prefix_shorter (x ∷ xs) (y ∷ ys) (z ∷ zs) p q le =
    let heads : x ≡ y = cc (p.1, q.1) in
    let rest = prefix_shorter xs ys zs (p.0, cc (p.1)) (q.0, cc (q.1)) (omega arith) in
    (rest.0, cc (heads, rest.1))
