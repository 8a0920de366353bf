-- The first of all waiting calls is the first that passes a test that all pass.
use Rattle.std.proofs.Common.{◌≡◌, List, [], ◌∷◌, refl, true, Some, None}
use Rattle.std.specs.Prelude.{drop, IfNone, Option}
use Rattle.std.specs.List.{find, slice_get}
use Rattle.po_engine.specs.Finding.{without_first}

module _ {X : Type 0} where
  pub oldest_found : (xs : List X) (x : X) → slice_get xs 0 ≡ Some x → find (λ y. true) xs ≡ Some x
  oldest_found [] x h = h
  oldest_found (y ∷ xs) x h = h

  pub oldest_is : (xs : List X) → find (λ y. true) xs ≡ slice_get xs 0
  oldest_is [] = refl
  oldest_is (y ∷ xs) = refl

  pub oldest_left : (xs : List X) → drop 1 xs ≡ without_first (λ y. true) xs
  oldest_left [] = refl
  oldest_left (y ∷ xs) = refl

  pub none_left : (xs : List X) → slice_get xs 0 ≡ None → drop 1 xs ≡ xs
  none_left [] h = refl
  none_left (y ∷ xs) h = absurd (cc)

  -- if there is no first, none is left
  pub none_after : (xs left : List X) (r : Option X) → slice_get xs 0 ≡ r → left ≡ drop 1 xs → IfNone r (left ≡ [])
  none_after [] left None first is = is
  none_after [] left (Some y) first is = tt
  none_after (x ∷ xs) left None first is = absurd (cc)
  none_after (x ∷ xs) left (Some y) first is = tt
