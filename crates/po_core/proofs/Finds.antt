-- What a test finds in a list, and what is known about all its elements.
use Rattle.std.proofs.Common.{◌≡◌, List, [], ◌∷◌, refl, subst, Bool, true, false, cond, Some, None}
use Rattle.std.specs.List.{find, All}
use Rattle.std.proofs.lemmas.List.Elements.{All-nil, All-cons, All-head, All-tail}

module _ {X : Type 0} (p : X → Bool) where
  found_here : (P : X → Type 0) (b : Bool) (x y : X) (xs : List X) → cond b (Some y) (find p xs) ≡ Some x → P y → (find p xs ≡ Some x → P x) → P x
  found_here P true x y xs h own rest = let same : y ≡ x = cc in subst P same own
  found_here P false x y xs h own rest = rest h

  -- what holds of all elements holds of what is found
  pub All-found : (P : X → Type 0) (xs : List X) (x : X) → find p xs ≡ Some x → All P xs → P x
  All-found P [] x h all = cc
  All-found P (y ∷ xs) x h all = found_here P (p y) x y xs h (All-head P y xs all) (λ rest. All-found P xs x rest (All-tail P y xs all))

  none_here : (b : Bool) (x : X) (xs : List X) → p x ≡ b → cond b (Some x) (find p xs) ≡ None → (find p xs ≡ None → All (λ y. p y ≡ false) xs) → All (λ y. p y ≡ false) (x ∷ xs)
  none_here true x xs is h rest = cc
  none_here false x xs is h rest = All-cons (λ y. p y ≡ false) x xs is (rest h)

  -- if none is found, none passes
  pub none-passes : (xs : List X) → find p xs ≡ None → All (λ y. p y ≡ false) xs
  none-passes [] h = All-nil (λ y. p y ≡ false)
  none-passes (x ∷ xs) h = none_here (p x) x xs refl h (none-passes xs)

  -- if none passes, none is found
  pub none-found : (xs : List X) → All (λ y. p y ≡ false) xs → find p xs ≡ None
  none-found [] all = refl
  none-found (x ∷ xs) all = rw (All-head (λ y. p y ≡ false) x xs all) (none-found xs (All-tail (λ y. p y ≡ false) x xs all))

  -- two tests that agree on all find the same
  pub find_agree : (q : X → Bool) (xs : List X) → All (λ x. p x ≡ q x) xs → find p xs ≡ find q xs
  find_agree q [] all = refl
  find_agree q (x ∷ xs) all = rw (All-head (λ y. p y ≡ q y) x xs all, find_agree q xs (All-tail (λ y. p y ≡ q y) x xs all)) refl
