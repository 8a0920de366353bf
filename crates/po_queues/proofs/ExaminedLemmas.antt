-- Which entries are examined, and what the first of them that has its turn says.
use Rattle.std.proofs.Common.{◌≡◌, ℕ, zero, suc, ◌+◌, ◌<◌, List, [], ◌∷◌, ◌++◌, map, take, drop, refl, subst, sym, arith}
use Rattle.std.proofs.Common.{inl, inr, Option, Some, None, Bool, true, false, Result, Ok, Err}
use Rattle.std.specs.List.{All}
use Rattle.std.proofs.lemmas.Bool.{cases_eq}
use Rattle.std.proofs.lemmas.List.{take-append-drop}
use Rattle.std.proofs.lemmas.List.Elements.{All-nil, All-cons, All-head, All-tail, All-push, All-weaker, All-append}
use Rattle.std.proofs.lemmas.List.Elements.{All-take, All-drop}
use Rattle.po_queues.specs.declared.selection.Selection.{Selection}
use Rattle.po_queues.specs.declared.selection.Selection.TheVariants.{Quiet, Ready, Broken}
use Rattle.po_queues.specs.declared.order.Order.{Order}
use Rattle.po_queues.specs.declared.order.Order.TheVariants.{Textual, Oldest, Rotating}
use Rattle.po_queues.specs.Turns.{below, examined, turn, or_selection, first_selection}

-- the numbers below n are below n
below_range : (n : ℕ) → All (λ e. e < n) (below n)
below_range zero = All-nil (λ e. e < 0)
below_range (suc n) = All-push (λ e. e < suc n) (below n) n
    (All-weaker (λ e. e < n) (λ e. e < suc n) (λ e h. omega (arith, h)) (below n) (below_range n)) (omega arith)

module _ (T : ℕ → Type 0) where
  -- what holds of all holds of the first part
  part_left : (xs ys : List ℕ) → All T (xs ++ ys) → All T xs
  part_left [] ys h = All-nil T
  part_left (x ∷ xs) ys h =
      All-cons T x xs (All-head T x (xs ++ ys) h) (part_left xs ys (All-tail T x (xs ++ ys) h))

  -- and of the second part
  part_right : (xs ys : List ℕ) → All T (xs ++ ys) → All T ys
  part_right [] ys h = h
  part_right (x ∷ xs) ys h = part_right xs ys (All-tail T x (xs ++ ys) h)

  -- what holds of a rotated list holds of the list
  unrotated : (k : ℕ) (xs : List ℕ) → All T (drop k xs ++ take k xs) → All T xs
  unrotated k xs h = subst (All T) (take-append-drop k xs)
      (All-append T (take k xs) (drop k xs) (part_right (drop k xs) (take k xs) h)
      (part_left (drop k xs) (take k xs) h))

  -- what holds of all numbers below n
  below_each : (n : ℕ) → All T (below n) → (e : ℕ) → e < n → T e
  below_each zero h e lt = absurd (omega arith)
  below_each (suc n) h e lt = elim (cases_eq e n) [
    | inl same ↦ subst T (sym same) (All-head T n [] (part_right (below n) (n ∷ []) h))
    | inr other ↦ below_each n (part_left (below n) (n ∷ []) h) e (omega arith)
  ]

  -- if something holds of all values of f, it holds of f of each
  pub mapped_each : {X : Type 0} (f : X → ℕ) (xs : List X) → All T (map f xs) → All (λ x. T (f x)) xs
  mapped_each f [] h = All-nil (λ x. T (f x))
  mapped_each f (x ∷ xs) h =
      All-cons (λ y. T (f y)) x xs (All-head T (f x) (map f xs) h) (mapped_each f xs (All-tail T (f x) (map f xs) h))

  -- what holds of all examined entries holds of each entry on which a key is queued
  pub examined_covers : (order : Order) (last : Option ℕ) (total : ℕ) (queued : List ℕ) → All (λ e. e < total) queued
      → All T (examined order last total queued) → All T queued
  examined_covers Textual last total queued range h =
      All-weaker (λ e. e < total) T (below_each total h) queued range
  examined_covers Oldest last total queued range h = h
  examined_covers Rotating None total queued range h =
      All-weaker (λ e. e < total) T (below_each total h) queued range
  examined_covers Rotating (Some k) total queued range h =
      All-weaker (λ e. e < total) T (below_each total (unrotated (k + 1) (below total) h)) queued range

-- all examined entries exist
pub examined_range : (order : Order) (last : Option ℕ) (total : ℕ) (queued : List ℕ) → All (λ e. e < total) queued
    → All (λ e. e < total) (examined order last total queued)
examined_range Textual last total queued range = below_range total
examined_range Oldest last total queued range = range
examined_range Rotating None total queued range = below_range total
examined_range Rotating (Some k) total queued range =
    let all = below_range total in
    All-append (λ e. e < total) (drop (k + 1) (below total)) (take (k + 1) (below total))
    (All-drop (λ e. e < total) (k + 1) (below total) all) (All-take (λ e. e < total) (k + 1) (below total) all)

-- an entry without a turn is closed
pub closed : (e : ℕ) (barrier : Result Bool ℕ) → turn e barrier ≡ Quiet → barrier ≡ Ok false
closed e (Ok true) h = absurd (cc)
closed e (Ok false) h = refl
closed e (Err k) h = absurd (cc)

-- if two selections together are quiet, each of them is
both_quiet : (a b : Selection) → or_selection a b ≡ Quiet → (a ≡ Quiet) × (b ≡ Quiet)
both_quiet Quiet b h = (refl, h)
both_quiet (Ready e) b h = absurd (cc)
both_quiet (Broken e) b h = absurd (cc)

-- what holds of two selections holds of the first of them that isn't quiet
either_selection : (P : Selection → Type 0) (a b : Selection) → P a → P b → P (or_selection a b)
either_selection P Quiet b h k = k
either_selection P (Ready e) b h k = h
either_selection P (Broken e) b h k = h

module _ (f : ℕ → Selection) where
  -- if the first selection is quiet, no entry has its turn
  pub none_each : (es : List ℕ) → first_selection f es ≡ Quiet → All (λ e. f e ≡ Quiet) es
  none_each [] h = All-nil (λ e. f e ≡ Quiet)
  none_each (e ∷ es) h =
      let both = both_quiet (f e) (first_selection f es) h in
      All-cons (λ i. f i ≡ Quiet) e es both.0 (none_each es both.1)

  -- what holds of `Quiet` and of each turn holds of the first turn
  pub first_selection_each : (P : Selection → Type 0) → P Quiet → (es : List ℕ) → All (λ e. P (f e)) es → P (first_selection f es)
  first_selection_each P quiet [] all = quiet
  first_selection_each P quiet (e ∷ es) all = either_selection P (f e) (first_selection f es) (All-head (λ i. P (f i)) e es all)
      (first_selection_each P quiet es (All-tail (λ i. P (f i)) e es all))
