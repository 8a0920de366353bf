-- The numbers below another, those from one on, and rounds that begin at one.
use Rattle.std.proofs.Common.{min, ◌+◌, ◌≡◌, ℕ, zero, suc, ◌-◌, ◌<◌, ◌≤◌}
use Rattle.std.proofs.Common.{List, [], ◌∷◌, ◌++◌, map, take, drop, length, get_or}
use Rattle.std.proofs.Common.{refl, ap, ◌∙◌, sym, arith, true, false, inl, inr, length-append}
use Rattle.std.proofs.lemmas.Bool.{cases_eq, cases_lt}
use Rattle.std.proofs.lemmas.Grind.{same_number_lists}
use Rattle.std.proofs.lemmas.List.{get_or-append_right, get_or_append_left, get_or-map, length-map}
use Rattle.po_queues.specs.declared.selection.Selection.{Selection}
use Rattle.po_queues.specs.declared.selection.Selection.TheVariants.{Quiet, Ready, Broken}
use Rattle.po_queues.specs.Turns.{below, tells_nothing, or_selection, first_selection}

-- there are n numbers below n
length-below : (n : ℕ) → length (below n) ≡ n
length-below zero = refl
length-below (suc n) = omega (arith, length-append (below n) (n ∷ []), length-below n)

-- the number at each index is the index
get_or-below : (n i : ℕ) → i < n → get_or (below n) i 0 ≡ i
get_or-below zero i lt = absurd (omega arith)
get_or-below (suc n) i lt = elim (cases_eq i n) [
  | inl same ↦ rw same (get_or-append_right (below n) (n ∷ []) n n 0 (length-below n) (omega arith)
      ∙ ap (λ k. get_or (n ∷ []) k 0) (less n))
  | inr other ↦ get_or_append_left (below n) (n ∷ []) 0 i (omega (arith, length-below n))
      ∙ get_or-below n i (omega arith)
]
  where
    less : (k : ℕ) → k - k ≡ 0
    less k = omega arith

-- what f gives of the number at each index
pub get_or-map-below : (f : ℕ → ℕ) (total e : ℕ) → e < total → get_or (map f (below total)) e 0 ≡ f e
get_or-map-below f total e lt =
    get_or-map f (below total) e 0 0 (omega (arith, length-below total, lt)) ∙ ap f (get_or-below total e lt)

-- `total` numbers, each the value of f at its index
pub numbers_each : (f : ℕ → ℕ) (total : ℕ) (xs : List ℕ) → length xs ≡ total
    → ((e : ℕ) → e < total → get_or xs e 0 ≡ f e) → xs ≡ map f (below total)
numbers_each f total xs len each =
    same_number_lists xs (map f (below total)) (len ∙ sym (length-map (below total) f ∙ length-below total)) (λ e lt.
    let within : e < total = omega (arith, len, lt) in
    each e within ∙ sym (get_or-map-below f total e within))

-- one more number at the end
drop_over : (k : ℕ) (xs : List ℕ) (x : ℕ) → k ≤ length xs → drop k (xs ++ x ∷ []) ≡ drop k xs ++ x ∷ []
drop_over zero xs x h = refl
drop_over (suc k) [] x h = absurd (omega arith)
drop_over (suc k) (y ∷ xs) x h = drop_over k xs x (omega arith)

-- nothing is left past the end
drop_all : (k : ℕ) (xs : List ℕ) → length xs ≤ k → drop k xs ≡ []
drop_all zero [] h = refl
drop_all (suc k) [] h = refl
drop_all zero (y ∷ xs) h = absurd (omega arith)
drop_all (suc k) (y ∷ xs) h = drop_all k xs (omega arith)

-- all is taken up to the end
take_all : (k : ℕ) (xs : List ℕ) → length xs ≤ k → take k xs ≡ xs
take_all zero [] h = refl
take_all (suc k) [] h = refl
take_all zero (y ∷ xs) h = absurd (omega arith)
take_all (suc k) (y ∷ xs) h = ap (λ l. y ∷ l) (take_all k xs (omega arith))

-- taking no more than there was before doesn't reach what was put at the end
take_front : (k : ℕ) (xs : List ℕ) (x : ℕ) → k ≤ length xs → take k (xs ++ x ∷ []) ≡ take k xs
take_front zero xs x h = refl
take_front (suc k) [] x h = absurd (omega arith)
take_front (suc k) (y ∷ xs) x h = ap (λ l. y ∷ l) (take_front k xs x (omega arith))

-- the range with one number more
range_more : (from n : ℕ) → from ≤ n → drop from (below (suc n)) ≡ drop from (below n) ++ n ∷ []
range_more from n h = drop_over from (below n) n (omega (arith, length-below n, h))

-- an empty range
pub no_range : (from n : ℕ) → n ≤ from → drop from (below n) ≡ []
no_range from n h = drop_all from (below n) (omega (arith, length-below n, h))

-- the first of the numbers below n are those below k
take-below : (n k : ℕ) → k ≤ n → take k (below n) ≡ below k
take-below zero zero h = refl
take-below zero (suc k) h = absurd (omega arith)
take-below (suc n) k h = elim (cases_eq k (suc n)) [
  | inl same ↦ rw same (take_all (suc n) (below (suc n)) (omega (arith, length-below (suc n))))
  | inr other ↦ take_front k (below n) n (omega (arith, length-below n)) ∙ take-below n k (omega arith)
]

-- if the first selection is quiet, the second counts
pub or_selection-quiet : (a b : Selection) → tells_nothing a ≡ true → or_selection a b ≡ b
or_selection-quiet Quiet b h = refl
or_selection-quiet (Ready e) b h = absurd (cc)
or_selection-quiet (Broken e) b h = absurd (cc)

-- if the first selection isn't quiet, it counts
pub or_selection-found : (a b : Selection) → tells_nothing a ≡ false → or_selection a b ≡ a
or_selection-found Quiet b h = absurd (cc)
or_selection-found (Ready e) b h = refl
or_selection-found (Broken e) b h = refl

-- a selection that names no entry is `Quiet`
pub is_quiet : (a : Selection) → tells_nothing a ≡ true → a ≡ Quiet
is_quiet Quiet h = refl
is_quiet (Ready e) h = absurd (cc)
is_quiet (Broken e) h = absurd (cc)

-- the first of three selections, however they are grouped
grouped : (a b c : Selection) → or_selection a (or_selection b c) ≡ or_selection (or_selection a b) c
grouped Quiet b c = refl
grouped (Ready e) b c = refl
grouped (Broken e) b c = refl

-- `Quiet` after a selection adds nothing
or_selection-none : (a : Selection) → or_selection a Quiet ≡ a
or_selection-none Quiet = refl
or_selection-none (Ready e) = refl
or_selection-none (Broken e) = refl

-- the start of a round: the entry after the last one, or the end
pub record IsStart (n total last more start : ℕ) : Type 0 where
  pub total_is : total ≡ n
  pub few : total < 65536
  pub more_is : more ≡ min (last + 1) 65535
  pub start_is : start ≡ min total more

module _ (f : ℕ → Selection) where
  pub first_selection-append : (xs ys : List ℕ) → first_selection f (xs ++ ys) ≡ or_selection (first_selection f xs) (first_selection f ys)
  first_selection-append [] ys = refl
  first_selection-append (x ∷ xs) ys = ap (or_selection (f x)) (first_selection-append xs ys)
      ∙ grouped (f x) (first_selection f xs) (first_selection f ys)

  -- the first turn of a range with one number more
  first_selection-more : (from n : ℕ) → from ≤ n
      → first_selection f (drop from (below (suc n))) ≡ or_selection (first_selection f (drop from (below n))) (f n)
  first_selection-more from n h = rw (range_more from n h)
      (first_selection-append (drop from (below n)) (n ∷ [])
      ∙ ap (or_selection (first_selection f (drop from (below n)))) (or_selection-none (f n)))

  -- if no number of a range has a turn, the range has none
  pub range_quiet : (from n : ℕ) → ((e : ℕ) → from ≤ e → e < n → f e ≡ Quiet)
      → first_selection f (drop from (below n)) ≡ Quiet
  range_quiet from zero quiet = ap (first_selection f) (no_range from 0 (omega arith))
  range_quiet from (suc n) quiet = elim (cases_lt n from) [
    | inl past ↦ ap (first_selection f) (no_range from (suc n) (omega arith))
    | inr here ↦ first_selection-more from n here
        ∙ rw (range_quiet from n (λ e low high. quiet e low (omega arith))) (quiet n here (omega arith))
  ]

  -- the first number of a range that has a turn gives the range its turn
  pub range_found : (from n e : ℕ) → from ≤ e → e < n → ((i : ℕ) → from ≤ i → i < e → f i ≡ Quiet)
      → tells_nothing (f e) ≡ false → first_selection f (drop from (below n)) ≡ f e
  range_found from zero e low high quiet found = absurd (omega arith)
  range_found from (suc n) e low high quiet found = elim (cases_eq e n) [
    | inl same ↦ rw same (first_selection-more from n (omega arith)
        ∙ ap (λ a. or_selection a (f n)) (range_quiet from n (λ i l h. quiet i l (omega arith))))
    | inr other ↦ first_selection-more from n (omega arith)
        ∙ rw (range_found from n e low (omega arith) quiet found) (or_selection-found (f e) (f n) found)
  ]

  -- a round from k on is two ranges that meet at `start`
  round : (n k start : ℕ) → start ≤ n → (k ≤ n → start ≡ k) → (n < k → start ≡ n)
      → first_selection f (drop k (below n) ++ take k (below n))
      ≡ or_selection (first_selection f (drop start (below n))) (first_selection f (drop 0 (below start)))
  round n k start within inside past = elim (cases_lt n k) [
    | inl over ↦ rw (past over) (first_selection-append (drop k (below n)) (take k (below n))
        ∙ rw (no_range k n (omega arith), no_range n n (omega arith))
        (ap (first_selection f) (take_all k (below n) (omega (arith, length-below n)))))
    | inr under ↦ rw (inside under) (first_selection-append (drop k (below n)) (take k (below n))
        ∙ ap (λ l. or_selection (first_selection f (drop k (below n))) (first_selection f l)) (take-below n k under))
  ]

  -- a round from the entry after the last one on is two ranges
  round_started : (n total last more start : ℕ) → IsStart n total last more start
      → first_selection f (drop (last + 1) (below n) ++ take (last + 1) (below n))
      ≡ or_selection (first_selection f (drop start (below total))) (first_selection f (drop 0 (below start)))
  round_started n total last more start s =
      let total_is = s.total_is in
      let start_is = s.start_is in
      let more_is = s.more_is in
      let few = s.few in
      rw total_is (round n (last + 1) start (omega (arith, total_is, start_is))
      (λ h. omega (arith, total_is, start_is, more_is, few, h))
      (λ h. omega (arith, total_is, start_is, more_is, few, h)))

  -- the turn of a round if a later entry has one
  pub round_found : (n total last more start : ℕ) → IsStart n total last more start
      → (later : Selection) → later ≡ first_selection f (drop start (below total)) → tells_nothing later ≡ false
      → later ≡ first_selection f (drop (last + 1) (below n) ++ take (last + 1) (below n))
  round_found n total last more start s later is tells = sym (round_started n total last more start s
      ∙ ap (λ a. or_selection a (first_selection f (drop 0 (below start)))) (sym is)
      ∙ or_selection-found later (first_selection f (drop 0 (below start))) tells)

  -- the turn of a round if no later entry has one
  pub round_on : (n total last more start : ℕ) → IsStart n total last more start
      → (later other : Selection) → later ≡ first_selection f (drop start (below total)) → tells_nothing later ≡ true
      → other ≡ first_selection f (drop 0 (below start))
      → other ≡ first_selection f (drop (last + 1) (below n) ++ take (last + 1) (below n))
  round_on n total last more start s later other is tells same = sym (round_started n total last more start s
      ∙ ap (λ a. or_selection a (first_selection f (drop 0 (below start)))) (sym is)
      ∙ or_selection-quiet later (first_selection f (drop 0 (below start))) tells ∙ sym same)
