-- The passes of the seats: handed out, counted, and sorted by rising seat.
use Rattle.std.proofs.Common.{subst, ◌≡◌, ◌≢◌, ◌<◌, ◌≤◌, ◌+◌, ℕ, zero, suc, inl, inr, Bool, true, false, cond, ◌==◌, List, [], ◌∷◌, ◌++◌, length, slice_get, set, get_or, count_by, filter, sum_by, take, Some, None, refl, sym, ◌∙◌, ap, arith, length-append, append-nil}
use Rattle.std.specs.List.{find}
use Rattle.std.proofs.lemmas.Bool.{cases_lt}
use Rattle.std.proofs.lemmas.Bool.Decides.{eqb_tells}
use Rattle.std.proofs.lemmas.List.{length-set, get_or-set_same, get_or-set_other}
use Rattle.std.proofs.lemmas.List.Elements.{filter-append}
use Rattle.std.proofs.lemmas.List.Sums.{length-filter, sum_by-append, sum_by-cons}
use Rattle.std.proofs.lemmas.Grind.{get_or_default_zero}
use Rattle.std.proofs.lemmas.Option.{slice_get_read, slice_get_within, get_or_from_slice_get}
use Rattle.po_receipts.specs.Passes.{PassView, fresh}
use Rattle.po_object.specs.Seats.{is_at, AreFresh, OneEach, AreBySeat, ArePlaced, AreCounts}

module _ {A : Type 0} where
  get-left : (xs ys : List A) (i : ℕ) (v : A) → slice_get xs i ≡ Some v → slice_get (xs ++ ys) i ≡ Some v
  get-left [] ys i v e = let q : None ≡ Some v = e in absurd (let r : ⊥ = cc in r)
  get-left (x ∷ xs) ys zero v e = e
  get-left (x ∷ xs) ys (suc i) v e = get-left xs ys i v e

  get-end : (xs : List A) (x : A) → slice_get (xs ++ x ∷ []) (length xs) ≡ Some x
  get-end [] x = refl
  get-end (y ∷ xs) x = get-end xs x

  get-set_same : (xs : List A) (i : ℕ) (x : A) → i < length xs → slice_get (set xs i x) i ≡ Some x
  get-set_same xs i x l = slice_get_read (set xs i x) (length xs) i x (sym (length-set xs i x)) l (sym (get_or-set_same xs i x x l))

  get-set_other : (xs : List A) (i j : ℕ) (x y : A) → j ≢ i → slice_get xs j ≡ Some y → slice_get (set xs i x) j ≡ Some y
  get-set_other xs i j x y n e = slice_get_read (set xs i x) (length xs) j y (sym (length-set xs i x)) (slice_get_within xs j y e) (sym (get_or-set_other xs i j x y n ∙ get_or_from_slice_get xs j y y e))

  take-get : (xs : List A) (i : ℕ) (x : A) → slice_get xs i ≡ Some x → take (suc i) xs ≡ take i xs ++ x ∷ []
  take-get [] i x e = let q : None ≡ Some x = e in absurd (let r : ⊥ = cc in r)
  take-get (y ∷ xs) zero x e = let q : Some y ≡ Some x = e in (let same : y ≡ x = cc in ap (λ z. z ∷ []) same)
  take-get (y ∷ xs) (suc i) x e = ap (λ zs. y ∷ zs) (take-get xs i x e)

  -- the first elements of a list, with one more
  pub take-more : (xs : List A) (i : ℕ) (x : A) → slice_get xs i ≡ Some x → take (i + 1) xs ≡ take i xs ++ x ∷ []
  take-more xs i x e = let one : i + 1 ≡ suc i = omega arith in ap (λ k. take k xs) one ∙ take-get xs i x e

  pub take-short : (xs : List A) (i : ℕ) → length (take i xs) ≤ i
  take-short [] zero = omega arith
  take-short [] (suc i) = omega arith
  take-short (x ∷ xs) zero = omega arith
  take-short (x ∷ xs) (suc i) = omega (arith, take-short xs i)

  pub take-whole : (xs : List A) (n : ℕ) → n ≡ length xs → take n xs ≡ xs
  take-whole [] zero e = refl
  take-whole [] (suc n) e = refl
  take-whole (x ∷ xs) zero e = absurd (omega (arith, e))
  take-whole (x ∷ xs) (suc n) e = ap (λ zs. x ∷ zs) (take-whole xs n (omega (arith, e)))

  snoc-one : (xs : List A) (x q : A) → xs ++ x ∷ [] ≡ q ∷ [] → x ≡ q
  snoc-one [] x q e = cc
  snoc-one (y ∷ []) x q e = absurd (let r : ⊥ = cc in r)
  snoc-one (y ∷ z ∷ xs) x q e = absurd (let r : ⊥ = cc in r)

  filter-first : (f : A → Bool) (x : A) (xs : List A) → length (filter f (x ∷ xs)) ≡ cond (f x) 1 0 + length (filter f xs)
  filter-first f x xs = elim (f x) as (λ b. length (cond b (x ∷ filter f xs) (filter f xs)) ≡ cond b 1 0 + length (filter f xs)) [ true ↦ omega arith | false ↦ omega arith ]

  one-listed : (xs : List A) → length xs ≡ 1 → (q : A) × (xs ≡ q ∷ [])
  one-listed [] e = absurd (omega (arith, e))
  one-listed (x ∷ []) e = (x, refl)
  one-listed (x ∷ y ∷ xs) e = absurd (omega (arith, e))

  -- if exactly one element passes, it is the only one that is kept
  one-kept : (f : A → Bool) (xs : List A) → count_by f xs ≡ 1 → (q : A) × (filter f xs ≡ q ∷ [])
  one-kept f xs e = one-listed (filter f xs) (omega (arith, length-filter f xs, e))

  found-here : (f : A → Bool) (b : Bool) (x q : A) (xs rest : List A) → cond b (x ∷ filter f xs) (filter f xs) ≡ q ∷ rest → (filter f xs ≡ q ∷ rest → find f xs ≡ Some q) → cond b (Some x) (find f xs) ≡ Some q
  found-here f true x q xs rest e h = let same : x ≡ q = cc in ap (λ z. Some z) same
  found-here f false x q xs rest e h = h e

  -- the first that is kept is the one that is found
  pub kept-found : (f : A → Bool) (xs : List A) (q : A) (rest : List A) → filter f xs ≡ q ∷ rest → find f xs ≡ Some q
  kept-found f [] q rest e = absurd (let r : ⊥ = cc in r)
  kept-found f (x ∷ xs) q rest e = found-here f (f x) x q xs rest e (λ e'. kept-found f xs q rest e')

  found-passes_here : (f : A → Bool) (b : Bool) (x q : A) (xs : List A) → f x ≡ b → cond b (Some x) (find f xs) ≡ Some q → (find f xs ≡ Some q → f q ≡ true) → f q ≡ true
  found-passes_here f true x q xs p e h = let same : x ≡ q = cc in ap f (sym same) ∙ p
  found-passes_here f false x q xs p e h = h e

  -- what is found passes
  pub found-passes : (f : A → Bool) (xs : List A) (q : A) → find f xs ≡ Some q → f q ≡ true
  found-passes f [] q e = let r : None ≡ Some q = e in absurd (let s : ⊥ = cc in s)
  found-passes f (x ∷ xs) q e = found-passes_here f (f x) x q xs refl e (λ e'. found-passes f xs q e')

-- k if the seat is below n, otherwise 0
weigh : ℕ → ℕ → ℕ → ℕ
weigh zero s k = 0
weigh (suc n) s k = weigh n s k + cond (s == n) k 0

weigh-past : (n s k : ℕ) → n ≤ s → weigh n s k ≡ 0
unfolding weigh
weigh-past zero s k h = refl
weigh-past (suc n) s k h = elim (eqb_tells s n) [ inl y ↦ absurd (omega (arith, y.1, h)) | inr y ↦ (let p = weigh-past n s k (omega (arith, h)) in rw y.0 (omega (arith, p))) ]

weigh-within : (n s k : ℕ) → s < n → weigh n s k ≡ k
unfolding weigh
weigh-within zero s k h = absurd (omega (arith, h))
weigh-within (suc n) s k h = elim (eqb_tells s n) [ inl y ↦ (let p = weigh-past n s k (omega (arith, y.1)) in rw y.0 (omega (arith, p))) | inr y ↦ (let p = weigh-within n s k (omega (arith, y.1, h)) in rw y.0 (omega (arith, p))) ]

weigh-one : (n s : ℕ) → weigh n s 1 ≤ 1
weigh-one n s = elim (cases_lt s n) [ inl l ↦ omega (arith, weigh-within n s 1 l) | inr g ↦ omega (arith, weigh-past n s 1 g) ]

module _ {V : Type 0} where
  -- one more fresh pass
  pub fresh-more : (n : ℕ) (ps : List (PassView V)) → AreFresh n ps → AreFresh (n + 1) (ps ++ fresh n ∷ [])
  fresh-more n ps h = (omega (arith, length-append ps (fresh n ∷ []), h.0), λ i lt. elim (cases_lt i n) [ inl l ↦ get-left ps _ i _ (h.1 i l) | inr g ↦ (let e : i ≡ length ps = omega (arith, g, lt, h.0) in let f : i ≡ n = omega (arith, g, lt) in ap (slice_get (ps ++ fresh n ∷ [])) e ∙ get-end ps (fresh n) ∙ ap (λ k. Some (fresh k)) (sym f)) ])

  -- the sum over the passes of the seats below n, seat by seat
  sum-below : (PassView V → ℕ) → ℕ → List (PassView V) → ℕ
  sum-below w zero ps = 0
  sum-below w (suc n) ps = sum-below w n ps + sum_by w (filter (is_at n) ps)

  sum-filter_first : (w : PassView V → ℕ) (f : PassView V → Bool) (x : PassView V) (xs : List (PassView V)) → sum_by w (filter f (x ∷ xs)) ≡ cond (f x) (w x) 0 + sum_by w (filter f xs)
  sum-filter_first w f x xs = elim (f x) as (λ b. sum_by w (cond b (x ∷ filter f xs) (filter f xs)) ≡ cond b (w x) 0 + sum_by w (filter f xs)) [ true ↦ sum_by-cons w x (filter f xs) | false ↦ omega arith ]

  sum-below_first : (w : PassView V → ℕ) (n : ℕ) (p : PassView V) (ps : List (PassView V)) → sum-below w n (p ∷ ps) ≡ weigh n p.seat (w p) + sum-below w n ps
  unfolding sum-below weigh
  sum-below_first w zero p ps = refl
  sum-below_first w (suc n) p ps = let a = sum-below_first w n p ps in let b = sum-filter_first w (is_at n) p ps in omega (arith, a, b)

  sum-below_none : (w : PassView V → ℕ) (n : ℕ) → sum-below w n [] ≡ 0
  unfolding sum-below
  sum-below_none w zero = refl
  sum-below_none w (suc n) = let a = sum-below_none w n in omega (arith, a)

  -- how many passes are of seats below n
  abbrev below : ℕ → List (PassView V) → ℕ
  below n ps = sum-below (λ p. 1) n ps

  below-most : (n : ℕ) (ps : List (PassView V)) → below n ps ≤ length ps
  below-most n [] = let a = sum-below_none (λ p. 1) n in omega (arith, a)
  below-most n (p ∷ ps) = let a = sum-below_first (λ q. 1) n p ps in let b = weigh-one n p.seat in let d = below-most n ps in omega (arith, a, b, d)

  sum-ones : (xs : List (PassView V)) → sum_by (λ p. 1) xs ≡ length xs
  sum-ones [] = refl
  sum-ones (x ∷ xs) = omega (arith, sum_by-cons (λ (p : PassView V). 1) x xs, sum-ones xs)

  below-each : (n : ℕ) (ps : List (PassView V)) → OneEach n ps → below n ps ≡ n
  unfolding sum-below
  below-each zero ps h = refl
  below-each (suc n) ps h = let a = below-each n ps (λ s l. h s (omega (arith, l))) in let b = length-filter (is_at n) ps in let c = sum-ones (filter (is_at n) ps) in let d = h n (omega arith) in omega (arith, a, b, c, d)

  -- there are at least as many passes as seats
  pub one_each-length : (n : ℕ) (ps : List (PassView V)) → OneEach n ps → n ≤ length ps
  one_each-length n ps h = let a = below-each n ps h in let b = below-most n ps in omega (arith, a, b)

  all-below : (w : PassView V → ℕ) (n : ℕ) (ps : List (PassView V)) → below n ps ≡ length ps → sum-below w n ps ≡ sum_by w ps
  all-below w n [] e = sum-below_none w n
  all-below w n (p ∷ ps) e =
      let first = sum-below_first (λ q. 1) n p ps in
      let most = below-most n ps in
      elim (cases_lt p.seat n) [
        | inl l ↦ (let rest = all-below w n ps (omega (arith, e, first, most, weigh-within n p.seat 1 l)) in
            omega (arith, sum-below_first w n p ps, weigh-within n p.seat (w p) l, sum_by-cons w p ps, rest))
        | inr g ↦ absurd (omega (arith, e, first, most, weigh-past n p.seat 1 g))
      ]

  pub placed-more : (n : ℕ) (ps qs : List (PassView V)) (p : PassView V) → n ≡ length qs → ArePlaced n ps qs → ArePlaced n (ps ++ p ∷ []) (set qs p.seat p)
  placed-more n ps qs p len h s q l e = let f = filter-append (is_at s) ps (p ∷ []) in
      elim (eqb_tells p.seat s) [
        | inl y ↦ (let g : filter (is_at s) ps ++ p ∷ [] ≡ q ∷ [] = ap (λ b. filter (is_at s) ps ++ cond b (p ∷ []) []) (sym y.0) ∙ sym f ∙ e in
            let same : p ≡ q = snoc-one _ p q g in
            ap (slice_get (set qs p.seat p)) (sym y.1) ∙ get-set_same qs p.seat p (omega (arith, y.1, l, len)) ∙ ap (λ w. Some w) same)
        | inr y ↦ (let g : filter (is_at s) ps ≡ q ∷ [] = sym (append-nil _) ∙ ap (λ b. filter (is_at s) ps ++ cond b (p ∷ []) []) (sym y.0) ∙ sym f ∙ e in
            get-set_other qs p.seat s p q (λ z. y.1 (sym z)) (h s q l g))
      ]

  pub placed-past : (n : ℕ) (ps qs : List (PassView V)) (p : PassView V) → n ≤ p.seat → ArePlaced n ps qs → ArePlaced n (ps ++ p ∷ []) qs
  placed-past n ps qs p past h s q l e = let f = filter-append (is_at s) ps (p ∷ []) in
      elim (eqb_tells p.seat s) [
        | inl y ↦ absurd (omega (arith, y.1, l, past))
        | inr y ↦ h s q l (sym (append-nil _) ∙ ap (λ b. filter (is_at s) ps ++ cond b (p ∷ []) []) (sym y.0) ∙ sym f ∙ e)
      ]

  -- if each seat has exactly one pass, the placed passes are in order of rising seat
  pub placed-by_seat : (n : ℕ) (ps qs : List (PassView V)) → length qs ≡ n → OneEach n ps → ArePlaced n ps qs → AreBySeat n ps qs
  placed-by_seat n ps qs len one h = (
    len,
    λ s l.
        let k = one-kept (is_at s) ps (one s l) in
        h s k.0 l k.1 ∙ sym (kept-found (is_at s) ps k.0 [] k.1),
  )

  -- and each is at the place of its seat
  pub at-seats : (n : ℕ) (ps qs : List (PassView V)) → AreBySeat n ps qs → (s : ℕ) (q : PassView V) → slice_get qs s ≡ Some q → q.seat ≡ s
  at-seats n ps qs h s q e =
      let within = slice_get_within qs s q e in
      let found : find (is_at s) ps ≡ Some q = sym (h.1 s (omega (arith, within, h.0))) ∙ e in
      let passes = found-passes (is_at s) ps q found in
      elim (eqb_tells q.seat s) [
        | inl y ↦ y.1
        | inr y ↦ (let bad : false ≡ true = sym y.0 ∙ passes in cc)
      ]

  sum-placed : (w : PassView V → ℕ) (n k : ℕ) (ps qs : List (PassView V)) → k ≤ n → OneEach n ps → ArePlaced n ps qs → sum-below w k ps ≡ sum_by w (take k qs)
  unfolding sum-below
  sum-placed w n zero ps qs l one h = refl
  sum-placed w n (suc k) ps qs l one h =
      let kept = one-kept (is_at k) ps (one k (omega (arith, l))) in
      let here = h k kept.0 (omega (arith, l)) kept.1 in
      let before = sum-placed w n k ps qs (omega (arith, l)) one h in
      let this : sum_by w (filter (is_at k) ps) ≡ w kept.0 = ap (λ xs. sum_by w xs) kept.1 ∙ omega (arith, sum_by-cons w kept.0 []) in
      let longer : sum_by w (take (suc k) qs) ≡ sum_by w (take k qs ++ kept.0 ∷ []) = ap (λ xs. sum_by w xs) (take-get qs k kept.0 here) in
      omega (arith, before, this, longer, sum_by-append w (take k qs) (kept.0 ∷ []), sum_by-cons w kept.0 [])

  -- the sum over the passes is the sum over them by rising seat
  pub sum-by_seat : (w : PassView V → ℕ) (n : ℕ) (ps qs : List (PassView V)) → length ps ≡ n → length qs ≡ n → OneEach n ps → ArePlaced n ps qs → sum_by w ps ≡ sum_by w qs
  sum-by_seat w n ps qs some len one h =
      sym (all-below w n ps (omega (arith, below-each n ps one, some)))
      ∙ sum-placed w n n ps qs (omega arith) one h
      ∙ ap (λ xs. sum_by w xs) (take-whole qs n (sym len))

  -- one more seat that has exactly one pass
  pub one_each-more : (n : ℕ) (ps : List (PassView V)) → OneEach n ps → count_by (is_at n) ps ≡ 1 → OneEach (n + 1) ps
  one_each-more n ps h e s l = elim (cases_lt s n) [ inl a ↦ h s a | inr b ↦ (let same : s ≡ n = omega (arith, b, l) in ap (λ k. count_by (is_at k) ps) same ∙ e) ]

  count-one : (f : PassView V → Bool) (ps : List (PassView V)) (p : PassView V) → count_by f (ps ++ p ∷ []) ≡ count_by f ps + cond (f p) 1 0
  count-one f ps p = omega (arith, sum_by-append (λ x. cond (f x) 1 0) ps (p ∷ []), sum_by-cons (λ x. cond (f x) 1 0) p [])

  count-most : (f : PassView V → Bool) (ps : List (PassView V)) → count_by f ps ≤ length ps
  count-most f [] = omega arith
  count-most f (p ∷ ps) =
      let first = sum_by-cons (λ x. cond (f x) 1 0) p ps in
      let rest = count-most f ps in
      let one : cond (f p) 1 0 ≤ suc zero = elim (f p) as (λ b. cond b 1 0 ≤ suc zero) [ true ↦ omega arith | false ↦ omega arith ] in
      omega (arith, first, rest, one)

  -- one more pass is counted at its seat
  pub counts-more : (n : ℕ) (ps : List (PassView V)) (counts : List ℕ) (p : PassView V) → p.seat < n → AreCounts n ps counts → AreCounts n (ps ++ p ∷ []) (set counts p.seat (get_or counts p.seat 0 + 1))
  counts-more n ps counts p within h = (
    length-set counts p.seat (get_or counts p.seat 0 + 1) ∙ h.0,
    λ s l.
        let more = count-one (is_at s) ps p in
        elim (eqb_tells p.seat s) [
          | inl y ↦ (let here = ap (λ k. get_or (set counts p.seat (get_or counts p.seat 0 + 1)) k 0) (sym y.1) ∙ get_or-set_same counts p.seat (get_or counts p.seat 0 + 1) 0 (omega (arith, within, h.0)) in
              let was : get_or counts p.seat 0 ≡ count_by (is_at s) ps = ap (λ k. get_or counts k 0) y.1 ∙ h.1 s l in
              let one : cond (p.seat == s) 1 0 ≡ suc zero = ap (λ b. cond b 1 0) y.0 in
              omega (arith, here, was, one, more))
          | inr y ↦ (let there = get_or-set_other counts p.seat s (get_or counts p.seat 0 + 1) 0 (λ z. y.1 (sym z)) in
              let was = h.1 s l in
              let none : cond (p.seat == s) 1 0 ≡ zero = ap (λ b. cond b 1 0) y.0 in
              omega (arith, there, was, none, more))
        ],
  )

  -- a pass of no seat isn't counted
  pub counts-past : (n : ℕ) (ps : List (PassView V)) (counts : List ℕ) (p : PassView V) → n ≤ p.seat → AreCounts n ps counts → AreCounts n (ps ++ p ∷ []) counts
  counts-past n ps counts p past h = (
    h.0,
    λ s l.
        let more = count-one (is_at s) ps p in
        elim (eqb_tells p.seat s) [
          | inl y ↦ absurd (omega (arith, y.1, l, past))
          | inr y ↦ (let was = h.1 s l in let none : cond (p.seat == s) 1 0 ≡ zero = ap (λ b. cond b 1 0) y.0 in omega (arith, was, none, more))
        ],
  )

  -- of the first i passes, a seat has at most i
  pub counts-most : (n i s : ℕ) (ps : List (PassView V)) (counts : List ℕ) → s < n → AreCounts n (take i ps) counts → get_or counts s 0 ≤ i
  counts-most n i s ps counts l h = omega (arith, h.1 s l, count-most (is_at s) (take i ps), take-short ps i)

  -- the next of the passes is counted at its seat, if there is such a seat
  pub counts-step : (n m i s : ℕ) (xs : List (PassView V)) (p : PassView V) (counts new : List ℕ) → m ≡ length counts → s ≡ p.seat → slice_get xs i ≡ Some p → AreCounts n (take i xs) counts → (s < m → new ≡ set counts s (get_or counts s 0 + 1)) → (m ≤ s → new ≡ counts) → AreCounts n (take (i + 1) xs) new
  counts-step n m i s xs p counts new len same here h within past =
      let ps : List (PassView V) = take i xs ++ p ∷ [] in
      subst (λ qs. AreCounts n qs new) (sym (take-more xs i p here)) (elim (cases_lt p.seat n) [
        | inl l ↦ subst (λ cs. AreCounts n ps cs) (sym (within (omega (arith, len, same, l, h.0)) ∙ ap (λ k. set counts k (get_or counts k 0 + 1)) same)) (counts-more n (take i xs) counts p l h)
        | inr g ↦ subst (λ cs. AreCounts n ps cs) (sym (past (omega (arith, len, same, g, h.0)))) (counts-past n (take i xs) counts p g h)
      ])

  -- the count at a seat is how many passes are of it
  pub seat-count : (n s : ℕ) (ps : List (PassView V)) (counts : List ℕ) (x : ℕ) → AreCounts n ps counts → s < n → x ≡ get_or counts s x → count_by (is_at s) ps ≡ x
  seat-count n s ps counts x h l read = omega (arith, h.1 s l, read, get_or_default_zero counts s x (omega (arith, h.0, l)))
