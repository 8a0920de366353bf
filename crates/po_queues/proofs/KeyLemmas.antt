-- Lists of distinct keys: what comes before and after a key, once one is added or taken out.
use Rattle.std.proofs.Common.{◌≡◌, ℕ, ◌+◌, true, false, cond, eqb, List, [], ◌∷◌, ◌++◌, length, Option, Some, None}
use Rattle.std.proofs.Common.{refl, sym, ap, ◌∙◌, inl, inr, arith}
use Rattle.std.proofs.lemmas.Bool.{cases_Bool, eqb-true, eqb-false, eq-eqb, ne_eqb, false≢true}
use Rattle.po_queues.specs.QueuedKeys.{occurs, first_key, last_key_or, key_after, key_before_or, without, AreDistinct}
use Rattle.po_queues.specs.QueuedKeys.{is_this}

-- a key that isn't among keys isn't the first, nor among the others
pub tail_free : (j x : ℕ) (xs : List ℕ) → occurs j (x ∷ xs) ≡ false → (eqb x j ≡ false) × (occurs j xs ≡ false)
tail_free j x xs free = elim (cases_Bool (eqb x j))
    [ inl equal ↦ absurd (false≢true (sym free ∙ simp equal refl)) | inr differ ↦ (differ, simp differ at free) ]

-- a key among keys that isn't the first is among the others
pub tail_has : (j x : ℕ) (xs : List ℕ) → occurs j (x ∷ xs) ≡ true → eqb x j ≡ false → occurs j xs ≡ true
tail_has j x xs has differ = simp differ at has

-- a key equal to one that isn't in the list isn't in it either
pub free_same : (x k : ℕ) (xs : List ℕ) → eqb x k ≡ true → occurs x xs ≡ false → occurs k xs ≡ false
free_same x k xs equal free = rw (eqb-true x k equal) at free

-- if x differs from k, k differs from x
pub other_way : (x k : ℕ) → eqb x k ≡ false → eqb k x ≡ false
other_way x k differ = ne_eqb k x (λ e. eqb-false x k differ (sym e))

-- if x equals k and k differs from j, x differs from j
pub not_both : (x k j : ℕ) → eqb k j ≡ false → eqb x k ≡ true → eqb x j ≡ false
not_both x k j differ equal = rw (eqb-true x k equal) differ

-- a key that isn't among keys isn't their first
pub head_free : (j : ℕ) (xs : List ℕ) → occurs j xs ≡ false → is_this (first_key xs) j ≡ false
head_free j [] free = refl
head_free j (y ∷ ys) free = (tail_free j y ys free).0

-- a key that isn't in the list comes after none
pub after_free : (k j : ℕ) (ks : List ℕ) → occurs j ks ≡ false → is_this (key_after k ks) j ≡ false
after_free k j [] free = refl
after_free k j (x ∷ xs) free =
    let t = tail_free j x xs free in
    elim (cases_Bool (eqb x k)) [
      | inl equal ↦ simp equal (head_free j xs t.1)
      | inr differ ↦ simp differ (after_free k j xs t.1)
    ]

-- taking out a key that isn't there changes nothing
pub without_free : (j : ℕ) (ks : List ℕ) → occurs j ks ≡ false → without j ks ≡ ks
without_free j [] free = refl
without_free j (x ∷ xs) free = let t = tail_free j x xs free in simp t.0 (ap (λ l. x ∷ l) (without_free j xs t.1))

-- a key that is neither in the list nor before it comes right before none
pub before_free : (p : Option ℕ) (k j : ℕ) (ks : List ℕ) → is_this p j ≡ false → occurs j ks ≡ false
    → is_this (key_before_or p k ks) j ≡ false
before_free p k j [] not_before free = refl
before_free p k j (x ∷ xs) not_before free = let t = tail_free j x xs free in elim (cases_Bool (eqb x k)) [
  | inl equal ↦ simp equal not_before
  | inr differ ↦ simp differ (before_free (Some x) k j xs t.0 t.1)
]

-- a key that isn't among keys isn't their last
pub last_free : (p : Option ℕ) (j : ℕ) (ks : List ℕ) → is_this p j ≡ false → occurs j ks ≡ false
    → is_this (last_key_or p ks) j ≡ false
last_free p j [] not_before free = not_before
last_free p j (x ∷ xs) not_before free = let t = tail_free j x xs free in last_free (Some x) j xs t.0 t.1

-- the key after another, with one more at the end
pub after_push : (p : Option ℕ) (k key : ℕ) (ks : List ℕ) → AreDistinct ks → occurs k ks ≡ true
    → key_after k (ks ++ key ∷ []) ≡ cond (is_this (last_key_or p ks) k) (Some key) (key_after k ks)
after_push p k key [] d has = absurd (false≢true has)
after_push p k key (x ∷ []) d has = elim (cases_Bool (eqb x k))
    [ inl equal ↦ simp equal refl | inr differ ↦ absurd (false≢true (tail_has k x [] has differ)) ]
after_push p k key (x ∷ y ∷ ys) d has = elim (cases_Bool (eqb x k)) [
  | inl equal ↦
      let free = free_same x k (y ∷ ys) equal d.0 in
      let t = tail_free k y ys free in
      simp (equal, last_free (Some y) k ys t.0 t.1) refl
  | inr differ ↦ simp differ (after_push (Some x) k key (y ∷ ys) d.1 (tail_has k x (y ∷ ys) has differ))
]

-- nothing comes after the new key
pub after_new : (key : ℕ) (ks : List ℕ) → occurs key ks ≡ false → key_after key (ks ++ key ∷ []) ≡ None
after_new key [] free = simp (eq-eqb key key refl) refl
after_new key (x ∷ xs) free = let t = tail_free key x xs free in simp t.0 (after_new key xs t.1)

-- what comes before a key stays with a new one at the end
pub before_push : (p : Option ℕ) (k key : ℕ) (ks : List ℕ) → occurs k ks ≡ true
    → key_before_or p k (ks ++ key ∷ []) ≡ key_before_or p k ks
before_push p k key [] has = absurd (false≢true has)
before_push p k key (x ∷ xs) has = elim (cases_Bool (eqb x k)) [
  | inl equal ↦ simp equal refl
  | inr differ ↦ simp differ (before_push (Some x) k key xs (tail_has k x xs has differ))
]

-- the last key comes before the new one
pub before_new : (p : Option ℕ) (key : ℕ) (ks : List ℕ) → occurs key ks ≡ false
    → key_before_or p key (ks ++ key ∷ []) ≡ last_key_or p ks
before_new p key [] free = simp (eq-eqb key key refl) refl
before_new p key (x ∷ xs) free = let t = tail_free key x xs free in simp t.0 (before_new (Some x) key xs t.1)

-- the new key is the last
pub last_push : (p : Option ℕ) (key : ℕ) (ks : List ℕ) → last_key_or p (ks ++ key ∷ []) ≡ Some key
last_push p key [] = refl
last_push p key (x ∷ xs) = last_push (Some x) key xs

-- the first key, once one is taken out
pub head_without : (j : ℕ) (ks : List ℕ) → AreDistinct ks
    → first_key (without j ks) ≡ cond (is_this (first_key ks) j) (key_after j ks) (first_key ks)
head_without j [] d = refl
head_without j (x ∷ xs) d = elim (cases_Bool (eqb x j)) [
  | inl equal ↦ simp equal (ap first_key (without_free j xs (free_same x j xs equal d.0)))
  | inr differ ↦ simp differ refl
]

-- what comes after another key
pub after_without : (k j : ℕ) (ks : List ℕ) → AreDistinct ks → eqb k j ≡ false
    → key_after k (without j ks) ≡ cond (is_this (key_after k ks) j) (key_after j ks) (key_after k ks)
after_without k j [] d differ_kj = refl
after_without k j (x ∷ xs) d differ_kj = elim (cases_Bool (eqb x k)) [
  | inl equal ↦ simp (not_both x k j differ_kj equal, equal) (head_without j xs d.1)
  | inr differ ↦ elim (cases_Bool (eqb x j)) [
    | inl equal_j ↦
        let free = free_same x j xs equal_j d.0 in
        simp (equal_j, differ, after_free k j xs free) (ap (key_after k) (without_free j xs free))
    | inr differ_j ↦ simp (differ_j, differ) (after_without k j xs d.1 differ_kj)
  ]
]

-- the last of the keys that are left
pub last_without : (p : Option ℕ) (j : ℕ) (ks : List ℕ) → AreDistinct ks → is_this p j ≡ false
    → last_key_or p (without j ks) ≡ cond (is_this (last_key_or p ks) j) (key_before_or p j ks) (last_key_or p ks)
last_without p j [] d not_before = simp not_before refl
last_without p j (x ∷ []) d not_before = elim (cases_Bool (eqb x j))
    [ inl equal ↦ simp equal refl | inr differ ↦ simp differ refl ]
last_without p j (x ∷ y ∷ ys) d not_before = elim (cases_Bool (eqb x j)) [
  | inl equal ↦
      let free = free_same x j (y ∷ ys) equal d.0 in
      let t = tail_free j y ys free in
      simp (equal, last_free (Some y) j ys t.0 t.1) (ap (last_key_or p) (without_free j (y ∷ ys) free))
  | inr differ ↦ simp differ (last_without (Some x) j (y ∷ ys) d.1 differ)
]

-- what comes before another key
pub before_without : (p : Option ℕ) (k j : ℕ) (ks : List ℕ) → AreDistinct ks → eqb k j ≡ false → is_this p j ≡ false
    → key_before_or p k (without j ks) ≡ cond (is_this (key_before_or p k ks) j) (key_before_or p j ks)
    (key_before_or p k ks)
before_without p k j [] d differ_kj not_before = refl
before_without p k j (x ∷ xs) d differ_kj not_before = elim (cases_Bool (eqb x k)) [
  | inl equal ↦ simp (not_both x k j differ_kj equal, equal, not_before) refl
  | inr differ ↦ elim (cases_Bool (eqb x j)) [
    | inl equal_j ↦
        let free = free_same x j xs equal_j d.0 in
        simp (equal_j, differ) (ap (key_before_or p k) (without_free j xs free)
        ∙ skipped p x k j xs equal_j differ free)
    | inr differ_j ↦ simp (differ_j, differ) (before_without (Some x) k j xs d.1 differ_kj differ_j)
  ]
]
  where
    skipped : (p : Option ℕ) (x k j : ℕ) (xs : List ℕ) → eqb x j ≡ true → eqb x k ≡ false → occurs j xs ≡ false
        → key_before_or p k xs ≡ cond (is_this (key_before_or (Some x) k xs) j) p (key_before_or (Some x) k xs)
    skipped p x k j [] equal_j differ free = refl
    skipped p x k j (y ∷ ys) equal_j differ free =
        let t = tail_free j y ys free in
        elim (cases_Bool (eqb y k)) [
          | inl equal ↦ simp (equal, equal_j) refl
          | inr differ_y ↦ simp (differ_y, before_free (Some y) k j ys t.0 t.1) refl
        ]

-- j comes after k exactly if k comes before j
pub neighbours : (p : Option ℕ) (k j : ℕ) (ks : List ℕ) → AreDistinct ks → eqb k j ≡ false → is_this p k ≡ false
    → is_this (key_after k ks) j ≡ is_this (key_before_or p j ks) k
neighbours p k j [] d differ_kj not_before = refl
neighbours p k j (x ∷ []) d differ_kj not_before = elim (cases_Bool (eqb x k)) [
  | inl equal ↦ simp (equal, not_both x k j differ_kj equal) refl
  | inr differ ↦ elim (cases_Bool (eqb x j))
      [ inl equal_j ↦ simp (differ, equal_j, not_before) refl | inr differ_j ↦ simp (differ, differ_j) refl ]
]
neighbours p k j (x ∷ y ∷ ys) d differ_kj not_before = elim (cases_Bool (eqb x k)) [
  | inl equal ↦
      let free = free_same x k (y ∷ ys) equal d.0 in
      let t = tail_free k y ys free in
      elim (cases_Bool (eqb y j)) [
        | inl equal_j ↦ simp (equal, not_both x k j differ_kj equal, equal_j) refl
        | inr differ_j ↦ simp (equal, not_both x k j differ_kj equal, differ_j)
            (sym (before_free (Some y) j k ys t.0 t.1))
      ]
  | inr differ ↦ elim (cases_Bool (eqb x j)) [
    | inl equal_j ↦ simp (differ, equal_j, not_before) (after_free k j (y ∷ ys) (free_same x j (y ∷ ys) equal_j d.0))
    | inr differ_j ↦ simp (differ, differ_j) (neighbours (Some x) k j (y ∷ ys) d.1 differ_kj differ)
  ]
]

-- the list is shorter by one
pub length_without : (j : ℕ) (ks : List ℕ) → AreDistinct ks → occurs j ks ≡ true → length (without j ks) + 1 ≡ length ks
length_without j [] d has = absurd (false≢true has)
length_without j (x ∷ xs) d has = elim (cases_Bool (eqb x j)) [
  | inl equal ↦ simp equal (omega (arith, ap length (without_free j xs (free_same x j xs equal d.0))))
  | inr differ ↦ simp differ (omega (arith, length_without j xs d.1 (tail_has j x xs has differ)))
]

-- nothing comes after a key that isn't there
pub after_none : (k : ℕ) (ks : List ℕ) → occurs k ks ≡ false → key_after k ks ≡ None
after_none k [] free = refl
after_none k (x ∷ xs) free = let t = tail_free k x xs free in simp t.0 (after_none k xs t.1)

-- nothing comes before a key that isn't there
pub before_none : (p : Option ℕ) (k : ℕ) (ks : List ℕ) → occurs k ks ≡ false → key_before_or p k ks ≡ None
before_none p k [] free = refl
before_none p k (x ∷ xs) free = let t = tail_free k x xs free in simp t.0 (before_none (Some x) k xs t.1)

-- with a new key at the end, any other key is in the list exactly if it was before
pub occurs_push : (k key : ℕ) (ks : List ℕ) → eqb key k ≡ false → occurs k (ks ++ key ∷ []) ≡ occurs k ks
occurs_push k key [] differ = simp differ refl
occurs_push k key (x ∷ xs) differ = elim (cases_Bool (eqb x k))
    [ inl equal ↦ simp equal refl | inr other ↦ simp other (occurs_push k key xs differ) ]

-- if a key isn't there with a new one at the end, it isn't the new one and wasn't there before
pub push_free : (k key : ℕ) (ks : List ℕ) → occurs k (ks ++ key ∷ []) ≡ false
    → (eqb key k ≡ false) × (occurs k ks ≡ false)
push_free k key [] free = tail_free k key [] free
push_free k key (x ∷ xs) free =
    let t = tail_free k x (xs ++ key ∷ []) free in
    let rest = push_free k key xs t.1 in
    (rest.0, simp t.0 rest.1)

-- once a key is taken out, any other key is in the list exactly if it was before
pub occurs_other : (k j : ℕ) (ks : List ℕ) → eqb k j ≡ false → occurs k (without j ks) ≡ occurs k ks
occurs_other k j [] differ = refl
occurs_other k j (x ∷ xs) differ = elim (cases_Bool (eqb x k)) [
  | inl equal ↦ simp (not_both x k j differ equal, equal) refl
  | inr other ↦ elim (cases_Bool (eqb x j)) [
    | inl equal_j ↦ simp (equal_j, other) (occurs_other k j xs differ)
    | inr differ_j ↦ simp (differ_j, other) (occurs_other k j xs differ)
  ]
]

-- a key that is taken out is no longer there
pub taken_free : (j : ℕ) (ks : List ℕ) → occurs j (without j ks) ≡ false
taken_free j [] = refl
taken_free j (x ∷ xs) = elim (cases_Bool (eqb x j))
    [ inl equal ↦ simp equal (taken_free j xs) | inr differ ↦ simp differ (taken_free j xs) ]
