-- How the neighbours of keys hold them, once a key is added or taken out, or there is room for more.
use Rattle.std.proofs.Common.{◌≡◌, ℕ, zero, suc, ◌<◌, ◌≤◌, Bool, true, false, cond, not, eqb, List, [], ◌∷◌, ◌++◌}
use Rattle.std.proofs.Common.{length, get_or, set, take, replicate, Option, Some, None, refl, sym, ap, ap₂, ◌∙◌, subst}
use Rattle.std.proofs.Common.{inl, inr, arith}
use Rattle.std.specs.Prelude.{IfSome}
use Rattle.std.specs.List.{All}
use Rattle.std.proofs.lemmas.Bool.{cases_Bool, eqb-true, eqb-false, eq-eqb, false≢true}
use Rattle.std.proofs.lemmas.List.{get_or-set_same, get_or-set_other, length-set, length-append, take_all}
use Rattle.std.proofs.lemmas.List.Elements.{All-nil, All-cons, All-head, All-tail, All-push, All-filter, All-weaker}
use Rattle.po_queues.proofs.KeyLemmas.{tail_has, free_same, other_way, head_free, last_free, without_free}
use Rattle.po_queues.proofs.KeyLemmas.{after_push, after_new, before_push, before_new, last_push, after_without}
use Rattle.po_queues.proofs.KeyLemmas.{before_without, neighbours, length_without, after_none, before_none}
use Rattle.po_queues.proofs.KeyLemmas.{occurs_push, taken_free}
use Rattle.po_queues.proofs.HoldLemmas.{distinct_push, distinct_without}
use Rattle.po_queues.proofs.RoomLemmas.{read_room}
use Rattle.po_queues.specs.QueuedKeys.{occurs, first_key, last_key_or, key_after, key_before_or, without, AreDistinct}
use Rattle.po_queues.specs.QueuedKeys.{is_this}
use Rattle.po_queues.specs.InOrder.{ArrivalsView, HoldsOrder, alone, neighbours_of, keys_from, keys_in_order}
use Rattle.po_queues.specs.InOrder.{either_end, with_after, with_before}
use Rattle.po_queues.specs.declared.neighbours.Neighbours.{Neighbours}

-- the neighbours with these two keys
abbrev made : Option ℕ → Option ℕ → Neighbours
made b a = record { before = b; after = a }

-- the neighbours of another key, with a new one at the end
push_other : (k key : ℕ) (ks : List ℕ) → AreDistinct ks → eqb key k ≡ false → neighbours_of k (ks ++ key ∷ []) ≡
    made (key_before_or None k ks) (cond (is_this (last_key_or None ks) k) (Some key) (key_after k ks))
push_other k key ks d differ = elim (cases_Bool (occurs k ks)) [
  | inl has ↦ ap₂ made (before_push None k key ks has) (after_push None k key ks d has)
  | inr free ↦
      let free' : occurs k (ks ++ key ∷ []) ≡ false = occurs_push k key ks differ ∙ free in
      ap₂ made (before_none None k (ks ++ key ∷ []) free' ∙ sym (before_none None k ks free))
      (after_none k (ks ++ key ∷ []) free' ∙ simp (last_free None k ks refl free) (sym (after_none k ks free)))
]

-- no key comes after itself
after_self : (j : ℕ) (ks : List ℕ) → AreDistinct ks → is_this (key_after j ks) j ≡ false
after_self j [] d = refl
after_self j (x ∷ xs) d = elim (cases_Bool (eqb x j)) [
  | inl equal ↦ simp equal (head_free j xs (free_same x j xs equal d.0))
  | inr differ ↦ simp differ (after_self j xs d.1)
]

-- no key comes before itself
before_self : (p : Option ℕ) (j : ℕ) (ks : List ℕ) → is_this p j ≡ false → is_this (key_before_or p j ks) j ≡ false
before_self p j [] not_before = refl
before_self p j (x ∷ xs) not_before = elim (cases_Bool (eqb x j))
    [ inl equal ↦ simp equal not_before | inr differ ↦ simp differ (before_self (Some x) j xs differ) ]

-- the neighbours of another key, once a key is taken out
without_other : (k j : ℕ) (ks : List ℕ) → AreDistinct ks → eqb j k ≡ false → neighbours_of k (without j ks) ≡
    made (cond (is_this (key_after j ks) k) (key_before_or None j ks) (key_before_or None k ks))
    (cond (is_this (key_before_or None j ks) k) (key_after j ks) (key_after k ks))
without_other k j ks d differ =
    let back = other_way j k differ in
    ap₂ made (before_without None k j ks d back refl
    ∙ ap (λ (t : Bool). cond t (key_before_or None j ks) (key_before_or None k ks))
    (sym (neighbours None j k ks d differ refl)))
    (after_without k j ks d back
    ∙ ap (λ (t : Bool). cond t (key_after j ks) (key_after k ks)) (neighbours None k j ks d back refl))

-- if there is a key, there is a last one
last_some : (x : ℕ) (xs : List ℕ) (new end : Option ℕ) → either_end (last_key_or (Some x) xs) new end ≡ end
last_some x [] new end = refl
last_some x (y ∷ ys) new end = last_some y ys new end

-- the first key, with a new one at the end
first_push : (key : ℕ) (ks : List ℕ)
    → either_end (last_key_or None ks) (Some key) (first_key ks) ≡ first_key (ks ++ key ∷ [])
first_push key [] = refl
first_push key (x ∷ xs) = last_some x xs (Some key) (Some x)

-- if a key isn't the first, there is one before it
before_some : (x j : ℕ) (xs : List ℕ) (new end : Option ℕ) → occurs j xs ≡ true
    → either_end (key_before_or (Some x) j xs) new end ≡ end
before_some x j [] new end has = absurd (false≢true has)
before_some x j (y ∷ ys) new end has = elim (cases_Bool (eqb y j))
    [ inl equal ↦ simp equal refl | inr differ ↦ simp differ (before_some y j ys new end (tail_has j y ys has differ)) ]

-- the first key, once one is taken out
first_left : (j : ℕ) (ks : List ℕ) → AreDistinct ks → occurs j ks ≡ true
    → either_end (key_before_or None j ks) (key_after j ks) (first_key ks) ≡ first_key (without j ks)
first_left j [] d has = absurd (false≢true has)
first_left j (x ∷ xs) d has = elim (cases_Bool (eqb x j)) [
  | inl equal ↦ simp equal (sym (ap first_key (without_free j xs (free_same x j xs equal d.0))))
  | inr differ ↦ simp differ (before_some x j xs (key_after j xs) (Some x) (tail_has j x xs has differ))
]

-- the last key, once one is taken out
last_left : (p : Option ℕ) (j : ℕ) (ks : List ℕ) → AreDistinct ks → occurs j ks ≡ true
    → either_end (key_after j ks) (key_before_or p j ks) (last_key_or p ks) ≡ last_key_or p (without j ks)
last_left p j [] d has = absurd (false≢true has)
last_left p j (x ∷ []) d has = elim (cases_Bool (eqb x j))
    [ inl equal ↦ simp equal refl | inr differ ↦ absurd (false≢true (tail_has j x [] has differ)) ]
last_left p j (x ∷ y ∷ ys) d has = elim (cases_Bool (eqb x j)) [
  | inl equal ↦
      simp equal (sym (ap (last_key_or p) (without_free j (y ∷ ys) (free_same x j (y ∷ ys) equal d.0))))
  | inr differ ↦ simp differ (last_left (Some x) j (y ∷ ys) d.1 (tail_has j x (y ∷ ys) has differ))
]

-- there is room for the last key
pub last_below : (n : ℕ) (p : Option ℕ) (ks : List ℕ) → IfSome p (λ i. i < n) → All (λ k. k < n) ks
    → IfSome (last_key_or p ks) (λ i. i < n)
last_below n p [] before all = before
last_below n p (x ∷ xs) before all =
    last_below n (Some x) xs (All-head (λ k. k < n) x xs all) (All-tail (λ k. k < n) x xs all)

-- there is room for the key before a key
pub before_below : (n : ℕ) (p : Option ℕ) (j : ℕ) (ks : List ℕ) → IfSome p (λ i. i < n) → All (λ k. k < n) ks
    → IfSome (key_before_or p j ks) (λ i. i < n)
before_below n p j [] before all = tt
before_below n p j (x ∷ xs) before all = elim (cases_Bool (eqb x j)) [
  | inl equal ↦ simp equal before
  | inr differ ↦ simp differ (before_below n (Some x) j xs (All-head (λ k. k < n) x xs all)
      (All-tail (λ k. k < n) x xs all))
]

-- there is room for the first key
first_below : (n : ℕ) (ks : List ℕ) → All (λ k. k < n) ks → IfSome (first_key ks) (λ i. i < n)
first_below n [] all = tt
first_below n (x ∷ xs) all = All-head (λ k. k < n) x xs all

-- there is room for the key after a key
pub after_below : (n j : ℕ) (ks : List ℕ) → All (λ k. k < n) ks → IfSome (key_after j ks) (λ i. i < n)
after_below n j [] all = tt
after_below n j (x ∷ xs) all =
    let rest = All-tail (λ k. k < n) x xs all in
    elim (cases_Bool (eqb x j))
    [ inl equal ↦ simp equal (first_below n xs rest) | inr differ ↦ simp differ (after_below n j xs rest) ]

-- there is room for a key that is there
key_below : (n j : ℕ) (ks : List ℕ) → All (λ k. k < n) ks → occurs j ks ≡ true → j < n
key_below n j [] all has = absurd (false≢true has)
key_below n j (x ∷ xs) all has = elim (cases_Bool (eqb x j)) [
  | inl equal ↦
      let here : x < n = All-head (λ k. k < n) x xs all in
      omega (arith, here, eqb-true x j equal)
  | inr differ ↦ key_below n j xs (All-tail (λ k. k < n) x xs all) (tail_has j x xs has differ)
]

-- keys below n + 1 are below n once n is taken out
below_without : (n : ℕ) (ks : List ℕ) → All (λ k. k < suc n) ks → All (λ k. k < n) (without n ks)
below_without n [] all = All-nil (λ k. k < n)
below_without n (x ∷ xs) all =
    let here : x < suc n = All-head (λ k. k < suc n) x xs all in
    let rest = below_without n xs (All-tail (λ k. k < suc n) x xs all) in
    elim (cases_Bool (eqb x n)) [
      | inl equal ↦ simp equal rest
      | inr differ ↦
          let lower : x < n = omega (arith, here, eqb-false x n differ) in
          simp differ (All-cons (λ k. k < n) x (without n xs) lower rest)
    ]

-- distinct keys are at most as many as there are numbers below their bound
few : (n : ℕ) (ks : List ℕ) → AreDistinct ks → All (λ k. k < n) ks → length ks ≤ n
few zero [] d all = omega arith
few zero (x ∷ xs) d all = absurd (omega (arith, All-head (λ k. k < 0) x xs all))
few (suc n) ks d all =
    let less = few n (without n ks) (distinct_without n ks d) (below_without n ks all) in
    elim (cases_Bool (occurs n ks)) [
      | inl has ↦ omega (arith, length_without n ks d has, less)
      | inr free ↦ omega (arith, ap length (without_free n ks free), less)
    ]

-- keys are passed in order if each has the next one after it
passed : (n : ℕ) (ns : List Neighbours) (ks : List ℕ) → AreDistinct ks → length ks ≤ n
    → ((k : ℕ) → occurs k ks ≡ true → (get_or ns k alone).after ≡ key_after k ks) → keys_from n ns (first_key ks) ≡ ks
passed zero ns [] d short each = refl
passed zero ns (x ∷ xs) d short each = absurd (omega arith)
passed (suc n) ns [] d short each = refl
passed (suc n) ns (x ∷ xs) d short each =
    let same = eq-eqb x x refl in
    let first : occurs x (x ∷ xs) ≡ true = simp same refl in
    let next : key_after x (x ∷ xs) ≡ first_key xs = simp same refl in
    ap (λ l. x ∷ l) (ap (keys_from n ns) (each x first ∙ next)
    ∙ passed n ns xs d.1 (omega arith) (λ k has. elim (cases_Bool (eqb x k)) [
      | inl equal ↦ absurd (false≢true (sym (free_same x k xs equal d.0) ∙ has))
      | inr differ ↦
          let there : occurs k (x ∷ xs) ≡ true = simp differ has in
          let same_after : key_after k (x ∷ xs) ≡ key_after k xs = simp differ refl in
          each k there ∙ same_after
    ]))

-- what is read once one key got another after it
read_after : (ns : List Neighbours) (key after : Option ℕ) (k : ℕ) → IfSome key (λ i. i < length ns)
    → get_or (with_after ns key after) k alone ≡
    made (get_or ns k alone).before (cond (is_this key k) after (get_or ns k alone).after)
read_after ns None after k within = refl
read_after ns (Some i) after k within = elim (cases_Bool (eqb i k)) [
  | inl equal ↦ let e = eqb-true i k equal in
      simp equal (rw (← e) (get_or-set_same ns i (made (get_or ns i alone).before after) alone within))
  | inr differ ↦ simp differ (get_or-set_other ns i k (made (get_or ns i alone).before after) alone
      (λ e. eqb-false i k differ (sym e)))
]

-- what is read once one key got another before it
read_before : (ns : List Neighbours) (key before : Option ℕ) (k : ℕ) → IfSome key (λ i. i < length ns)
    → get_or (with_before ns key before) k alone ≡
    made (cond (is_this key k) before (get_or ns k alone).before) (get_or ns k alone).after
read_before ns None before k within = refl
read_before ns (Some i) before k within = elim (cases_Bool (eqb i k)) [
  | inl equal ↦ let e = eqb-true i k equal in
      simp equal (rw (← e) (get_or-set_same ns i (made before (get_or ns i alone).after) alone within))
  | inr differ ↦ simp differ (get_or-set_other ns i k (made before (get_or ns i alone).after) alone
      (λ e. eqb-false i k differ (sym e)))
]

-- the number of reserved keys stays
pub length_after : (ns : List Neighbours) (key after : Option ℕ) → length (with_after ns key after) ≡ length ns
length_after ns None after = refl
length_after ns (Some i) after = length-set ns i (made (get_or ns i alone).before after)

-- the number of reserved keys stays
pub length_before : (ns : List Neighbours) (key before : Option ℕ) → length (with_before ns key before) ≡ length ns
length_before ns None before = refl
length_before ns (Some i) before = length-set ns i (made before (get_or ns i alone).after)

-- what contracts see of neighbours and the first key
abbrev pub order_view : List Neighbours → Option ℕ → ArrivalsView
order_view ns first = record { reserved = length ns; keys = keys_in_order ns first }

-- contracts see these keys, and they are held
pub record IsInOrder (ns : List Neighbours) (first last : Option ℕ) (reserved : ℕ) (keys : List ℕ) : Type 0 where
  pub view : order_view ns first ≡ record { reserved = reserved; keys = keys }
  pub keeps : HoldsOrder ns first last (keys_in_order ns first)

-- if keys are held, they are passed in order
in_order : {ns : List Neighbours} {first last : Option ℕ} {ks : List ℕ} (h : HoldsOrder ns first last ks)
    → keys_in_order ns first ≡ ks
in_order {ns} {first} {last} {ks} h =
    ap (keys_in_order ns) h.first_is ∙ passed (length ns) ns ks h.distinct (few (length ns) ks h.distinct h.reserved)
    (λ k _. ap (λ (n : Neighbours). n.after) (h.each k))

-- if keys are held, contracts see them
seen : {ns : List Neighbours} {first last : Option ℕ} {ks : List ℕ} (h : HoldsOrder ns first last ks) (n : ℕ)
    → length ns ≡ n → IsInOrder ns first last n ks
seen {ns} {first} {last} {ks} h n as_many =
    let keys_are = in_order h in
    record {
      view = ap₂ (λ (n : ℕ) (ks : List ℕ). let v : ArrivalsView = record { reserved = n; keys = ks } in v) as_many keys_are;
      keeps = subst (HoldsOrder ns first last) (sym keys_are) h;
    }

module _ {ns : List Neighbours} {first last : Option ℕ} {ks : List ℕ} (h : HoldsOrder ns first last ks) where
  -- there is room for a key that contracts see
  pub key_room : {view : ArrivalsView} → order_view ns first ≡ view → (j : ℕ) → occurs j view.keys ≡ true
      → (j < length ns) × (occurs j ks ≡ true)
  key_room seen_is j has =
      let there : occurs j ks ≡ true = ap (occurs j) (sym (in_order h) ∙ ap (λ (v : ArrivalsView). v.keys) seen_is) ∙ has in
      (key_below (length ns) j ks h.reserved there, there)

  -- there is room for the last key
  pub last_room : (n : ℕ) → n ≡ length ns → IfSome last (λ i. i < n)
  last_room n is = rw (h.last_is, is) (last_below (length ns) None ks tt h.reserved)

  -- there is room for the key before a key
  pub before_room : (j n : ℕ) → n ≡ length ns → (o : Neighbours) → o ≡ get_or ns j alone → IfSome o.before (λ i. i < n)
  before_room j n is o o_is = rw (o_is, h.each j, is) (before_below (length ns) None j ks tt h.reserved)

  -- there is room for the key after a key
  pub after_room : (j n : ℕ) → n ≡ length ns → (o : Neighbours) → o ≡ get_or ns j alone → IfSome o.after (λ i. i < n)
  after_room j n is o o_is = rw (o_is, h.each j, is) (after_below (length ns) j ks h.reserved)

  -- a key is added at the end
  pub pushed : (key : ℕ) → key < length ns → occurs key ks ≡ false → (ns' : List Neighbours) (first' : Option ℕ)
      → ns' ≡ with_before (with_after ns last (Some key)) (Some key) last → first' ≡ either_end last (Some key) first
      → IsInOrder ns' first' (Some key) (length ns) (ks ++ key ∷ [])
  pushed key within free ns' first' ns_is first_is =
      let one = with_after ns last (Some key) in
      let one_len = length_after ns last (Some key) in
      let off : is_this last key ≡ false = ap (λ o. is_this o key) h.last_is ∙ last_free None key ks refl free in
      let as_many : length ns' ≡ length ns = ap length ns_is ∙ length_before one (Some key) last ∙ one_len in
      let key_within : key < length one = rw one_len within in
      seen (record {
        each = λ k. ap (λ l. get_or l k alone) ns_is ∙ read_before one (Some key) last k key_within
            ∙ ap (λ (n : Neighbours). made (cond (eqb key k) last n.before) n.after)
            (read_after ns last (Some key) k (last_room (length ns) refl)
            ∙ ap (λ (n : Neighbours). made n.before (cond (is_this last k) (Some key) n.after)) (h.each k))
            ∙ elim (cases_Bool (eqb key k)) [
              | inl equal ↦
                  let e = eqb-true key k equal in
                  rw (← e) (simp (eq-eqb key key refl, off) (ap₂ made (h.last_is ∙ sym (before_new None key ks free))
                  (after_none key ks free ∙ sym (after_new key ks free))))
              | inr differ ↦ simp differ
                  (ap (λ (o : Option ℕ). made (key_before_or None k ks) (cond (is_this o k) (Some key) (key_after k ks)))
                  h.last_is ∙ sym (push_other k key ks h.distinct differ))
            ];
        first_is = first_is ∙ ap₂ (λ (l f : Option ℕ). either_end l (Some key) f) h.last_is h.first_is ∙ first_push key ks;
        last_is = sym (last_push None key ks);
        distinct = distinct_push ks key h.distinct free;
        reserved = rw as_many (All-push (λ k. k < length ns) ks key h.reserved within);
      }) (length ns) as_many

  -- a key is taken out
  pub taken : (j : ℕ) → j < length ns → occurs j ks ≡ true → (o : Neighbours) → o ≡ get_or ns j alone
      → (ns' : List Neighbours) (first' last' : Option ℕ)
      → ns' ≡ with_before (with_after (set ns j alone) o.before o.after) o.after o.before
      → first' ≡ either_end o.before o.after first → last' ≡ either_end o.after o.before last
      → IsInOrder ns' first' last' (length ns) (without j ks)
  taken j within has o o_is ns' first' last' ns_is first_is last_is =
      let b = key_before_or None j ks in
      let a = key_after j ks in
      let one = set ns j alone in
      let two = with_after one b a in
      let is : o ≡ made b a = o_is ∙ h.each j in
      let one_len = length-set ns j alone in
      let two_len : length two ≡ length ns = length_after one b a ∙ one_len in
      let now : ns' ≡ with_before two a b = rw is at ns_is in
      let as_many : length ns' ≡ length ns = ap length now ∙ length_before two a b ∙ two_len in
      let b_room = rw (← one_len) at (before_below (length ns) None j ks tt h.reserved) in
      let a_room = rw (← two_len) at (after_below (length ns) j ks h.reserved) in
      seen (record {
        each = λ k. ap (λ l. get_or l k alone) now ∙ read_before two a b k a_room
            ∙ ap (λ (n : Neighbours). made (cond (is_this a k) b n.before) n.after) (read_after one b a k b_room)
            ∙ elim (cases_Bool (eqb j k)) [
              | inl equal ↦
                  let e = eqb-true j k equal in
                  let off_a = after_self j ks h.distinct in
                  let off_b = before_self None j ks refl in
                  rw (← e) (simp (off_a, off_b) (get_or-set_same ns j alone alone within ∙ sym (left_alone j ks)))
              | inr differ ↦
                  let was : get_or one k alone ≡ neighbours_of k ks =
                  get_or-set_other ns j k alone alone (λ e. eqb-false j k differ (sym e)) ∙ h.each k in
                  ap (λ (n : Neighbours). made (cond (is_this a k) b n.before) (cond (is_this b k) a n.after)) was
                  ∙ sym (without_other k j ks h.distinct differ)
            ];
        first_is = first_is ∙ ap₂ (λ (n : Neighbours) (f : Option ℕ). either_end n.before n.after f) is h.first_is
            ∙ first_left j ks h.distinct has;
        last_is = last_is ∙ ap₂ (λ (n : Neighbours) (l : Option ℕ). either_end n.after n.before l) is h.last_is
            ∙ last_left None j ks h.distinct has;
        distinct = distinct_without j ks h.distinct;
        reserved = rw as_many (All-filter (λ k. not (eqb k j)) (λ k. k < length ns) ks h.reserved);
      }) (length ns) as_many
    where
      left_alone : (j : ℕ) (ks : List ℕ) → neighbours_of j (without j ks) ≡ alone
      left_alone j ks = ap₂ made (before_none None j (without j ks) (taken_free j ks))
          (after_none j (without j ks) (taken_free j ks))

  -- room for more keys, if there was memory
  pub grown_order : (grown : Bool) (n m : ℕ) (ns' : List Neighbours) → length ns ≤ n
      → ns' ≡ cond grown (take n ns ++ replicate m alone) ns → IsInOrder ns' first last (length ns') ks
  grown_order true n m ns' long is =
      let more : ns' ≡ ns ++ replicate m alone = is ∙ ap (λ l. l ++ replicate m alone) (take_all n ns long) in
      let longer = ap length more ∙ length-append ns (replicate m alone) in
      seen (record {
        each = λ k. ap (λ l. get_or l k alone) more ∙ read_room alone ns m k ∙ h.each k;
        first_is = h.first_is;
        last_is = h.last_is;
        distinct = h.distinct;
        reserved = All-weaker (λ k. k < length ns) (λ k. k < length ns') (λ k lt. omega (arith, lt, longer)) ks h.reserved;
      }) (length ns') refl
  grown_order false n m ns' long is = seen (subst (λ l. HoldsOrder l first last ks) (sym is) h) (length ns') refl
