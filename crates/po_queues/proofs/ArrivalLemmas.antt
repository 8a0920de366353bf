-- The links hold only one list.
use Rattle.std.proofs.Common.{◌≡◌, ℕ, suc, ◌+◌, ◌-◌, ◌<◌, not, eqb, List, [], ◌∷◌, ◌++◌, get_or, Option, Some, None}
use Rattle.std.proofs.Common.{refl, sym, ap, ◌∙◌, inl, inr, arith}
use Rattle.std.specs.List.{All}
use Rattle.std.proofs.lemmas.List.Elements.{All-nil, All-head, All-tail, All-push, All-filter}
use Rattle.std.proofs.lemmas.Bool.{cases_Bool, cases_eq, cases_lt, eqb-true, eq-eqb, ne_eqb, lt-ltb, le-ltb}
use Rattle.po_queues.proofs.KeyLemmas.{free_same}
use Rattle.po_queues.proofs.ItemLemmas.{item_without}
use Rattle.po_queues.proofs.HoldLemmas.{without_none, keys_of-without, distinct_without}
use Rattle.po_queues.specs.QueuedKeys.{QueuedKey, keys_of, item_of, without_key, AreDistinct, RiseBy}
use Rattle.po_queues.specs.Links.{link_of_item, HoldsQueues}
use Rattle.po_queues.specs.Arrivals.{insert_item, arrivals_from, arrivals}
use Rattle.po_queues.specs.declared.link.Link.{Link}

-- a key found among later ones has a later stamp
after_found : (s k : ℕ) (items : List QueuedKey) (x : QueuedKey) → All (λ y. s < y.stamp) items
    → item_of k items ≡ Some x → s < x.stamp
after_found s k [] x all found = let bad : None ≡ Some x = found in absurd (cc)
after_found s k (y ∷ ys) x all found = elim (cases_Bool (eqb y.key k)) [
  | inl equal ↦
      let q : Some y ≡ Some x = simp equal at found in
      let same : y ≡ x = cc in
      rw same at (All-head (λ y. s < y.stamp) y ys all)
  | inr differ ↦ after_found s k ys x (All-tail (λ y. s < y.stamp) y ys all) (simp differ at found)
]

-- if all stamps are later, they are so without a key
after_without : (s k : ℕ) (items : List QueuedKey) → All (λ y. s < y.stamp) items
    → All (λ y. s < y.stamp) (without_key k items)
after_without s k items all = All-filter (λ x. not (eqb x.key k)) (λ y. s < y.stamp) items all

-- rising stamps still rise without a key
pub rising_without : (k : ℕ) (items : List QueuedKey) → RiseBy (λ x. x.stamp) items → RiseBy (λ x. x.stamp) (without_key k items)
rising_without k [] r = r
rising_without k (y ∷ ys) r = elim (cases_Bool (eqb y.key k)) [
  | inl equal ↦ simp equal (rising_without k ys r.1)
  | inr differ ↦ simp differ (after_without y.stamp k ys r.0, rising_without k ys r.1)
]

-- if a key comes before all others, it is put first
front : (x : QueuedKey) (ys : List QueuedKey) → All (λ y. x.stamp < y.stamp) ys → insert_item x ys ≡ x ∷ ys
front x [] all = refl
front x (y ∷ ys) all = simp (lt-ltb x.stamp y.stamp (All-head (λ y. x.stamp < y.stamp) y ys all)) refl

-- a queued key that is taken out and put in again goes back to its place
back : (k : ℕ) (items : List QueuedKey) (x : QueuedKey) → RiseBy (λ x. x.stamp) items → AreDistinct (keys_of items)
    → item_of k items ≡ Some x → insert_item x (without_key k items) ≡ items
back k [] x r d found = let bad : None ≡ Some x = found in absurd (cc)
back k (y ∷ ys) x r d found = elim (cases_Bool (eqb y.key k)) [
  | inl equal ↦
      let q : Some y ≡ Some x = simp equal at found in
      let same : y ≡ x = cc in
      simp (equal, without_none k ys (free_same y.key k (keys_of ys) equal d.0)) (rw (← same) (front y ys r.0))
  | inr differ ↦
      let later = simp differ at found in
      let lt = after_found y.stamp k ys x r.0 later in
      simp (differ, le-ltb x.stamp y.stamp (omega arith)) (ap (λ l. y ∷ l) (back k ys x r.1 d.1 later))
]

-- the entry and the stamp of a link
abbrev entry_and_stamp : Option Link → Option (ℕ × ℕ)
entry_and_stamp None = None
entry_and_stamp (Some l) = Some (l.entry, l.stamp)

-- the entry and the stamp of a queued key
abbrev item_entry_and_stamp : Option QueuedKey → Option (ℕ × ℕ)
item_entry_and_stamp None = None
item_entry_and_stamp (Some x) = Some (x.entry, x.stamp)

-- if no key has an item, there is none
no_items : (items : List QueuedKey) → ((j : ℕ) → item_of j items ≡ None) → items ≡ []
no_items [] none = refl
no_items (x ∷ xs) none = let bad : Some x ≡ None = simp (eq-eqb x.key x.key refl) at (none x.key) in absurd (cc)

-- an item that is found has the key
item_key : (k : ℕ) (items : List QueuedKey) (x : QueuedKey) → item_of k items ≡ Some x → x.key ≡ k
item_key k [] x found = let bad : None ≡ Some x = found in absurd (cc)
item_key k (y ∷ ys) x found = elim (cases_Bool (eqb y.key k)) [
  | inl equal ↦ let q : Some y ≡ Some x = simp equal at found in let same : x ≡ y = cc in
      ap (λ (z : QueuedKey). z.key) same ∙ eqb-true y.key k equal
  | inr differ ↦ item_key k ys x (simp differ at found)
]

-- once a key is taken out, it has no item
gone : (j : ℕ) (items : List QueuedKey) → item_of j (without_key j items) ≡ None
gone j [] = refl
gone j (x ∷ xs) = elim (cases_Bool (eqb x.key j))
    [ inl equal ↦ simp equal (gone j xs) | inr differ ↦ simp differ (gone j xs) ]

-- if there is no entry and stamp, there is no item
none_from_pair : (o : Option QueuedKey) → None ≡ item_entry_and_stamp o → o ≡ None
none_from_pair None e = refl
none_from_pair (Some x) e = absurd (cc)

-- an item is determined by its entry, its key and its stamp
some_from_pair : (k : ℕ) (l : Link) (o : Option QueuedKey) → ((x : QueuedKey) → o ≡ Some x → x.key ≡ k)
    → Some (l.entry, l.stamp) ≡ item_entry_and_stamp o
    → o ≡ Some (record { entry = l.entry; key = k; stamp = l.stamp })
some_from_pair k l None key e = absurd (cc)
some_from_pair k l (Some x) key e =
    let ke = key x refl in
    let p : ◌≡◌ {A = ℕ × ℕ} (l.entry, l.stamp) (x.entry, x.stamp) = cc in
    let ee : x.entry ≡ l.entry = ap (λ (p : ℕ × ℕ). p.0) (sym p) in
    let es : x.stamp ≡ l.stamp = ap (λ (p : ℕ × ℕ). p.1) (sym p) in
    ap (λ (e : ℕ). let z : QueuedKey = record { entry = e; key = x.key; stamp = x.stamp } in Some z) ee
    ∙ ap (λ (q : ℕ). let z : QueuedKey = record { entry = l.entry; key = q; stamp = x.stamp } in Some z) ke
    ∙ ap (λ (s : ℕ). let z : QueuedKey = record { entry = l.entry; key = k; stamp = s } in Some z) es

-- the index one further on
shifted : (k i : ℕ) → k + suc i ≡ k + 1 + i
shifted k i = omega arith

-- the keys queued by the links from k on, if no key below k is queued
unique_from : (k : ℕ) (links : List (Option Link)) (items : List QueuedKey) → RiseBy (λ x. x.stamp) items
    → AreDistinct (keys_of items) → ((j : ℕ) → j < k → item_of j items ≡ None)
    → ((i : ℕ) → entry_and_stamp (get_or links i None) ≡ item_entry_and_stamp (item_of (k + i) items))
    → arrivals_from k links ≡ items
unique_from k [] items r d low fits = sym (no_items items (λ j. elim (cases_lt j k) [
  | inl lt ↦ low j lt
  | inr ge ↦ let e : k + (j - k) ≡ j = omega arith in rw e at
      (none_from_pair (item_of (k + (j - k)) items) (fits (j - k)))
]))
unique_from k (None ∷ links) items r d low fits =
    let zero_more : k + 0 ≡ k = omega arith in
    unique_from (k + 1) links items r d (λ j lt. elim (cases_eq j k) [
      | inl e ↦ rw e (rw zero_more at (none_from_pair (item_of (k + 0) items) (fits 0)))
      | inr ne ↦ low j (omega arith)
    ]) (λ i. fits (suc i) ∙ ap (λ n. item_entry_and_stamp (item_of n items)) (shifted k i))
unique_from k (Some l ∷ links) items r d low fits =
    let zero_more : k + 0 ≡ k = omega arith in
    let x : QueuedKey = record { entry = l.entry; key = k; stamp = l.stamp } in
    let found = some_from_pair k l (item_of k items) (λ x. item_key k items x) (rw zero_more at (fits 0)) in
    let rest = unique_from (k + 1) links (without_key k items) (rising_without k items r)
    (rw (keys_of-without k items) (distinct_without k (keys_of items) d)) (λ j lt. elim (cases_eq j k) [
      | inl e ↦ rw e (gone k items)
      | inr ne ↦ item_without j k items (ne_eqb j k ne) ∙ low j (omega arith)
    ]) (λ i. fits (suc i) ∙ ap (λ n. item_entry_and_stamp (item_of n items)) (shifted k i)
    ∙ sym (ap item_entry_and_stamp (item_without (k + 1 + i) k items (ne_eqb (k + 1 + i) k (λ e. omega arith)))))
    in
    ap (insert_item x) rest ∙ back k items x r d found

-- a link has the entry and the stamp of its item
link_entry_and_stamp : (items : List QueuedKey) (o : Option QueuedKey)
    → entry_and_stamp (link_of_item items o) ≡ item_entry_and_stamp o
link_entry_and_stamp items None = refl
link_entry_and_stamp items (Some x) = refl

-- if the links hold these keys, they are read back from the links
pub unique : (total : ℕ) (links : List (Option Link)) (firsts lasts : List (Option ℕ)) (counts : List ℕ)
    (items : List QueuedKey)
    → HoldsQueues total links firsts lasts counts items → RiseBy (λ x. x.stamp) items → arrivals links ≡ items
unique total links firsts lasts counts items h r = unique_from 0 links items r h.distinct
    (λ j lt. absurd (omega arith)) (λ i. ap entry_and_stamp (h.linked i)
    ∙ link_entry_and_stamp items (item_of i items) ∙ ap (λ n. item_entry_and_stamp (item_of n items)) (from_zero i))
  where
    from_zero : (i : ℕ) → i ≡ 0 + i
    from_zero i = omega arith

-- rising stamps still rise with a later one at the end
pub rising_push : (items : List QueuedKey) (x : QueuedKey) → RiseBy (λ x. x.stamp) items → All (λ y. y.stamp < x.stamp) items
    → RiseBy (λ x. x.stamp) (items ++ x ∷ [])
rising_push [] x r before = (All-nil (λ y. x.stamp < y.stamp), tt)
rising_push (y ∷ ys) x r before =
    let first = All-head (λ y. y.stamp < x.stamp) y ys before in (
      All-push (λ z. y.stamp < z.stamp) ys x r.0 first,
      rising_push ys x r.1
          (All-tail (λ y. y.stamp < x.stamp) y ys before),
    )
