-- The links hold the list after a change.
use Rattle.std.proofs.Common.{◌≡◌, ℕ, ◌+◌, ◌-◌, ◌<◌, Bool, true, false, not, cond, eqb, List, [], ◌∷◌, ◌++◌, length}
use Rattle.std.proofs.Common.{get_or, set, Option, Some, None, refl, sym, ap, ◌∙◌, inl, inr, arith, length-append}
use Rattle.std.proofs.Common.{is_some}
use Rattle.std.specs.List.{All}
use Rattle.std.proofs.lemmas.Bool.{cases_Bool, cases_lt, eqb-true, eqb-false, eq-eqb, ne_eqb, false≢true}
use Rattle.std.proofs.lemmas.List.{get_or-set_same, get_or-set_other, get_or_past, append-nil, map-append, length-set}
use Rattle.std.proofs.lemmas.List.Elements.{All-push, All-filter, All-head, All-tail}
use Rattle.po_queues.proofs.KeyLemmas.{last_free, last_push, tail_free, head_without, last_without, length_without}
use Rattle.po_queues.proofs.KeyLemmas.{without_free, other_way, free_same}
use Rattle.po_queues.proofs.ItemLemmas.{link_at_end, keys_free, keys_distinct, keys_push, keys_without, link_new, link_push}
use Rattle.po_queues.proofs.ItemLemmas.{link_without, link_gone, item_has, other_entry, both_none}
use Rattle.po_queues.specs.QueuedKeys.{QueuedKey, queue_of, keys_of, keys_on, first_of, item_of, without_key, occurs}
use Rattle.po_queues.specs.QueuedKeys.{first_key, last_key_or, key_after, key_before_or, without, AreDistinct}
use Rattle.po_queues.specs.QueuedKeys.{is_this, is_missing}
use Rattle.po_queues.specs.Links.{HoldsQueues, link_with, link_of_item, link_of, put_after, put_before, write_after}
use Rattle.po_queues.specs.Links.{write_before}
use Rattle.po_queues.specs.declared.link.Link.{Link}

-- what is read once f has changed one link
write_at : (f : Option Link → Option Link) → f None ≡ None → (links : List (Option Link)) (i k : ℕ)
    → get_or (set links i (f (get_or links i None))) k None ≡ cond (eqb i k) (f (get_or links k None))
    (get_or links k None)
write_at f none links i k = elim (cases_Bool (eqb i k)) [
  | inl equal ↦ let e = eqb-true i k equal in elim (cases_lt i (length links)) [
    | inl lt ↦ simp equal (rw (← e) (get_or-set_same links i (f (get_or links i None)) None lt))
    | inr ge ↦ simp equal (rw (← e)
        (get_or_past (set links i (f (get_or links i None))) i None
        (omega (arith, length-set links i (f (get_or links i None)))) ∙ sym none
        ∙ ap f (sym (get_or_past links i None ge))))
  ]
  | inr differ ↦ simp differ (get_or-set_other links i k (f (get_or links i None)) None
      (λ e. eqb-false i k differ (sym e)))
]

-- what is read once one link got another key after it
pub after_written : (links : List (Option Link)) (p a : Option ℕ) (k : ℕ)
    → get_or (write_after links p a) k None ≡ cond (is_this p k) (put_after a (get_or links k None))
    (get_or links k None)
after_written links None a k = refl
after_written links (Some i) a k = write_at (put_after a) refl links i k

-- what is read once one link got another key before it
pub before_written : (links : List (Option Link)) (p b : Option ℕ) (k : ℕ)
    → get_or (write_before links p b) k None ≡ cond (is_this p k) (put_before b (get_or links k None))
    (get_or links k None)
before_written links None b k = refl
before_written links (Some i) b k = write_at (put_before b) refl links i k

-- keys stay distinct with a new one at the end
pub distinct_push : (ks : List ℕ) (k : ℕ) → AreDistinct ks → occurs k ks ≡ false → AreDistinct (ks ++ k ∷ [])
distinct_push [] k d free = (refl, tt)
distinct_push (x ∷ xs) k d free = let t = tail_free k x xs free in
    (still_free xs x k d.0 (ne_eqb k x (λ e. eqb-false x k t.0 (sym e))), distinct_push xs k d.1 t.1)
  where
    still_free : (xs : List ℕ) (x k : ℕ) → occurs x xs ≡ false → eqb k x ≡ false → occurs x (xs ++ k ∷ []) ≡ false
    still_free [] x k free differ = simp differ refl
    still_free (y ∷ ys) x k free differ = let t = tail_free x y ys free in simp t.0 (still_free ys x k t.1 differ)

-- the keys of the entry to which an item is added
pub keys_same : (e : ℕ) (items : List QueuedKey) (x : QueuedKey) → eqb x.entry e ≡ true
    → keys_on e (items ++ x ∷ []) ≡ keys_on e items ++ x.key ∷ []
keys_same e items x on_entry = keys_push e items x ∙ ap (λ (b : Bool). keys_on e items ++ cond b (x.key ∷ []) [])
    on_entry

-- the keys of another entry
pub keys_other : (e : ℕ) (items : List QueuedKey) (x : QueuedKey) → eqb x.entry e ≡ false
    → keys_on e (items ++ x ∷ []) ≡ keys_on e items
keys_other e items x elsewhere = keys_push e items x
    ∙ ap (λ (b : Bool). keys_on e items ++ cond b (x.key ∷ []) []) elsewhere ∙ append-nil _

-- a field by entry, once written at one entry
field_push : {A : Type 0} (f : List ℕ → A) (field new : List A) (d v : A) (total : ℕ) (items : List QueuedKey)
    (x : QueuedKey)
    → ((e : ℕ) → e < total → get_or field e d ≡ f (keys_on e items))
    → (get_or new x.entry d ≡ f (keys_on x.entry items ++ x.key ∷ []))
    → ((e : ℕ) → eqb x.entry e ≡ false → get_or new e d ≡ get_or field e d) → (e : ℕ) → e < total
    → get_or new e d ≡ f (keys_on e (items ++ x ∷ []))
field_push f field new d v total items x was here there e lt = elim (cases_Bool (eqb x.entry e)) [
  | inl on_entry ↦ let q = eqb-true x.entry e on_entry in rw (keys_same e items x on_entry) (rw q at here)
  | inr elsewhere ↦ there e elsewhere ∙ was e lt ∙ sym (ap f (keys_other e items x elsewhere))
]

-- after a first key there is a last one
last_some : (y : ℕ) (ys : List ℕ) → is_missing (last_key_or (Some y) ys) ≡ false
last_some y [] = refl
last_some y (z ∷ zs) = last_some z zs

-- the first key of the entry to which a key is added
first_here : (ks : List ℕ) (key : ℕ) (firsts : List (Option ℕ)) (i : ℕ) → i < length firsts
    → get_or firsts i None ≡ first_key ks
    → get_or (cond (is_missing (last_key_or None ks)) (set firsts i (Some key)) firsts) i None ≡ first_key
    (ks ++ key ∷ [])
first_here [] key firsts i lt was = get_or-set_same firsts i (Some key) None lt
first_here (y ∷ ys) key firsts i lt was = simp (last_some y ys) was

-- the first key of another entry
first_there : (o : Option ℕ) (key : ℕ) (firsts : List (Option ℕ)) (i e : ℕ) → (e ≡ i → ⊥)
    → get_or (cond (is_missing o) (set firsts i (Some key)) firsts) e None ≡ get_or firsts e None
first_there None key firsts i e ne = get_or-set_other firsts i e (Some key) None ne
first_there (Some y) key firsts i e ne = refl

-- the end of the entry from which a key is taken out
end_here : (ends : List (Option ℕ)) (i j : ℕ) (other was now : Option ℕ) → i < length ends
    → get_or ends i None ≡ was → now ≡ cond (is_this was j) other was
    → get_or (cond (is_this was j) (set ends i other) ends) i None ≡ now
end_here ends i j other was now lt e is = elim (cases_Bool (is_this was j)) [
  | inl t ↦ simp t (get_or-set_same ends i other None lt ∙ sym (simp t at is))
  | inr f ↦ simp f (e ∙ sym (simp f at is))
]

-- the end of another entry
end_there : (b : Bool) (ends : List (Option ℕ)) (i e : ℕ) (other : Option ℕ) → (e ≡ i → ⊥)
    → get_or (cond b (set ends i other) ends) e None ≡ get_or ends e None
end_there true ends i e other ne = get_or-set_other ends i e other None ne
end_there false ends i e other ne = refl

-- the keys without one
pub keys_of-without : (j : ℕ) (items : List QueuedKey) → keys_of (without_key j items) ≡ without j (keys_of items)
keys_of-without j [] = refl
keys_of-without j (x ∷ xs) = elim (cases_Bool (eqb x.key j)) [
  | inl equal ↦ simp equal (keys_of-without j xs)
  | inr differ ↦ simp differ (ap (λ l. x.key ∷ l) (keys_of-without j xs))
]

-- a key that isn't among keys isn't among them without another
occurs_without : (j k : ℕ) (ks : List ℕ) → occurs k ks ≡ false → occurs k (without j ks) ≡ false
occurs_without j k [] free = refl
occurs_without j k (x ∷ xs) free =
    let t = tail_free k x xs free in
    elim (cases_Bool (eqb x j)) [
      | inl equal ↦ simp equal (occurs_without j k xs t.1)
      | inr differ ↦ simp (differ, t.0) (occurs_without j k xs t.1)
    ]

-- distinct keys stay distinct without one
pub distinct_without : (j : ℕ) (ks : List ℕ) → AreDistinct ks → AreDistinct (without j ks)
distinct_without j [] d = d
distinct_without j (x ∷ xs) d = elim (cases_Bool (eqb x j)) [
  | inl equal ↦ simp equal (distinct_without j xs d.1)
  | inr differ ↦ simp differ (occurs_without j x xs d.0, distinct_without j xs d.1)
]

-- a key with no item isn't queued
item_none : (k : ℕ) (items : List QueuedKey) → item_of k items ≡ None → occurs k (keys_of items) ≡ false
item_none k [] none = refl
item_none k (x ∷ xs) none = elim (cases_Bool (eqb x.key k)) [
  | inl equal ↦ let e : Some x ≡ None = simp equal at none in absurd (cc)
  | inr differ ↦ simp differ (item_none k xs (simp differ at none))
]

-- taking out a key that isn't queued changes nothing
pub without_none : (j : ℕ) (items : List QueuedKey) → occurs j (keys_of items) ≡ false → without_key j items ≡ items
without_none j [] free = refl
without_none j (x ∷ xs) free = let t = tail_free j x.key (keys_of xs) free in simp t.0
    (ap (λ l. x ∷ l) (without_none j xs t.1))

-- a key without a link isn't queued
pub no_link : (k : ℕ) (items : List QueuedKey) → link_of items k ≡ None
    → (occurs k (keys_of items) ≡ false) × (without_key k items ≡ items)
no_link k items none = go (item_of k items) refl
  where
    go : (o : Option QueuedKey) → item_of k items ≡ o
        → (occurs k (keys_of items) ≡ false) × (without_key k items ≡ items)
    go None e = let free = item_none k items e in (free, without_none k items free)
    go (Some x) e = let bad : Some (link_with (keys_on x.entry items) x) ≡ None = sym (ap (link_of_item items) e)
        ∙ none in absurd (cc)

-- a link is the link of an item
pub some_link : (k : ℕ) (items : List QueuedKey) (l : Link) → link_of items k ≡ Some l
    → (x : QueuedKey) × (item_of k items ≡ Some x) × (l ≡ link_with (keys_on x.entry items) x)
some_link k items l some = go (item_of k items) refl
  where
    go : (o : Option QueuedKey) → item_of k items ≡ o
        → (x : QueuedKey) × (item_of k items ≡ Some x) × (l ≡ link_with (keys_on x.entry items) x)
    go None e = let bad : None ≡ Some l = sym (ap (link_of_item items) e) ∙ some in absurd (cc)
    go (Some x) e = let q : Some (link_with (keys_on x.entry items) x) ≡ Some l = sym (ap (link_of_item items) e)
        ∙ some in let r : l ≡ link_with (keys_on x.entry items) x = cc in (x, e, r)

module _ (total : ℕ) (links : List (Option Link)) (firsts lasts : List (Option ℕ)) (counts : List ℕ)
    (items : List QueuedKey) (h : HoldsQueues total links firsts lasts counts items) where
  -- a key is queued at the end
  pub push_holds : (x : QueuedKey) → x.entry < total → x.entry < length firsts → x.entry < length lasts
      → x.entry < length counts → x.key < length links → occurs x.key (keys_of items) ≡ false
      → (first : List (Option ℕ))
      → first ≡ cond (is_missing (get_or lasts x.entry None)) (set firsts x.entry (Some x.key)) firsts
      → HoldsQueues total
      (write_after (set links x.key (Some (link_at_end x (get_or lasts x.entry None)))) (get_or lasts x.entry None)
      (Some x.key)) first (set lasts x.entry (Some x.key)) (set counts x.entry (get_or counts x.entry 0 + 1))
      (items ++ x ∷ [])
  push_holds x entry in_firsts in_lasts in_counts key free first first_is =
      let last = get_or lasts x.entry None in
      let was : last ≡ last_key_or None (keys_on x.entry items) = h.last x.entry entry in
      let new = Some (link_at_end x last) in
      record {
        linked = λ k. after_written (set links x.key new) last (Some x.key) k ∙ elim (cases_Bool (eqb x.key k)) [
          | inl equal ↦
              let q = eqb-true x.key k equal in
              let off : is_this last x.key ≡ false = rw was
              (last_free None x.key (keys_on x.entry items) refl (keys_free x.entry x.key items free)) in
              rw (← q) (simp off (get_or-set_same links x.key new None key
              ∙ ap (λ b. Some (link_at_end x b)) was
              ∙ sym (link_new items x free)))
          | inr differ ↦
              let ne = get_or-set_other links x.key k new None (λ q. eqb-false x.key k differ (sym q)) in
              rw (ne, h.linked k, was) (sym (link_push items x k h.distinct differ))
        ];
        first = field_push first_key firsts first None None total items x h.first
            (rw (first_is, was) (first_here (keys_on x.entry items) x.key firsts x.entry in_firsts
            (h.first x.entry entry)))
            (λ e elsewhere. rw first_is (first_there (get_or lasts x.entry None) x.key firsts x.entry e
            (λ q. eqb-false x.entry e elsewhere (sym q))));
        last = field_push (last_key_or None) lasts (set lasts x.entry (Some x.key)) None None total items x h.last
            (get_or-set_same lasts x.entry (Some x.key) None in_lasts
            ∙ sym (last_push None x.key (keys_on x.entry items)))
            (λ e elsewhere. get_or-set_other lasts x.entry e (Some x.key) None
            (λ q. eqb-false x.entry e elsewhere (sym q)));
        count = field_push length counts (set counts x.entry (get_or counts x.entry 0 + 1)) 0 0 total items x h.count
            (get_or-set_same counts x.entry (get_or counts x.entry 0 + 1) 0 in_counts
            ∙ omega (arith, h.count x.entry entry, length-append (keys_on x.entry items) (x.key ∷ [])))
            (λ e elsewhere. get_or-set_other counts x.entry e (get_or counts x.entry 0 + 1) 0
            (λ q. eqb-false x.entry e elsewhere (sym q)));
        distinct = rw map-append (distinct_push (keys_of items) x.key h.distinct free);
        entries = All-push (λ y. y.entry < total) items x h.entries entry;
      }

  -- a key is taken out
  pub remove_holds : (j : ℕ) (y : QueuedKey) → item_of j items ≡ Some y → y.entry < total → y.entry < length firsts
      → y.entry < length lasts → y.entry < length counts → j < length links
      → (let ks = keys_on y.entry items in let p = key_before_or None j ks in let n = key_after j ks in HoldsQueues
      total (write_before (write_after (set links j None) p n) n p)
      (cond (is_this (get_or firsts y.entry None) j) (set firsts y.entry n) firsts)
      (cond (is_this (get_or lasts y.entry None) j) (set lasts y.entry p) lasts)
      (set counts y.entry (get_or counts y.entry 0 - 1)) (without_key j items))
  remove_holds j y found entry in_firsts in_lasts in_counts key =
      let ks = keys_on y.entry items in
      let p = key_before_or None j ks in
      let n = key_after j ks in
      let distinct_k = keys_distinct y.entry items h.distinct in
      let has = item_has j items y found in
      record {
        linked = λ k. before_written (write_after (set links j None) p n) n p k
            ∙ rw (after_written (set links j None) p n k) (elim (cases_Bool (eqb j k)) [
              | inl equal ↦
                  let q = eqb-true j k equal in
                  rw (← q) (rw (get_or-set_same links j None None key) (sym (both_none (is_this p j) (is_this n j) p n))
                  ∙ sym (link_gone j items))
              | inr differ_j ↦
                  let ne = get_or-set_other links j k None None (λ q. eqb-false j k differ_j (sym q)) in
                  rw (ne, h.linked k) (sym (link_without items y j k h.distinct (other_way j k differ_j) found))
            ]);
        first = λ e lt. field_less first_key firsts
            (cond (is_this (get_or firsts y.entry None) j) (set firsts y.entry n) firsts) None total j y h.first
            h.distinct found
            (rw (h.first y.entry entry) (end_here firsts y.entry j n (first_key ks) (first_key (without j ks))
            in_firsts (h.first y.entry entry) (head_without j ks distinct_k)))
            (λ e elsewhere. end_there (is_this (get_or firsts y.entry None) j) firsts y.entry e n
            (λ q. eqb-false y.entry e elsewhere (sym q))) e lt;
        last = λ e lt. field_less (last_key_or None) lasts
            (cond (is_this (get_or lasts y.entry None) j) (set lasts y.entry p) lasts) None total j y h.last
            h.distinct found
            (rw (h.last y.entry entry) (end_here lasts y.entry j p (last_key_or None ks)
            (last_key_or None (without j ks)) in_lasts (h.last y.entry entry)
            (last_without None j ks distinct_k refl)))
            (λ e elsewhere. end_there (is_this (get_or lasts y.entry None) j) lasts y.entry e p
            (λ q. eqb-false y.entry e elsewhere (sym q))) e lt;
        count = λ e lt. field_less length counts (set counts y.entry (get_or counts y.entry 0 - 1)) 0 total j y
            h.count h.distinct found
            (get_or-set_same counts y.entry (get_or counts y.entry 0 - 1) 0 in_counts
            ∙ omega (arith, h.count y.entry entry, length_without j ks distinct_k has.1))
            (λ e elsewhere. get_or-set_other counts y.entry e (get_or counts y.entry 0 - 1) 0
            (λ q. eqb-false y.entry e elsewhere (sym q))) e lt;
        distinct = rw (keys_of-without j items) (distinct_without j (keys_of items) h.distinct);
        entries = All-filter (λ x. not (eqb x.key j)) (λ x. x.entry < total) items h.entries;
      }
    where
      field_less : {A : Type 0} (f : List ℕ → A) (field new : List A) (d : A) (total : ℕ) (j : ℕ) (y : QueuedKey)
          → ((e : ℕ) → e < total → get_or field e d ≡ f (keys_on e items)) → AreDistinct (keys_of items)
          → item_of j items ≡ Some y → (get_or new y.entry d ≡ f (without j (keys_on y.entry items)))
          → ((e : ℕ) → eqb y.entry e ≡ false → get_or new e d ≡ get_or field e d) → (e : ℕ) → e < total
          → get_or new e d ≡ f (keys_on e (without_key j items))
      field_less f field new d total j y was dis found here there e lt = elim (cases_Bool (eqb y.entry e)) [
        | inl on_entry ↦ let q = eqb-true y.entry e on_entry in rw (keys_without e j items) (rw q at here)
        | inr elsewhere ↦ there e elsewhere ∙ was e lt ∙ ap f
            (sym (keys_without e j items ∙ without_free j (keys_on e items)
            (other_entry j e items y dis found elsewhere)))
      ]

-- an item that is found is on an entry that exists
pub item_entry : (k total : ℕ) (items : List QueuedKey) (x : QueuedKey) → item_of k items ≡ Some x
    → All (λ x. x.entry < total) items → x.entry < total
item_entry k total [] x found all = absurd (cc)
item_entry k total (y ∷ ys) x found all = elim (cases_Bool (eqb y.key k)) [
  | inl equal ↦
      let q : Some y ≡ Some x = simp equal at found in
      let same : y ≡ x = cc in
      rw same at (All-head (λ x. x.entry < total) y ys all)
  | inr differ ↦ item_entry k total ys x (simp differ at found) (All-tail (λ x. x.entry < total) y ys all)
]

-- a key is taken out, given the link that the code reads
pub removed : (total : ℕ) (links : List (Option Link)) (firsts lasts : List (Option ℕ)) (counts : List ℕ)
    (items : List QueuedKey)
    → HoldsQueues total links firsts lasts counts items → (j : ℕ) (l : Link) → get_or links j None ≡ Some l
    → total ≡ length counts → length firsts ≡ length counts → length lasts ≡ length counts
    → (l.entry < total) × (j < length links) × (occurs j (keys_of items) ≡ true) × HoldsQueues total
    (write_before (write_after (set links j None) l.before l.after) l.after l.before)
    (cond (is_this (get_or firsts l.entry None) j) (set firsts l.entry l.after) firsts)
    (cond (is_this (get_or lasts l.entry None) j) (set lasts l.entry l.before) lasts)
    (set counts l.entry (get_or counts l.entry 0 - 1)) (without_key j items)
removed total links firsts lasts counts items h j l read counts_are firsts_are lasts_are =
    let w = some_link j items l (sym (h.linked j) ∙ read) in
    let y = w.0 in
    let has = item_has j items y w.1 in
    let entry = item_entry j total items y w.1 h.entries in
    let key : j < length links = elim (cases_lt j (length links))
    [ inl lt ↦ lt | inr ge ↦ let bad : None ≡ Some l = sym (get_or_past links j None ge) ∙ read in absurd (cc) ]
    in
    rw (w.2, has.0) (
      entry,
      key,
      has.2,
      remove_holds total links firsts lasts counts items h j y w.1 entry
          (omega arith) (omega arith) (omega arith) key,
    )

-- the first key of an entry is queued, with the stamp of the first queued item
pub first_some : (e k : ℕ) (items : List QueuedKey) → AreDistinct (keys_of items)
    → first_key (keys_on e items) ≡ Some k
    → (x : QueuedKey) × (first_of (queue_of e items) ≡ Some (k, x.stamp)) × (item_of k items ≡ Some x) ×
    (occurs k (keys_of items) ≡ true)
first_some e k [] d some = let bad : None ≡ Some k = some in absurd (cc)
first_some e k (x ∷ xs) d some = elim (cases_Bool (eqb x.entry e)) [
  | inl on_entry ↦
      let q : Some x.key ≡ Some k = simp on_entry at some in
      let same : x.key ≡ k = cc in
      let this = eq-eqb x.key k same in
      (x, simp on_entry (ap (λ k. Some (k, x.stamp)) same), simp this refl, simp this refl)
  | inr elsewhere ↦
      let later = first_some e k xs d.1 (simp elsewhere at some) in
      let apart : eqb x.key k ≡ false = elim (cases_Bool (eqb x.key k)) [
        | inl equal ↦ absurd (false≢true (sym (free_same x.key k (keys_of xs) equal d.0) ∙ later.3))
        | inr differ ↦
            differ
      ] in
      (later.0, simp elsewhere later.1, simp apart later.2, simp apart later.3)
]

-- a key has a link exactly if it is queued
pub linked_where_queued : (k : ℕ) (items : List QueuedKey) (o : Option Link) → o ≡ link_of items k
    → is_some o ≡ occurs k (keys_of items)
linked_where_queued k items None is = sym (no_link k items (sym is)).0
linked_where_queued k items (Some l) is =
    let found = some_link k items l (sym is) in
    sym (item_has k items found.0 found.1).2
