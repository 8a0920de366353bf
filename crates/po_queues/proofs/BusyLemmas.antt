-- The bits of entries: writing one, finding the next set one, and what they say about the queues.
use Rattle.std.proofs.Common.{◌≡◌, ◌≢◌, ℕ, suc, ◌+◌, ◌-◌, ◌*◌, ◌/◌, ◌%◌, ◌^◌, ◌<◌, ◌≤◌, min, Bool, true, false, eqb, ltb}
use Rattle.std.proofs.Common.{List, [], ◌∷◌, ◌++◌, length, get_or, set, replicate, Some, refl, sym, ap, ◌∙◌, inl, inr}
use Rattle.std.proofs.Common.{arith}
use Rattle.std.specs.Int.{bit_at, w64, trailing_zeros}
use Rattle.std.specs.List.{All}
use lib.Bits.{bit_and}
use Rattle.std.proofs.lemmas.Bool.{cases_Bool, cases_eq, cases_lt, eqb-true, eqb-false, false≢true, lt-ltb}
use Rattle.std.proofs.lemmas.Bool.{ltb-true, ltb-false}
use Rattle.std.proofs.lemmas.List.{get_or-set_same, get_or-set_other, get_or_past, get_or-replicate, length-replicate}
use Rattle.std.proofs.lemmas.List.Elements.{All-head, All-tail}
use Rattle.std.proofs.lemmas.Nat.Bits.{bit_at-zero, bit_at_and, bit_at_mask_inside, bit_at_mask_below}
use Rattle.std.proofs.lemmas.Nat.Bits.{bit_at-trailing_zeros, bit_at-lt}
use Rattle.po_queues.specs.QueuedKeys.{QueuedKey, QueuesView, queue_of, keys_of, keys_on, item_of, without_key}
use Rattle.po_queues.specs.QueuedKeys.{AreDistinct}
use Rattle.po_queues.specs.Busy.{IsNextBusy, bit_of, bit_when, IsNextBit, SumsUp, has_keys, MarksBusy}
use Rattle.po_queues.proofs.ItemLemmas.{keys_without, other_entry}
use Rattle.po_queues.proofs.KeyLemmas.{without_free}
use Rattle.po_queues.proofs.HoldLemmas.{keys_same, keys_other}

-- the bit of the entry whose word is written
pub bit_of-set_same : (words : List ℕ) (e index v : ℕ) → index ≡ e / 64 → index < length words
    → bit_of (set words index v) e ≡ bit_at v (e % 64)
bit_of-set_same words e index v here lt = rw (← here) (ap (λ w. bit_at w (e % 64)) (get_or-set_same words index v 0 lt))

-- the bit of another entry, if the word keeps its other bits
pub bit_of-set_other : (words : List ℕ) (e f index v : ℕ) → index ≡ e / 64 → index < length words → f ≢ e
    → ((i : ℕ) → i < 64 → i ≢ e % 64 → bit_at v i ≡ bit_at (get_or words index 0) i)
    → bit_of (set words index v) f ≡ bit_of words f
bit_of-set_other words e f index v here lt ne keeps = elim (cases_eq (f / 64) index) [
  | inl same ↦
      let apart : f % 64 ≢ e % 64 = λ q. ne (omega (arith, q, same, here)) in
      rw same (ap (λ w. bit_at w (f % 64)) (get_or-set_same words index v 0 lt) ∙ keeps (f % 64) (omega arith) apart)
  | inr other ↦ ap (λ w. bit_at w (f % 64)) (get_or-set_other words index (f / 64) v 0 other)
]

-- the bit of an entry whose word is past the end is 0
pub bit_of-past : (words : List ℕ) (e : ℕ) → length words ≤ e / 64 → bit_of words e ≡ 0
bit_of-past words e past = rw (get_or_past words (e / 64) 0 past) (bit_at-zero (e % 64))

-- no bit is set in words that are 0
pub bit_of-zeros : (n e : ℕ) → bit_of (replicate n 0) e ≡ 0
bit_of-zeros n e = elim (cases_lt (e / 64) n) [
  | inl lt ↦ rw (get_or-replicate {A = ℕ} n (e / 64) 0 0 lt) (bit_at-zero (e % 64))
  | inr ge ↦ bit_of-past (replicate n 0) e (omega (arith, length-replicate {A = ℕ} n 0, ge))
]

-- the bit of an entry by its word and its bit there
bit_of-at : (words : List ℕ) (index i e : ℕ) → e ≡ 64 * index + i → i < 64
    → bit_of words e ≡ bit_at (get_or words index 0) i
bit_of-at words index i e e_is low =
    let whole : e / 64 ≡ index = omega (arith, e_is, low) in
    let rest : e % 64 ≡ i = omega (arith, e_is, low) in
    rw (whole, rest) refl

-- the bits that a mask leaves
masked : (word mask h k i : ℕ) → mask ≡ 2 ^ h - 2 ^ k → k ≤ i → i < h → bit_at (bit_and word mask) i ≡ bit_at word i
masked word mask h k i mask_is low high =
    let ones = bit_at_mask_inside k h i low high in
    let small = bit_at-lt word i in
    let least : min (bit_at word i) 1 ≡ bit_at word i = omega (arith, small) in
    rw mask_is (bit_at_and word (2 ^ h - 2 ^ k) i ∙ ap (min (bit_at word i)) ones ∙ least)

-- the bits that a mask clears
masked_below : (word mask h k i : ℕ) → mask ≡ 2 ^ h - 2 ^ k → i < k → bit_at (bit_and word mask) i ≡ 0
masked_below word mask h k i mask_is low =
    let zeros = bit_at_mask_below k h i low in
    let least : min (bit_at word i) 0 ≡ 0 = omega arith in
    rw mask_is (bit_at_and word (2 ^ h - 2 ^ k) i ∙ ap (min (bit_at word i)) zeros ∙ least)

-- the next bit is the lowest one that the mask leaves, in the first word in which it leaves one
pub next_bit_found : (words : List ℕ) (from index mask word e : ℕ) → from < 64 * index + 64
    → mask ≡ 2 ^ 64 - 2 ^ (from - 64 * index) → word ≡ bit_and (get_or words index 0) mask → word < 2 ^ 64 → 0 < word
    → ((e : ℕ) → from ≤ e → e < 64 * index → bit_of words e ≡ 0) → e ≡ 64 * index + trailing_zeros w64 word
    → IsNextBit words from e
next_bit_found words from index mask word e near mask_is word_is fits some before e_is =
    let lowest = bit_at-trailing_zeros w64 word some fits in
    let t = trailing_zeros w64 word in
    let here : from - 64 * index ≤ t = elim (cases_lt t (from - 64 * index)) [
      | inl low ↦ absurd (omega (
        arith,
        lowest.1,
        ap (λ w. bit_at w t) word_is,
        masked_below (get_or words index 0)
            mask 64 (from - 64 * index) t mask_is low,
      ))
      | inr high ↦ high
    ] in
    record {
      from_here = omega (arith, here, e_is);
      is_set = bit_of-at words index t e e_is lowest.0 ∙
          sym (masked (get_or words index 0) mask 64 (from - 64 * index) t mask_is here lowest.0)
          ∙ ap (λ w. bit_at w t) (sym word_is) ∙ lowest.1;
      clear_before = λ f after below. elim (cases_lt f (64 * index)) [
        | inl early ↦ before f after early
        | inr late ↦
            let low : f - 64 * index < t = omega (arith, late, below, e_is) in
            let high : from - 64 * index ≤ f - 64 * index = omega (arith, late, after) in
            let width : f - 64 * index < 64 = omega (arith, low, lowest.0) in
            bit_of-at words index (f - 64 * index) f (omega (arith, late)) width
            ∙ sym (masked (get_or words index 0) mask 64 (from - 64 * index) (f - 64 * index) mask_is high width)
            ∙ ap (λ w. bit_at w (f - 64 * index)) (sym word_is) ∙ lowest.2 (f - 64 * index) low
      ];
    }

-- if the mask leaves no bit, no bit of the word is the next one
pub no_bit_here : (words : List ℕ) (from index mask word : ℕ) → from < 64 * index + 64
    → mask ≡ 2 ^ 64 - 2 ^ (from - 64 * index) → word ≡ bit_and (get_or words index 0) mask → word ≡ 0
    → ((e : ℕ) → from ≤ e → e < 64 * index → bit_of words e ≡ 0) → (e : ℕ) → from ≤ e → e < 64 * (index + 1)
    → bit_of words e ≡ 0
no_bit_here words from index mask word near mask_is word_is none before e here below = elim (cases_lt e (64 * index)) [
  | inl early ↦ before e here early
  | inr late ↦
      let high : from - 64 * index ≤ e - 64 * index = omega (arith, late, here) in
      let width : e - 64 * index < 64 = omega (arith, late, below) in
      bit_of-at words index (e - 64 * index) e (omega (arith, late)) width
      ∙ sym (masked (get_or words index 0) mask 64 (from - 64 * index) (e - 64 * index) mask_is high width)
      ∙ ap (λ w. bit_at w (e - 64 * index)) (sym word_is ∙ none) ∙ bit_at-zero (e - 64 * index)
]

-- if the mask of all bits leaves none of a word, the word is 0
pub no_bit_at_all : (word mask : ℕ) → mask ≡ 2 ^ 64 - 2 ^ 0 → word < 2 ^ 64 → bit_and word mask ≡ 0 → word ≡ 0
no_bit_at_all word mask mask_is fits none = elim (cases_lt 0 word) [
  | inl some ↦
      let lowest = bit_at-trailing_zeros w64 word some fits in
      let t = trailing_zeros w64 word in
      absurd (omega (
        arith,
        lowest.1,
        masked word mask 64 0 t mask_is (omega arith) lowest.0,
        ap (λ w. bit_at w t) none,
        bit_at-zero t,
      ))
  | inr none_is ↦ omega (arith, none_is)
]

-- there are keys exactly if their number isn't 0
has_keys-length : (ks : List ℕ) → ltb 0 (length ks) ≡ has_keys ks
has_keys-length [] = refl
has_keys-length (k ∷ ks) = lt-ltb 0 (length (k ∷ ks)) (omega arith)

-- once a key is added, there is a key
has_keys-push : (ks : List ℕ) (k : ℕ) → has_keys (ks ++ k ∷ []) ≡ true
has_keys-push [] k = refl
has_keys-push (x ∷ xs) k = refl

-- one entry's bit is written, and no other
pub record WritesBit (words words' : List ℕ) (entry bit : ℕ) : Type 0 where
  pub same : bit_of words' entry ≡ bit
  pub others : (e : ℕ) → e ≢ entry → bit_of words' e ≡ bit_of words e
  pub len : length words' ≡ length words

-- the bits once a key is queued
pub marks_push : (total : ℕ) (words words' : List ℕ) (items : List QueuedKey) (x : QueuedKey)
    → MarksBusy total words items → WritesBit words words' x.entry 1 → MarksBusy total words' (items ++ x ∷ [])
marks_push total words words' items x m w = record {
  marks = λ e. elim (cases_Bool (eqb x.entry e)) [
    | inl on_entry ↦ rw (
      keys_same e items x on_entry,
      has_keys-push (keys_on e items) x.key,
      ← eqb-true x.entry e
          on_entry,
    ) w.same
    | inr elsewhere ↦ rw (keys_other e items x elsewhere)
        (w.others e (λ q. eqb-false x.entry e elsewhere (sym q)) ∙ m.marks e)
  ];
  enough = omega (arith, m.enough, w.len);
  few = omega (arith, m.few, w.len);
}

-- the bits once a key is taken out
pub marks_without : (total : ℕ) (words words' : List ℕ) (items : List QueuedKey) (j : ℕ) (y : QueuedKey) (n : ℕ)
    → MarksBusy total words items → AreDistinct (keys_of items) → item_of j items ≡ Some y
    → n ≡ length (keys_on y.entry (without_key j items)) → WritesBit words words' y.entry (bit_when (ltb 0 n))
    → MarksBusy total words' (without_key j items)
marks_without total words words' items j y n m d found n_is w = record {
  marks = λ e. elim (cases_Bool (eqb y.entry e)) [
    | inl on_entry ↦ rw (← eqb-true y.entry e on_entry)
        (w.same ∙ ap bit_when (ap (ltb 0) n_is ∙ has_keys-length (keys_on y.entry (without_key j items))))
    | inr elsewhere ↦ w.others e (λ q. eqb-false y.entry e elsewhere (sym q)) ∙ m.marks e
        ∙ ap (λ ks. bit_when (has_keys ks))
        (sym (keys_without e j items ∙ without_free j (keys_on e items) (other_entry j e items y d found elsewhere)))
  ];
  enough = omega (arith, m.enough, w.len);
  few = omega (arith, m.few, w.len);
}

-- an entry with a queued key exists
has_keys-within : (total e : ℕ) (items : List QueuedKey) → All (λ x. x.entry < total) items
    → has_keys (keys_on e items) ≡ true → e < total
has_keys-within total e [] all has = absurd (false≢true has)
has_keys-within total e (x ∷ xs) all has = elim (cases_Bool (eqb x.entry e)) [
  | inl on_entry ↦ rw (eqb-true x.entry e on_entry) at (All-head (λ x. x.entry < total) x xs all)
  | inr elsewhere ↦ has_keys-within total e xs (All-tail (λ x. x.entry < total) x xs all) (simp elsewhere at has)
]

-- a queue with a key is not empty
some_queue : (xs : List QueuedKey) → has_keys (keys_of xs) ≡ true → 0 < length xs
some_queue [] has = absurd (false≢true has)
some_queue (x ∷ xs) has = omega arith

-- a queue with no key is empty
no_queue : (xs : List QueuedKey) → has_keys (keys_of xs) ≡ false → xs ≡ []
no_queue [] none = refl
no_queue (x ∷ xs) none = absurd (false≢true (sym none))

-- a set bit says yes
set_bit : (b : Bool) → bit_when b ≡ 1 → b ≡ true
set_bit true e = refl
set_bit false e = absurd (omega (arith, e))

-- a cleared bit says no
clear_bit : (b : Bool) → bit_when b ≡ 0 → b ≡ false
clear_bit true e = absurd (omega (arith, e))
clear_bit false e = refl

-- a word with no bit set is 0
clear_word : (words sums : List ℕ) (w : ℕ) → SumsUp words sums → bit_of sums w ≡ 0 → get_or words w 0 ≡ 0
clear_word words sums w s bit = omega (arith, ltb-false 0 (get_or words w 0) (clear_bit _ (sym (s.marks w) ∙ bit)))

-- a word with a bit set isn't 0
pub some_word : (words sums : List ℕ) (w : ℕ) → SumsUp words sums → bit_of sums w ≡ 1 → 0 < get_or words w 0
some_word words sums w s bit = ltb-true 0 (get_or words w 0) (set_bit _ (sym (s.marks w) ∙ bit))

-- if a word has no set bit from here on, and the words after it have none, none is set
clear_between : (words sums : List ℕ) (from w : ℕ) → SumsUp words sums
    → ((e : ℕ) → from ≤ e → e / 64 ≡ from / 64 → bit_of words e ≡ 0)
    → ((v : ℕ) → from / 64 + 1 ≤ v → v < w → bit_of sums v ≡ 0) → (e : ℕ) → from ≤ e → e / 64 < w
    → bit_of words e ≡ 0
clear_between words sums from w s here between e later below = elim (cases_lt (from / 64) (e / 64)) [
  | inl behind ↦ rw (clear_word words sums (e / 64) s (between (e / 64) (omega (arith, behind)) below))
      (bit_at-zero (e % 64))
  | inr same ↦ here e later (omega (arith, same, later))
]

-- if its own word has no set bit from here on, the next bit is the first of the next word that has one
pub next_bit_behind : (words sums : List ℕ) (from w e : ℕ) → SumsUp words sums
    → ((f : ℕ) → from ≤ f → f / 64 ≡ from / 64 → bit_of words f ≡ 0) → IsNextBit sums (from / 64 + 1) w
    → IsNextBit words (64 * w) e → IsNextBit words from e
next_bit_behind words sums from w e s here next first = record {
  from_here = omega (arith, next.from_here, first.from_here);
  is_set = first.is_set;
  clear_before = λ f later below. elim (cases_lt f (64 * w)) [
    | inl early ↦ clear_between words sums from w s here next.clear_before f later (omega (arith, early))
    | inr late ↦ first.clear_before f late below
  ];
}

-- an entry whose bit is cleared has an empty queue
pub idle_queue : (total : ℕ) (words : List ℕ) (items : List QueuedKey) (e : ℕ) → MarksBusy total words items
    → bit_of words e ≡ 0 → queue_of e items ≡ []
idle_queue total words items e m bit = no_queue (queue_of e items) (clear_bit _ (sym (m.marks e) ∙ bit))

-- the next entry whose bit is set is the next with a queued key
pub next_busy_from_bit : (queues : QueuesView) (words : List ℕ) (from e : ℕ)
    → MarksBusy queues.total words queues.items → All (λ x. x.entry < queues.total) queues.items
    → IsNextBit words from e → IsNextBusy queues from e
next_busy_from_bit queues words from e m all next =
    let has = set_bit _ (sym (m.marks e) ∙ next.is_set) in
    record {
      from_here = next.from_here;
      within = has_keys-within queues.total e queues.items all has;
      busy = some_queue (queue_of e queues.items) has;
      idle_before = λ f here below. idle_queue queues.total words queues.items f m (next.clear_before f here below);
    }

-- the bit of an entry below 64 is in the first word
pub low_bit : (word : ℕ) (words : List ℕ) (e : ℕ) → e < 64 → bit_of (word ∷ words) e ≡ bit_at word e
low_bit word words e low = bit_of-at (word ∷ words) 0 e e (omega arith) low

-- the bit of any other entry is in the words after it
pub high_bit : (word : ℕ) (words : List ℕ) (e : ℕ) → 64 ≤ e → bit_of (word ∷ words) e ≡ bit_of words (e - 64)
high_bit word words e high =
    bit_of-at (word ∷ words) (suc ((e - 64) / 64)) ((e - 64) % 64) e (omega (arith, high)) (omega arith)

-- a bit of the first word is written
pub writes_low : (word word' : ℕ) (words : List ℕ) (entry bit : ℕ) → entry < 64 → bit_at word' entry ≡ bit
    → ((i : ℕ) → i < 64 → i ≢ entry → bit_at word' i ≡ bit_at word i)
    → WritesBit (word ∷ words) (word' ∷ words) entry bit
writes_low word word' words entry bit low same others = record {
  same = low_bit word' words entry low ∙ same;
  others = λ e ne. elim (cases_lt e 64) [
    | inl lt ↦ low_bit word' words e lt ∙ others e lt ne ∙ sym (low_bit word words e lt)
    | inr ge ↦ high_bit word' words e ge ∙ sym (high_bit word words e ge)
  ];
  len = refl;
}

-- a bit of the words after the first is written
pub writes_high : (word : ℕ) (words words' : List ℕ) (entry bit : ℕ) → 64 ≤ entry → bit_of words' (entry - 64) ≡ bit
    → ((e : ℕ) → e ≢ entry - 64 → bit_of words' e ≡ bit_of words e) → length words' ≡ length words
    → WritesBit (word ∷ words) (word ∷ words') entry bit
writes_high word words words' entry bit high same others len = record {
  same = high_bit word words' entry high ∙ same;
  others = λ e ne. elim (cases_lt e 64) [
    | inl lt ↦ low_bit word words' e lt ∙ sym (low_bit word words e lt)
    | inr ge ↦ high_bit word words' e ge ∙ others (e - 64) (λ q. ne (omega (arith, q, ge, high)))
        ∙ sym (high_bit word words e ge)
  ];
  len = omega (arith, len);
}

-- the next bit of the first word is the next of all
pub low_next : (word : ℕ) (words : List ℕ) (from e : ℕ) → e < 64 → IsNextBit (word ∷ []) from e
    → IsNextBit (word ∷ words) from e
low_next word words from e low next = record {
  from_here = next.from_here;
  is_set = low_bit word words e low ∙ sym (low_bit word [] e low) ∙ next.is_set;
  clear_before = λ f here before.
      let lt : f < 64 = omega (arith, before, low) in
      low_bit word words f lt ∙ sym (low_bit word [] f lt) ∙ next.clear_before f here before;
}

-- if the first word has no bit from here on, the next bit is that of the words after it
pub next_after_low : (word : ℕ) (words : List ℕ) (from e : ℕ) → from < 64
    → ((b : ℕ) → from ≤ b → b < 64 → bit_of (word ∷ []) b ≡ 0) → IsNextBit (word ∷ words) 64 e
    → IsNextBit (word ∷ words) from e
next_after_low word words from e low clear next = record {
  from_here = omega (arith, low, next.from_here);
  is_set = next.is_set;
  clear_before = λ f here before. elim (cases_lt f 64) [
    | inl lt ↦ low_bit word words f lt ∙ sym (low_bit word [] f lt) ∙ clear f here lt
    | inr ge ↦ next.clear_before f ge before
  ];
}

-- if neither the first word nor those after it have a bit from here on, there is none
pub none_after_low : (word : ℕ) (words : List ℕ) (from : ℕ)
    → ((b : ℕ) → from ≤ b → b < 64 → bit_of (word ∷ []) b ≡ 0)
    → ((b : ℕ) → 64 ≤ b → bit_of (word ∷ words) b ≡ 0) → (b : ℕ) → from ≤ b → bit_of (word ∷ words) b ≡ 0
none_after_low word words from clear later b here = elim (cases_lt b 64) [
  | inl lt ↦ low_bit word words b lt ∙ sym (low_bit word [] b lt) ∙ clear b here lt
  | inr ge ↦ later b ge
]

-- the next bit of the words after the first, from 64 on
pub high_next : (word : ℕ) (words : List ℕ) (from e : ℕ) → 64 ≤ from → IsNextBit words (from - 64) e
    → IsNextBit (word ∷ words) from (64 + e)
high_next word words from e high next = record {
  from_here = omega (arith, high, next.from_here);
  is_set = high_bit word words (64 + e) (omega arith) ∙ ap (bit_of words) (omega arith) ∙ next.is_set;
  clear_before = λ f here before.
      high_bit word words f (omega (arith, here, high))
      ∙ next.clear_before (f - 64) (omega (arith, here, high)) (omega (arith, before, here, high));
}

-- if the words after the first have no bit from here on, there is none
pub high_none : (word : ℕ) (words : List ℕ) (from : ℕ) → 64 ≤ from
    → ((b : ℕ) → from - 64 ≤ b → bit_of words b ≡ 0) → (b : ℕ) → from ≤ b → bit_of (word ∷ words) b ≡ 0
high_none word words from high none b here =
    high_bit word words b (omega (arith, here, high)) ∙ none (b - 64) (omega (arith, here, high))

-- a set bit is in one of the words
pub bit_within : (words : List ℕ) (e : ℕ) → bit_of words e ≡ 1 → e < 64 * length words
bit_within words e is_set = elim (cases_lt e (64 * length words)) [
  | inl lt ↦ lt
  | inr ge ↦ absurd (omega (arith, is_set, bit_of-past words e (omega (arith, ge))))
]
