-- What is queued, item by item, and the waiting calls that the items belong to.
use Rattle.std.proofs.Common.{◌≡◌, ℕ, ◌+◌, ◌==◌, Bool, true, false, eqb, List, [], ◌∷◌, ◌++◌, length, map, Option, Some, None, refl, sym, ap, ◌∙◌, inl, inr, arith}
use Rattle.std.specs.List.{find}
use Rattle.std.proofs.lemmas.Bool.{cases_Bool, eqb-true, eq-eqb, ne_eqb, false≢true}
use Rattle.po_calls.specs.declared.call.Call.{Call}
use Rattle.po_queues.specs.QueuedKeys.{occurs, first_key, keys_on, without, AreDistinct}
use Rattle.po_queues.specs.Arrived.{Arrived, all_queued, arrived_keys, without_arrived}
use Rattle.po_engine.specs.Finding.{without_first, IsFound}
use Rattle.po_engine.specs.Calls.{waiting_in, of_key, places_without}
use Rattle.po_engine.proofs.Lists.{without_none}

-- A key that isn't among keys isn't the first, nor among the later ones.
pub tail_free : (j x : ℕ) (xs : List ℕ) → occurs j (x ∷ xs) ≡ false → (eqb x j ≡ false) × (occurs j xs ≡ false)
tail_free j x xs free = elim (cases_Bool (eqb x j))
    [ inl equal ↦ absurd (false≢true (sym free ∙ simp equal refl)) | inr differ ↦ (differ, simp differ at free) ]

-- A key among keys that isn't the first is among the later ones.
pub tail_has : (j x : ℕ) (xs : List ℕ) → occurs j (x ∷ xs) ≡ true → eqb x j ≡ false → occurs j xs ≡ true
tail_has j x xs has differ = simp differ at has

-- If two found keys are equal as options, they are the same key.
pub some_same : (j k : ℕ) → Some j ≡ Some k → j ≡ k
some_same j k e = cc

-- If nothing is found, no key is.
pub no_some : (k : ℕ) → None ≡ Some k → ⊥
no_some k e = absurd (cc)

-- What is found meets weaker conditions too.
pub found_more : {X : Type 0} (P Q : X → Type 0) (o : Option X) → ((x : X) → P x → Q x) → IsFound P o → IsFound Q o
found_more P Q None h is = is
found_more P Q (Some x) h is = h x is

-- A key that is taken out is gone.
pub gone_key : (k : ℕ) (ks : List ℕ) → occurs k (without k ks) ≡ false
gone_key k [] = refl
gone_key k (x ∷ xs) = elim (cases_Bool (eqb x k))
    [ inl equal ↦ simp equal (gone_key k xs) | inr differ ↦ simp differ (gone_key k xs) ]

-- If a key is taken out, the others stay.
pub kept_key : (k j : ℕ) (ks : List ℕ) → (k ≡ j → ⊥) → occurs k (without j ks) ≡ occurs k ks
kept_key k j [] ne = refl
kept_key k j (x ∷ xs) ne = elim (cases_Bool (eqb x j)) [
  | inl equal ↦ simp (equal, ne_eqb x k (λ e. ne (sym e ∙ eqb-true x j equal))) (kept_key k j xs ne)
  | inr differ ↦ elim (cases_Bool (eqb x k))
      [ inl here ↦ simp (differ, here) refl | inr there ↦ simp (differ, there) (kept_key k j xs ne) ]
]

-- A key that isn't among these keys and one more isn't among these keys, and isn't that one.
pub free_push : (k j : ℕ) (ks : List ℕ) → occurs k (ks ++ j ∷ []) ≡ false → (occurs k ks ≡ false) × (eqb j k ≡ false)
free_push k j [] free = (refl, (tail_free k j [] free).0)
free_push k j (x ∷ xs) free =
    let t = tail_free k x (xs ++ j ∷ []) free in
    let later = free_push k j xs t.1 in
    (simp t.0 later.0, later.1)

-- The items without a key have the keys without this one.
pub keys_without : (k : ℕ) (items : List Arrived) → arrived_keys (without_arrived k items) ≡ without k (arrived_keys items)
keys_without k [] = refl
keys_without k (i ∷ is) = elim (cases_Bool (eqb i.key k)) [
  | inl equal ↦ simp equal (keys_without k is)
  | inr differ ↦ simp differ (ap (λ ks. i.key ∷ ks) (keys_without k is))
]

-- Leaving out a key that isn't queued changes nothing.
pub without_free : (k : ℕ) (items : List Arrived) → occurs k (arrived_keys items) ≡ false → without_arrived k items ≡ items
without_free k [] free = refl
without_free k (i ∷ is) free =
    let t = tail_free k i.key (arrived_keys is) free in
    simp t.0 (ap (λ l. i ∷ l) (without_free k is t.1))

-- Without the key of the first item, the items after it are left.
pub without_head : (k : ℕ) (i : Arrived) (is : List Arrived) → eqb i.key k ≡ true → occurs i.key (arrived_keys is) ≡ false
    → without_arrived k (i ∷ is) ≡ is
without_head k i is equal free = simp equal (without_free k is (rw (eqb-true i.key k equal) at free))

-- If a queued key is taken out, there is one item less.
pub length_removed : (k : ℕ) (items : List Arrived) → AreDistinct (arrived_keys items) → occurs k (arrived_keys items) ≡ true
    → length (without_arrived k items) + 1 ≡ length items
length_removed k [] d has = absurd (false≢true has)
length_removed k (i ∷ is) d has = elim (cases_Bool (eqb i.key k)) [
  | inl equal ↦ let e = ap (λ (l : List Arrived). length l) (without_head k i is equal d.0) in omega (arith, e)
  | inr differ ↦ simp differ (omega (arith, length_removed k is d.1 (tail_has k i.key (arrived_keys is) has differ)))
]

-- The key of an item, if there is one.
abbrev pub key_in : Option Arrived → Option ℕ
key_in None = None
key_in (Some i) = Some i.key

module _ (test : Arrived → Bool) where
  -- The key of a queued item that passes is queued.
  pub found_occurs : (items : List Arrived) (i : Arrived) → find test items ≡ Some i → occurs i.key (arrived_keys items) ≡ true
  found_occurs [] i found = let bad : None ≡ Some i = found in absurd (cc)
  found_occurs (j ∷ js) i found = elim (cases_Bool (test j)) [
    | inl passes ↦
        let q : Some j ≡ Some i = simp passes at found in
        let same : j ≡ i = cc in
        simp (eq-eqb j.key i.key (ap (λ (z : Arrived). z.key) same)) refl
    | inr fails ↦
        let later = found_occurs js i (simp fails at found) in
        elim (cases_Bool (eqb j.key i.key)) [ inl here ↦ simp here refl | inr there ↦ simp there later ]
  ]

  -- Leaving out the first item that passes is leaving out its key.
  pub without_found : (items : List Arrived) (i : Arrived) → AreDistinct (arrived_keys items) → find test items ≡ Some i
      → without_first test items ≡ without_arrived i.key items
  without_found [] i d found = let bad : None ≡ Some i = found in absurd (cc)
  without_found (j ∷ js) i d found = elim (cases_Bool (test j)) [
    | inl passes ↦
        let q : Some j ≡ Some i = simp passes at found in
        let same : j ≡ i = cc in
        let to : without_first test (j ∷ js) ≡ js = simp passes refl in
        to ∙ sym (without_head i.key j js (eq-eqb j.key i.key (ap (λ (z : Arrived). z.key) same)) d.0)
    | inr fails ↦
        let later = simp fails at found in
        let differ : eqb j.key i.key ≡ false = ne_eqb j.key i.key (λ e. absurd (false≢true (sym d.0 ∙ ap (λ n. occurs n (arrived_keys js)) e ∙ found_occurs js i later))) in
        simp (fails, differ) (ap (λ l. j ∷ l) (without_found js i d.1 later))
  ]

-- No item passes a test that always fails.
pub find_false : (items : List Arrived) → find (λ i. false) items ≡ None
find_false [] = refl
find_false (i ∷ is) = find_false is

-- The item of a queued key.
pub find_key : (k : ℕ) (items : List Arrived) → occurs k (arrived_keys items) ≡ true
    → (i : Arrived) × (find (λ i. i.key == k) items ≡ Some i) × (i.key ≡ k)
find_key k [] has = absurd (false≢true has)
find_key k (i ∷ is) has = elim (cases_Bool (eqb i.key k)) [
  | inl equal ↦ (i, simp equal refl, eqb-true i.key k equal)
  | inr differ ↦ let later = find_key k is (tail_has k i.key (arrived_keys is) has differ) in (later.0, simp differ later.1, later.2)
]

-- The first key of an entry's queue is that of the first item on it.
pub first_on : (e : ℕ) (items : List Arrived) → first_key (keys_on e (all_queued items)) ≡ key_in (find (λ i. i.entry == e) items)
first_on e [] = refl
first_on e (i ∷ is) = elim (cases_Bool (eqb i.entry e)) [
  | inl same ↦ simp same refl
  | inr other ↦ simp other (first_on e is)
]

module _ {V : Type 0} (p : Call V → Bool) where
  -- If no call passes, each keeps its place.
  pub places_none : (xs : List (Call V)) (ks : List ℕ) → find p xs ≡ None → places_without p xs ks ≡ ks
  places_none [] ks none = refl
  places_none (x ∷ xs) [] none = refl
  places_none (x ∷ xs) (k ∷ ks) none = elim (cases_Bool (p x)) [
    | inl passes ↦ let bad : Some x ≡ None = simp passes at none in absurd (cc)
    | inr fails ↦ simp fails (ap (λ l. k ∷ l) (places_none xs ks (simp fails at none)))
  ]

module _ {V : Type 0} (p : Call V → Bool) (call : ℕ → Option (Call V)) (test : Arrived → Bool) where
  -- Each item passes exactly if its call does.
  abbrev pub Agree : List Arrived → Type 0
  Agree [] = Unit {0}
  Agree (i ∷ is) = IsFound (λ x. p x ≡ test i) (call i.key) × Agree is

  find_step : (i : Arrived) (is : List Arrived) (o : Option (Call V)) → call i.key ≡ o → IsFound (λ x. p x ≡ test i) o
      → find p (waiting_in call is) ≡ of_key call (key_in (find test is))
      → find p (waiting_in call (i ∷ is)) ≡ of_key call (key_in (find test (i ∷ is)))
  find_step i is None is_it agree rest = absurd agree
  find_step i is (Some x) is_it agree rest = elim (cases_Bool (test i)) [
    | inl passes ↦ simp (is_it, agree, passes) refl
    | inr fails ↦ simp (is_it, agree, fails) rest
  ]

  -- The first call that passes is that of the first item that passes.
  pub find_all : (items : List Arrived) → Agree items → find p (waiting_in call items) ≡ of_key call (key_in (find test items))
  find_all [] agree = refl
  find_all (i ∷ is) agree = find_step i is (call i.key) refl agree.0 (find_all is agree.1)

  without_step : (i : Arrived) (is : List Arrived) (o : Option (Call V)) → call i.key ≡ o → IsFound (λ x. p x ≡ test i) o
      → without_first p (waiting_in call is) ≡ waiting_in call (without_first test is)
      → without_first p (waiting_in call (i ∷ is)) ≡ waiting_in call (without_first test (i ∷ is))
  without_step i is None is_it agree rest = absurd agree
  without_step i is (Some x) is_it agree rest = elim (cases_Bool (test i)) [
    | inl passes ↦ simp (is_it, agree, passes) refl
    | inr fails ↦ simp (is_it, agree, fails) (ap (λ l. x ∷ l) rest)
  ]

  -- The calls without the first that passes are those of the items without the first that passes.
  pub without_all : (items : List Arrived) → Agree items → without_first p (waiting_in call items) ≡ waiting_in call (without_first test items)
  without_all [] agree = refl
  without_all (i ∷ is) agree = without_step i is (call i.key) refl agree.0 (without_all is agree.1)

  places_step : (i : Arrived) (is : List Arrived) (o : Option (Call V)) → call i.key ≡ o → IsFound (λ x. p x ≡ test i) o
      → places_without p (waiting_in call is) (map (λ i. i.stamp) is) ≡ map (λ i. i.stamp) (without_first test is)
      → places_without p (waiting_in call (i ∷ is)) (map (λ i. i.stamp) (i ∷ is)) ≡ map (λ i. i.stamp) (without_first test (i ∷ is))
  places_step i is None is_it agree rest = absurd agree
  places_step i is (Some x) is_it agree rest = elim (cases_Bool (test i)) [
    | inl passes ↦ simp (is_it, agree, passes) refl
    | inr fails ↦ simp (is_it, agree, fails) (ap (λ l. i.stamp ∷ l) rest)
  ]

  -- The places without that of the first call that passes are the stamps of the items without the first that passes.
  pub places_all : (items : List Arrived) → Agree items
      → places_without p (waiting_in call items) (map (λ i. i.stamp) items) ≡ map (λ i. i.stamp) (without_first test items)
  places_all [] agree = refl
  places_all (i ∷ is) agree = places_step i is (call i.key) refl agree.0 (places_all is agree.1)

-- The call of this key is the first that passes, and the other calls and their places are left on the queue.
pub record Takes {V : Type 0} (p : Call V → Bool) (call : ℕ → Option (Call V)) (items : List Arrived) (k : ℕ) : Type 0 where
  pub has : occurs k (arrived_keys items) ≡ true
  pub found : call k ≡ find p (waiting_in call items)
  pub waiting : waiting_in call (without_arrived k items) ≡ without_first p (waiting_in call items)
  pub places : map (λ i. i.stamp) (without_arrived k items) ≡ places_without p (waiting_in call items) (map (λ i. i.stamp) items)

-- No call passes: all stay, at their places.
pub record TakesNone {V : Type 0} (p : Call V → Bool) (call : ℕ → Option (Call V)) (items : List Arrived) : Type 0 where
  pub found : find p (waiting_in call items) ≡ None
  pub waiting : without_first p (waiting_in call items) ≡ waiting_in call items
  pub places : places_without p (waiting_in call items) (map (λ i. i.stamp) items) ≡ map (λ i. i.stamp) items

module _ {V : Type 0} (p : Call V → Bool) (call : ℕ → Option (Call V)) (test : Arrived → Bool) where
  -- The first item that passes is taken.
  pub takes : (items : List Arrived) (i : Arrived) → AreDistinct (arrived_keys items) → Agree p call test items → find test items ≡ Some i
      → Takes p call items i.key
  takes items i d agree found = record {
    has = found_occurs test items i found;
    found = sym (find_all p call test items agree ∙ ap (λ o. of_key call (key_in o)) found);
    waiting = ap (waiting_in call) (sym (without_found test items i d found)) ∙ sym (without_all p call test items agree);
    places = ap (map (λ i. i.stamp)) (sym (without_found test items i d found)) ∙ sym (places_all p call test items agree);
  }

  -- If no item passes, nothing is taken.
  pub takes_none : (items : List Arrived) → Agree p call test items → find test items ≡ None → TakesNone p call items
  takes_none items agree none =
      let found = find_all p call test items agree ∙ ap (λ o. of_key call (key_in o)) none in
      record {
        found = found;
        waiting = without_none p (waiting_in call items) found;
        places = places_none p (waiting_in call items) (map (λ i. i.stamp) items) found;
      }
