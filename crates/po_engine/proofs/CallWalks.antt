-- Walks over the queued items, from key to key.
use Rattle.std.proofs.Common.{◌≡◌, ℕ, ◌<◌, ◌==◌, Bool, true, false, cond, eqb, List, [], ◌∷◌, ◌++◌, length, map, Option, Some, None, refl, sym, ap, ◌∙◌, subst, inl, inr, arith, if◌then◌else◌}
use Rattle.std.specs.List.{find, cons_option}
use Rattle.std.proofs.lemmas.Bool.{cases_Bool, eqb-true, eq-eqb, false≢true}
use Rattle.std.proofs.lemmas.List.{append_assoc}
use Rattle.po_queues.specs.QueuedKeys.{occurs, first_key, key_after, stamp_of, AreDistinct}
use Rattle.po_calls.specs.declared.call.Call.{Call}
use Rattle.po_queues.specs.Arrived.{Arrived, all_queued, arrived_keys}
use Rattle.po_engine.specs.Finding.{IsFound}
use Rattle.po_engine.specs.Calls.{waiting_in, IsQueuedAs, AllQueued}

-- the queued items from this key on
abbrev pub left_from : Option ℕ → List Arrived → List Arrived
left_from None items = []
left_from (Some k) [] = []
left_from (Some k) (i ∷ is) = if i.key == k then i ∷ is else left_from (Some k) is

left_none : (items : List Arrived) → left_from None items ≡ []
left_none [] = refl
left_none (i ∷ is) = refl

-- from the first key on, these are all queued items
pub left_first : (items : List Arrived) → left_from (first_key (arrived_keys items)) items ≡ items
left_first [] = refl
left_first (i ∷ is) = simp (eq-eqb i.key i.key refl) refl

-- Whether this is one of the keys, or none.
abbrev IsAmong : Option ℕ → List ℕ → Type 0
IsAmong None keys = Unit {0}
IsAmong (Some k) keys = occurs k keys ≡ true

among_later : (o : Option ℕ) (x : ℕ) (keys : List ℕ) → IsAmong o keys → IsAmong o (x ∷ keys)
among_later None x keys h = tt
among_later (Some k) x keys h = elim (cases_Bool (eqb x k)) [ inl equal ↦ simp equal refl | inr differ ↦ simp differ h ]

first_among : (keys : List ℕ) → IsAmong (first_key keys) keys
first_among [] = tt
first_among (x ∷ xs) = simp (eq-eqb x x refl) refl

after_among : (k : ℕ) (keys : List ℕ) → IsAmong (key_after k keys) keys
after_among k [] = tt
after_among k (x ∷ xs) = elim (cases_Bool (eqb x k)) [
  | inl equal ↦ simp equal (among_later (first_key xs) x xs (first_among xs))
  | inr differ ↦ simp differ (among_later (key_after k xs) x xs (after_among k xs))
]

-- a key of the later items isn't the first
left_later : (o : Option ℕ) (i : Arrived) (is : List Arrived) → occurs i.key (arrived_keys is) ≡ false
    → IsAmong o (arrived_keys is) → left_from o (i ∷ is) ≡ left_from o is
left_later None i is free h = sym (left_none is)
left_later (Some k) i is free h = elim (cases_Bool (eqb i.key k)) [
  | inl equal ↦ absurd (false≢true (sym free ∙ ap (λ n. occurs n (arrived_keys is)) (eqb-true i.key k equal) ∙ h))
  | inr differ ↦ simp differ refl
]

-- The item at a key of a walk, and what comes after it.
pub record Stands (k : ℕ) (items : List Arrived) : Type 0 where
  pub item : Arrived
  pub rest : List Arrived
  pub key : item.key ≡ k
  pub here : left_from (Some k) items ≡ item ∷ rest
  pub next : key_after k (arrived_keys items) ≡ first_key (arrived_keys rest)
  pub later : left_from (key_after k (arrived_keys items)) items ≡ rest
  pub stamp : stamp_of k (all_queued items) ≡ Some item.stamp

pub stands : (k : ℕ) (items : List Arrived) → AreDistinct (arrived_keys items)
    → first_key (arrived_keys (left_from (Some k) items)) ≡ Some k → Stands k items
stands k [] d h = let bad : None ≡ Some k = h in absurd (cc)
stands k (i ∷ is) d h = elim (cases_Bool (eqb i.key k)) [
  | inl equal ↦ record {
    item = i;
    rest = is;
    key = eqb-true i.key k equal;
    here = simp equal refl;
    next = simp equal refl;
    later = simp equal (left_later (first_key (arrived_keys is)) i is d.0 (first_among (arrived_keys is)) ∙ left_first is);
    stamp = simp equal refl;
  }
  | inr differ ↦
      let s = stands k is d.1 (simp differ at h) in
      record {
        item = s.item;
        rest = s.rest;
        key = s.key;
        here = simp differ s.here;
        next = simp differ s.next;
        later = simp differ (left_later (key_after k (arrived_keys is)) i is d.0 (after_among k (arrived_keys is)) ∙ s.later);
        stamp = simp differ s.stamp;
      }
]

-- if there is no key, nothing is left
pub none_left : (items : List Arrived) → left_from None items ≡ []
none_left items = left_none items

-- less is left after a key
pub fewer_left : (k : ℕ) (items : List Arrived) → Stands k items
    → length (left_from (key_after k (arrived_keys items)) items) < length (left_from (Some k) items)
fewer_left k items s = omega (arith, ap length s.later, ap length s.here)

module _ {V : Type 0} (call : ℕ → Option (Call V)) (index : ℕ → Option ℕ) where
  queued_left_if : (b : Bool) (k : ℕ) (i : Arrived) (is : List Arrived) → AllQueued call index (i ∷ is)
      → AllQueued call index (left_from (Some k) is) → AllQueued call index (cond b (i ∷ is) (left_from (Some k) is))
  queued_left_if true k i is all rest = all
  queued_left_if false k i is all rest = rest

  -- what is left is queued
  queued_left : (k : ℕ) (items : List Arrived) → AllQueued call index items → AllQueued call index (left_from (Some k) items)
  queued_left k [] all = all
  queued_left k (i ∷ is) all = queued_left_if (eqb i.key k) k i is all (queued_left k is all.1)

  has_call : (i : Arrived) (o : Option (Call V)) → call i.key ≡ o → IsFound (IsQueuedAs index i) o
      → (x : Call V) × (call i.key ≡ Some x)
  has_call i None e h = absurd h
  has_call i (Some x) e h = (x, e)

  -- What a walk meets at a key: the call that waits there, and after it the calls of what is left.
  pub record Meets (k : ℕ) (items : List Arrived) : Type 0 where
    pub stand : Stands k items
    pub met : Call V
    pub is_met : call k ≡ Some met
    pub calls : waiting_in call (left_from (Some k) items) ≡ met ∷ waiting_in call (left_from (key_after k (arrived_keys items)) items)

  pub meets : (k : ℕ) (items : List Arrived) → AreDistinct (arrived_keys items) → AllQueued call index items
      → first_key (arrived_keys (left_from (Some k) items)) ≡ Some k → Meets k items
  meets k items d all h =
      let s = stands k items d h in
      let q = subst (AllQueued call index) s.here (queued_left k items all) in
      let c = has_call s.item (call s.item.key) refl q.0 in
      record {
        stand = s;
        met = c.0;
        is_met = ap call (sym s.key) ∙ c.1;
        calls = ap (waiting_in call) s.here ∙ ap (λ o. cons_option o (waiting_in call s.rest)) c.1 ∙ ap (λ l. c.0 ∷ waiting_in call l) (sym s.later);
      }

  same_call : (x y : Call V) → Some x ≡ Some y → x ≡ y
  same_call x y e = cc

  -- the walk finds the call that it meets, if that passes the test
  pub found_at : (p : Call V → Bool) (k : ℕ) (items : List Arrived) (x : Call V) → Meets k items → Some x ≡ call k → p x ≡ true
      → find p (waiting_in call (left_from (Some k) items)) ≡ Some x
  found_at p k items x m is passes =
      let same = same_call m.met x (sym (is ∙ m.is_met)) in
      rw m.calls (simp (ap p same ∙ passes) (ap (λ (y : Call V). Some y) same))

  -- the walk goes on past a call that doesn't pass the test
  pub passed_at : (p : Call V → Bool) (k : ℕ) (items : List Arrived) (x : Call V) → Meets k items → Some x ≡ call k → p x ≡ false
      → find p (waiting_in call (left_from (Some k) items)) ≡ find p (waiting_in call (left_from (key_after k (arrived_keys items)) items))
  passed_at p k items x m is fails =
      let same = same_call m.met x (sym (is ∙ m.is_met)) in
      rw m.calls (simp (ap p same ∙ fails) refl)

  -- what is left of the walk begins with the next key
  pub begins_at : (k : ℕ) (items : List Arrived) → Meets k items
      → first_key (arrived_keys (left_from (key_after k (arrived_keys items)) items)) ≡ key_after k (arrived_keys items)
  begins_at k items m = ap (λ l. first_key (arrived_keys l)) m.stand.later ∙ sym m.stand.next

  pub no_gap : (k : ℕ) (items : List Arrived) → Meets k items → None ≡ call k → ⊥
  no_gap k items m none = let bad : None ≡ Some m.met = none ∙ m.is_met in absurd (cc)

  -- a call that the walk meets is appended to those before it
  pub calls_at : (k : ℕ) (items : List Arrived) (x : Call V) (before : List (Call V)) → Meets k items → Some x ≡ call k
      → (before ++ x ∷ []) ++ waiting_in call (left_from (key_after k (arrived_keys items)) items) ≡ before ++ waiting_in call (left_from (Some k) items)
  calls_at k items x before m is =
      let same = same_call m.met x (sym (is ∙ m.is_met)) in
      append_assoc before (x ∷ []) (waiting_in call (left_from (key_after k (arrived_keys items)) items)) ∙ sym (ap (λ l. before ++ l) m.calls ∙ ap (λ (y : Call V). before ++ y ∷ waiting_in call (left_from (key_after k (arrived_keys items)) items)) same)

  same_stamp : (a b : ℕ) → Some a ≡ Some b → a ≡ b
  same_stamp a b e = cc

  -- and its place is appended to those before it
  pub places_at : (k : ℕ) (items : List Arrived) (place : ℕ) (before : List ℕ) → Meets k items
      → Some place ≡ stamp_of k (all_queued items)
      → (before ++ place ∷ []) ++ map (λ i. i.stamp) (left_from (key_after k (arrived_keys items)) items) ≡ before ++ map (λ i. i.stamp) (left_from (Some k) items)
  places_at k items place before m is =
      let same = same_stamp m.stand.item.stamp place (sym (is ∙ m.stand.stamp)) in
      let rest = map (λ i. i.stamp) m.stand.rest in
      append_assoc before (place ∷ []) (map (λ i. i.stamp) (left_from (key_after k (arrived_keys items)) items)) ∙ ap (λ l. before ++ place ∷ map (λ i. i.stamp) l) m.stand.later ∙ sym (ap (λ l. before ++ map (λ i. i.stamp) l) m.stand.here ∙ ap (λ (n : ℕ). before ++ n ∷ rest) same)

  pub no_stamp : (k : ℕ) (items : List Arrived) → Meets k items → None ≡ stamp_of k (all_queued items) → ⊥
  no_stamp k items m none = let bad : None ≡ Some m.stand.item.stamp = none ∙ m.stand.stamp in absurd (cc)
