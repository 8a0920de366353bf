-- What is queued, and the call in service, from step to step.
use Rattle.std.proofs.Common.{◌≡◌, ℕ, ◌<◌, ◌≤◌, ◌==◌, Bool, true, false, eqb, List, [], ◌∷◌, ◌++◌, map, Option, Some, None, refl, sym, ap, ap₂, ◌∙◌, subst, inl, inr, arith, drop}
use Rattle.std.specs.Prelude.{IfNone}
use Rattle.std.specs.List.{find, cons_option, slice_get, All}
use Rattle.std.proofs.lemmas.Bool.{cases_Bool, cases_eq, eqb-true, eqb-false, eq-eqb, ne_eqb, false≢true}
use Rattle.std.proofs.lemmas.List.{map-append}
use Rattle.std.proofs.lemmas.List.Elements.{All-nil, All-cons, All-head, All-tail}
use Rattle.po_calls.specs.declared.call.Call.{Call}
use Rattle.po_queues.specs.QueuedKeys.{occurs, first_key, keys_on, AreDistinct}
use Rattle.po_queues.specs.Arrived.{Arrived, EntryQueuesView, AreInOrder, all_queued, arrived_keys, without_arrived}
use Rattle.po_engine.specs.Finding.{IsFound}
use Rattle.po_engine.specs.WaitingCalls.{mark, has_number, is_on}
use Rattle.po_engine.specs.Calls.{AllQueued, IsQueuedAs, IsInService, IsQueued, IsKeyOf, waiting_in, of_key, expires_at}
use Rattle.po_engine.proofs.Held.{tail_free, tail_has, some_same, no_some, found_more, gone_key, kept_key, free_push, keys_without, without_head, key_in, find_false, find_key, first_on, Agree, Takes, TakesNone, takes, takes_none}

module _ {V : Type 0} (call : ℕ → Option (Call V)) where
  its_at : (n : ℕ) (o : Option (Call V)) → IsFound (λ x. x.number ≡ n) o → (x : Call V) × (o ≡ Some x) × (x.number ≡ n)
  its_at n None is = absurd is
  its_at n (Some x) is = (x, refl, is)

  -- The call at a key, if it has this number.
  pub its_call : (n k : ℕ) → IsFound (λ x. x.number ≡ n) (call k) → (x : Call V) × (call k ≡ Some x) × (x.number ≡ n)
  its_call n k is = its_at n (call k) is

-- A queued key is below any bound of all queued keys.
key_below : (k most : ℕ) (items : List Arrived) → All (λ i. i.key < most) items → occurs k (arrived_keys items) ≡ true → k < most
key_below k most [] all has = absurd (false≢true has)
key_below k most (i ∷ is) all has = elim (cases_Bool (eqb i.key k)) [
  | inl equal ↦ subst (λ n. n < most) (eqb-true i.key k equal) (All-head (λ (j : Arrived). j.key < most) i is all)
  | inr differ ↦ key_below k most is (All-tail (λ (j : Arrived). j.key < most) i is all) (tail_has k i.key (arrived_keys is) has differ)
]

-- The item that a key belongs to.
item_of_key : (k : ℕ) (o : Option Arrived) → key_in o ≡ Some k → (i : Arrived) × (o ≡ Some i) × (i.key ≡ k)
item_of_key k None is = absurd (no_some k is)
item_of_key k (Some i) is = (i, refl, some_same i.key k is)

no_item : (o : Option Arrived) → key_in o ≡ None → o ≡ None
no_item None is = refl
no_item (Some i) is = let bad : Some i.key ≡ None = is in absurd (cc)

-- If all stamps are below a place, so is the stamp of each item.
pub stamps_before : (place : ℕ) (items : List Arrived) → All (λ k. k < place) (map (λ i. i.stamp) items) → All (λ i. i.stamp < place) items
stamps_before place [] all = All-nil (λ (i : Arrived). i.stamp < place)
stamps_before place (i ∷ is) all =
    let stamps = map (λ (j : Arrived). j.stamp) is in
    All-cons (λ (j : Arrived). j.stamp < place) i is (All-head (λ k. k < place) i.stamp stamps all) (stamps_before place is (All-tail (λ k. k < place) i.stamp stamps all))

-- If something is found, anything follows from the claim that nothing is.
pub not_none : {X : Type 0} (P : Type 0) (o : Option X) → IfNone o ⊥ → IfNone o P
not_none P None is = absurd is
not_none P (Some x) is = tt

module _ {V : Type 0} where
  cons_push : (o : Option (Call V)) (xs ys : List (Call V)) → cons_option o (xs ++ ys) ≡ cons_option o xs ++ ys
  cons_push None xs ys = refl
  cons_push (Some x) xs ys = refl

  -- A call that is queued is the last.
  pub waiting_push : (call : ℕ → Option (Call V)) (items : List Arrived) (i : Arrived) (x : Call V) → call i.key ≡ Some x
      → waiting_in call (items ++ i ∷ []) ≡ waiting_in call items ++ x ∷ []
  waiting_push call [] i x h = rw h refl
  waiting_push call (j ∷ js) i x h =
      ap (cons_option (call j.key)) (waiting_push call js i x h) ∙ cons_push (call j.key) (waiting_in call js) (x ∷ [])

  queued_push : (call : ℕ → Option (Call V)) (index : ℕ → Option ℕ) (items : List Arrived) (i : Arrived)
      → AllQueued call index items → IsFound (IsQueuedAs index i) (call i.key) → AllQueued call index (items ++ i ∷ [])
  queued_push call index [] i all h = (h, tt)
  queued_push call index (j ∷ js) i all h = (all.0, queued_push call index js i all.1 h)

  queued_without : (call : ℕ → Option (Call V)) (index : ℕ → Option ℕ) (k : ℕ) (items : List Arrived)
      → AllQueued call index items → AllQueued call index (without_arrived k items)
  queued_without call index k [] all = all
  queued_without call index k (i ∷ is) all = elim (cases_Bool (eqb i.key k)) [
    | inl equal ↦ simp equal (queued_without call index k is all.1)
    | inr differ ↦ simp differ (all.0, queued_without call index k is all.1)
  ]

  -- If calls differ only at a key that isn't queued, the waiting calls are the same.
  pub waiting_same : (f g : ℕ → Option (Call V)) (k : ℕ) (items : List Arrived) → occurs k (arrived_keys items) ≡ false
      → ((j : ℕ) → (j ≡ k → ⊥) → g j ≡ f j) → waiting_in g items ≡ waiting_in f items
  waiting_same f g k [] free same = refl
  waiting_same f g k (i ∷ is) free same =
      let t = tail_free k i.key (arrived_keys is) free in
      ap₂ cons_option (same i.key (eqb-false i.key k t.0)) (waiting_same f g k is t.1 same)

  queued_same : (f g : ℕ → Option (Call V)) (index : ℕ → Option ℕ) (k : ℕ) (items : List Arrived) → occurs k (arrived_keys items) ≡ false
      → ((j : ℕ) → (j ≡ k → ⊥) → g j ≡ f j) → AllQueued f index items → AllQueued g index items
  queued_same f g index k [] free same all = all
  queued_same f g index k (i ∷ is) free same all =
      let t = tail_free k i.key (arrived_keys is) free in
      (subst (IsFound (IsQueuedAs index i)) (sym (same i.key (eqb-false i.key k t.0))) all.0, queued_same f g index k is t.1 same all.1)

  queued_more : (call : ℕ → Option (Call V)) (index later : ℕ → Option ℕ) (items : List Arrived)
      → ((n k : ℕ) → index n ≡ Some k → later n ≡ Some k) → AllQueued call index items → AllQueued call later items
  queued_more call index later [] more all = all
  queued_more call index later (i ∷ is) more all = (
    found_more (IsQueuedAs index i) (IsQueuedAs later i) (call i.key) (λ x is. record {
      entry = is.entry;
      expires = is.expires;
      indexed = more x.number i.key is.indexed;
    }) all.0,
    queued_more call index later is more all.1,
  )

module _ {V : Type 0} (call : ℕ → Option (Call V)) (index : ℕ → Option ℕ) where
  -- A queued key has a call whose number leads to it.
  pub queued_at : (k : ℕ) (items : List Arrived) → AllQueued call index items → occurs k (arrived_keys items) ≡ true
      → IsFound (λ x. index x.number ≡ Some k) (call k)
  queued_at k [] all has = absurd (false≢true has)
  queued_at k (i ∷ is) all has = elim (cases_Bool (eqb i.key k)) [
    | inl equal ↦
        subst (λ j. IsFound (λ x. index x.number ≡ Some j) (call j)) (eqb-true i.key k equal) (found_more (IsQueuedAs index i) (λ x. index x.number ≡ Some i.key) (call i.key) (λ x h. h.indexed) all.0)
    | inr differ ↦ queued_at k is all.1 (tail_has k i.key (arrived_keys is) has differ)
  ]

  no_call : (k : ℕ) (o : Option (Call V)) → call k ≡ o → IsFound (λ x. index x.number ≡ Some k) o → call k ≡ None → ⊥
  no_call k None e is none = absurd is
  no_call k (Some x) e is none = let bad : Some x ≡ None = sym e ∙ none in absurd (cc)

  serving_none : (reserved : ℕ) (items : List Arrived) (serving : Option ℕ) → IsInService call index reserved items serving
      → of_key call serving ≡ None → serving ≡ None
  serving_none reserved items None is none = refl
  serving_none reserved items (Some k) is none = absurd (no_call k (call k) refl is.2 none)

  -- If no call is in service, no key is.
  pub none_serving : (queues : EntryQueuesView) (serving : Option ℕ) → IsQueued call index queues serving → of_key call serving ≡ None → serving ≡ None
  none_serving queues serving is none = serving_none queues.reserved queues.items serving is.in_service none

  -- A queued call is taken into service.
  pub removed : (queues : EntryQueuesView) (k : ℕ) → AreInOrder queues → occurs k (arrived_keys queues.items) ≡ true
      → IsQueued call index queues None → IsQueued call index (record queues { items = without_arrived k queues.items }) (Some k)
  removed queues k order has is = record {
    queued = queued_without call index k queues.items is.queued;
    in_service = (key_below k queues.reserved queues.items order.keys has, ap (occurs k) (keys_without k queues.items) ∙ gone_key k (arrived_keys queues.items), queued_at k queues.items is.queued has);
    only = λ j x at free. elim (cases_eq j k) [
      | inl e ↦ ap (λ (n : ℕ). Some n) (sym e)
      | inr ne ↦ absurd (no_some j (is.only j x at (sym (ap (occurs j) (keys_without k queues.items) ∙ kept_key j k (arrived_keys queues.items) ne) ∙ free)))
    ];
  }

  -- The call in service is queued.
  pub queued : (queues : EntryQueuesView) (k place : ℕ) (x : Call V) → call k ≡ Some x → IsQueued call index queues (Some k)
      → IsQueued call index (record queues { items = queues.items ++ record { entry = x.entry; key = k; stamp = place; expires = expires_at x } ∷ [] }) None
  queued queues k place x at is =
      let i : Arrived = record { entry = x.entry; key = k; stamp = place; expires = expires_at x } in
      let keys = map-append (λ (j : Arrived). j.key) queues.items (i ∷ []) in
      record {
        queued = queued_push call index queues.items i is.queued (subst (IsFound (IsQueuedAs index i)) (sym at) (record {
          entry = refl;
          expires = refl;
          indexed = subst (IsFound (λ y. index y.number ≡ Some k)) at is.in_service.2;
        }));
        in_service = tt;
        only = λ j y found free.
            let o = free_push j k (arrived_keys queues.items) (sym (ap (occurs j) keys) ∙ free) in
            absurd (eqb-false k j o.1 (some_same k j (is.only j y found o.0)));
      }

  -- The call in service ends.
  pub dropped : (g : ℕ → Option (Call V)) (queues : EntryQueuesView) (k : ℕ) → g k ≡ None → ((j : ℕ) → (j ≡ k → ⊥) → g j ≡ call j)
      → IsQueued call index queues (Some k) → IsQueued g index queues None × (waiting_in g queues.items ≡ waiting_in call queues.items)
  dropped g queues k at same is = (
    record {
      queued = queued_same call g index k queues.items is.in_service.1 same is.queued;
      in_service = tt;
      only = λ j x found free. elim (cases_eq j k) [
        | inl e ↦ let bad : None ≡ Some x = sym at ∙ ap g (sym e) ∙ found in absurd (cc)
        | inr ne ↦ absurd (ne (sym (some_same k j (is.only j x (sym (same j ne) ∙ found) free))))
      ];
    },
    waiting_same call g k queues.items is.in_service.1 same,
  )

  -- The call in service changes, but not its number.
  pub changed : (g : ℕ → Option (Call V)) (queues : EntryQueuesView) (k : ℕ) (x y : Call V) → call k ≡ Some x → g k ≡ Some y → y.number ≡ x.number
      → ((j : ℕ) → (j ≡ k → ⊥) → g j ≡ call j) → IsQueued call index queues (Some k)
      → IsQueued g index queues (Some k) × (waiting_in g queues.items ≡ waiting_in call queues.items)
  changed g queues k x y was now number same is = (
    record {
      queued = queued_same call g index k queues.items is.in_service.1 same is.queued;
      in_service = (is.in_service.0, is.in_service.1, subst (IsFound (λ z. index z.number ≡ Some k)) (sym now) (ap index number ∙ subst (IsFound (λ z. index z.number ≡ Some k)) was is.in_service.2));
      only = λ j z found free. elim (cases_eq j k) [
        | inl e ↦ ap (λ (n : ℕ). Some n) (sym e)
        | inr ne ↦ is.only j z (sym (same j ne) ∙ found) free
      ];
    },
    waiting_same call g k queues.items is.in_service.1 same,
  )

  serving_more : (later : ℕ → Option ℕ) (r s : ℕ) (items : List Arrived) (serving : Option ℕ) → r ≤ s
      → ((n k : ℕ) → index n ≡ Some k → later n ≡ Some k) → IsInService call index r items serving → IsInService call later s items serving
  serving_more later r s items None le more h = h
  serving_more later r s items (Some k) le more h = (omega (arith, h.0, le), h.1, found_more _ _ (call k) (λ x is. more x.number k is) h.2)

  -- There are more numbers, and more room.
  pub widened : (later : ℕ → Option ℕ) (queues : EntryQueuesView) (s : ℕ) (serving : Option ℕ) → queues.reserved ≤ s
      → ((n k : ℕ) → index n ≡ Some k → later n ≡ Some k) → IsQueued call index queues serving
      → IsQueued call later (record queues { reserved = s }) serving
  widened later queues s serving le more is = record {
    queued = queued_more call index later queues.items more is.queued;
    in_service = serving_more later queues.reserved s queues.items serving le more is.in_service;
    only = is.only;
  }

  free_key : (k : ℕ) (items : List Arrived) (b : Bool) → occurs k (arrived_keys items) ≡ b → AllQueued call index items → call k ≡ None → b ≡ false
  free_key k items false e all none = refl
  free_key k items true e all none = absurd (no_call k (call k) refl (queued_at k items all e) none)

  -- A new call is taken into service.
  pub added : (g : ℕ → Option (Call V)) (later : ℕ → Option ℕ) (queues : EntryQueuesView) (k : ℕ) (x : Call V) → call k ≡ None → g k ≡ Some x
      → ((j : ℕ) → (j ≡ k → ⊥) → g j ≡ call j) → ((n j : ℕ) → index n ≡ Some j → later n ≡ Some j) → later x.number ≡ Some k
      → k < queues.reserved → IsQueued call index queues None
      → IsQueued g later queues (Some k) × (waiting_in g queues.items ≡ waiting_in call queues.items)
  added g later queues k x was now same more indexed lt is =
      let free = free_key k queues.items (occurs k (arrived_keys queues.items)) refl is.queued was in (
        record {
          queued = queued_same call g later k queues.items free same (queued_more call index later queues.items more is.queued);
          in_service = (lt, free, subst (IsFound (λ y. later y.number ≡ Some k)) (sym now) indexed);
          only = λ j y found none. elim (cases_eq j k) [
            | inl e ↦ ap (λ (n : ℕ). Some n) (sym e)
            | inr ne ↦ absurd (no_some j (is.only j y (sym (same j ne) ∙ found) none))
          ];
        },
        waiting_same call g k queues.items free same,
      )

  -- The first on an entry.
  agree_entry : (e : ℕ) (items : List Arrived) → AllQueued call index items → Agree (is_on e) call (λ i. i.entry == e) items
  agree_entry e [] all = tt
  agree_entry e (i ∷ is) all =
      (found_more (IsQueuedAs index i) (λ x. is_on e x ≡ (i.entry == e)) (call i.key) (λ x h. ap (λ n. eqb n e) h.entry) all.0, agree_entry e is all.1)

  pub first_taken : (queues : EntryQueuesView) (serving : Option ℕ) (e k : ℕ) → AreInOrder queues → IsQueued call index queues serving
      → first_key (keys_on e (all_queued queues.items)) ≡ Some k → Takes (is_on e) call queues.items k
  first_taken queues serving e k order is found =
      let first = item_of_key k (find (λ i. i.entry == e) queues.items) (sym (first_on e queues.items) ∙ found) in
      subst (Takes (is_on e) call queues.items) first.2 (takes (is_on e) call (λ i. i.entry == e) queues.items first.0 order.distinct (agree_entry e queues.items is.queued) first.1)

  pub none_on : (queues : EntryQueuesView) (serving : Option ℕ) (e : ℕ) → IsQueued call index queues serving
      → first_key (keys_on e (all_queued queues.items)) ≡ None → TakesNone (is_on e) call queues.items
  none_on queues serving e is none =
      takes_none (is_on e) call (λ i. i.entry == e) queues.items (agree_entry e queues.items is.queued) (no_item (find (λ i. i.entry == e) queues.items) (sym (first_on e queues.items) ∙ none))

  agree_at : (n k : ℕ) (i : Arrived) (o p : Option (Call V)) → index n ≡ Some k → call k ≡ p → IsFound (λ x. x.number ≡ n) p
      → call i.key ≡ o → IsFound (IsQueuedAs index i) o → IsFound (λ x. has_number n x ≡ (i.key == k)) o
  agree_at n k i None p led at its here is = is
  agree_at n k i (Some y) None led at its here is = absurd its
  agree_at n k i (Some y) (Some x) led at its here is = elim (cases_eq i.key k) [
    | inl e ↦
        let q : Some y ≡ Some x = sym here ∙ ap call e ∙ at in
        let same : y ≡ x = cc in
        eq-eqb y.number n (ap (λ (c : Call V). c.number) same ∙ its) ∙ sym (eq-eqb i.key k e)
    | inr ne ↦
        ne_eqb y.number n (λ e. ne (some_same i.key k (sym is.indexed ∙ ap index e ∙ led))) ∙ sym (ne_eqb i.key k ne)
  ]

  pub agree_number : (n k : ℕ) (items : List Arrived) → index n ≡ Some k → IsFound (λ x. x.number ≡ n) (call k) → AllQueued call index items
      → Agree (has_number n) call (λ i. i.key == k) items
  agree_number n k [] led its all = tt
  agree_number n k (i ∷ is) led its all = (agree_at n k i (call i.key) (call k) led refl its refl all.0, agree_number n k is led its all.1)

  -- The call of a number.
  pub number_taken : (queues : EntryQueuesView) (serving : Option ℕ) (n k : ℕ) → AreInOrder queues → IsQueued call index queues serving
      → IsKeyOf call index queues.items n k → Takes (has_number n) call queues.items k
  number_taken queues serving n k order is there =
      let item = find_key k queues.items there.is_queued in
      subst (Takes (has_number n) call queues.items) item.2 (takes (has_number n) call (λ i. i.key == k) queues.items item.0 order.distinct (agree_number n k queues.items there.indexed there.its is.queued) item.1)

  -- No queued key is that of a call of this number.
  abbrev pub IsAbsent : List Arrived → ℕ → Type 0
  IsAbsent items n = (k : ℕ) → IsKeyOf call index items n k → ⊥

  absent_at : (n : ℕ) (items : List Arrived) (i : Arrived) (o : Option (Call V)) → IsAbsent items n → occurs i.key (arrived_keys items) ≡ true
      → call i.key ≡ o → IsFound (IsQueuedAs index i) o → IsFound (λ x. has_number n x ≡ false) o
  absent_at n items i None absent has here is = is
  absent_at n items i (Some x) absent has here is = ne_eqb x.number n (λ e. absent i.key (record {
    indexed = ap index (sym e) ∙ is.indexed;
    is_queued = has;
    its = subst (IsFound (λ y. y.number ≡ n)) (sym here) e;
  }))

  has_later : (k : ℕ) (i : Arrived) (is : List Arrived) → occurs k (arrived_keys is) ≡ true → occurs k (arrived_keys (i ∷ is)) ≡ true
  has_later k i is has = elim (cases_Bool (eqb i.key k)) [ inl here ↦ simp here refl | inr there ↦ simp there has ]

  agree_none : (n : ℕ) (items : List Arrived) → IsAbsent items n → AllQueued call index items → Agree (has_number n) call (λ i. false) items
  agree_none n [] absent all = tt
  agree_none n (i ∷ is) absent all = (
    absent_at n (i ∷ is) i (call i.key) absent (simp (eq-eqb i.key i.key refl) refl) refl all.0,
    agree_none n is (λ k there. absent k (record {
      indexed = there.indexed;
      is_queued = has_later k i is there.is_queued;
      its = there.its;
    })) all.1,
  )

  pub no_number : (queues : EntryQueuesView) (serving : Option ℕ) (n : ℕ) → IsQueued call index queues serving → IsAbsent queues.items n
      → TakesNone (has_number n) call queues.items
  no_number queues serving n is absent = takes_none (has_number n) call (λ i. false) queues.items (agree_none n queues.items absent is.queued) (find_false queues.items)

  unmarked_step : (n : ℕ) (i : Arrived) (xs : List (Call V)) (o : Option (Call V)) → IsFound (λ x. has_number n x ≡ false) o
      → map (mark n) xs ≡ xs → map (mark n) (cons_option o xs) ≡ cons_option o xs
  unmarked_step n i xs None h rest = rest
  unmarked_step n i xs (Some x) h rest = simp h (ap (λ l. x ∷ l) rest)

  unmarked_all : (n : ℕ) (items : List Arrived) → Agree (has_number n) call (λ i. false) items → map (mark n) (waiting_in call items) ≡ waiting_in call items
  unmarked_all n [] agree = refl
  unmarked_all n (i ∷ is) agree = unmarked_step n i (waiting_in call is) (call i.key) agree.0 (unmarked_all n is agree.1)

  -- If no call has the number, none is marked.
  pub unmarked : (queues : EntryQueuesView) (serving : Option ℕ) (n : ℕ) → IsQueued call index queues serving → IsAbsent queues.items n
      → map (mark n) (waiting_in call queues.items) ≡ waiting_in call queues.items
  unmarked queues serving n is absent = unmarked_all n queues.items (agree_none n queues.items absent is.queued)

  mark_step : (g : ℕ → Option (Call V)) (n k : ℕ) (x : Call V) (i : Arrived) (is : List Arrived) (o : Option (Call V)) → call i.key ≡ o
      → IsFound (λ y. has_number n y ≡ (i.key == k)) o → call k ≡ Some x → x.number ≡ n → g k ≡ Some (record x { aborted = true })
      → ((j : ℕ) → (j ≡ k → ⊥) → g j ≡ call j) → waiting_in g is ≡ map (mark n) (waiting_in call is)
      → waiting_in g (i ∷ is) ≡ map (mark n) (waiting_in call (i ∷ is))
  mark_step g n k x i is None here agree at its now same rest = absurd agree
  mark_step g n k x i is (Some y) here agree at its now same rest = elim (cases_eq i.key k) [
    | inl e ↦
        let q : Some y ≡ Some x = sym here ∙ ap call e ∙ at in
        let one : x ≡ y = cc in
        let to : record x { aborted = true } ≡ mark n x = simp (eq-eqb x.number n its) refl in
        let gi : g i.key ≡ Some (mark n y) = ap g e ∙ now ∙ ap (λ c. Some c) to ∙ ap (λ c. Some (mark n c)) one in
        ap (λ o. cons_option o (waiting_in g is)) gi ∙ ap (λ l. mark n y ∷ l) rest ∙ sym (ap (λ o. map (mark n) (cons_option o (waiting_in call is))) here)
    | inr ne ↦
        let not_n : eqb y.number n ≡ false = agree ∙ ne_eqb i.key k ne in
        let gi : g i.key ≡ Some y = same i.key ne ∙ here in
        let stays : mark n y ≡ y = simp not_n refl in
        ap (λ o. cons_option o (waiting_in g is)) gi ∙ ap₂ (λ c l. c ∷ l) (sym stays) rest ∙ sym (ap (λ o. map (mark n) (cons_option o (waiting_in call is))) here)
  ]

  mark_all : (g : ℕ → Option (Call V)) (n k : ℕ) (x : Call V) (items : List Arrived) → Agree (has_number n) call (λ i. i.key == k) items
      → call k ≡ Some x → x.number ≡ n → g k ≡ Some (record x { aborted = true }) → ((j : ℕ) → (j ≡ k → ⊥) → g j ≡ call j)
      → waiting_in g items ≡ map (mark n) (waiting_in call items)
  mark_all g n k x [] agree at its now same = refl
  mark_all g n k x (i ∷ is) agree at its now same = mark_step g n k x i is (call i.key) refl agree.0 at its now same (mark_all g n k x is agree.1 at its now same)

  queued_marked : (g : ℕ → Option (Call V)) (k : ℕ) (x : Call V) (items : List Arrived) → call k ≡ Some x → g k ≡ Some (record x { aborted = true })
      → ((j : ℕ) → (j ≡ k → ⊥) → g j ≡ call j) → AllQueued call index items → AllQueued g index items
  queued_marked g k x [] at now same all = all
  queued_marked g k x (i ∷ is) at now same all = (
    elim (cases_eq i.key k) [
      | inl e ↦
          let was = subst (IsFound (IsQueuedAs index i)) (ap call e ∙ at) all.0 in
          subst (IsFound (IsQueuedAs index i)) (sym (ap g e ∙ now)) (record { entry = was.entry; expires = was.expires; indexed = was.indexed })
      | inr ne ↦ subst (IsFound (IsQueuedAs index i)) (sym (same i.key ne)) all.0
    ],
    queued_marked g k x is at now same all.1,
  )

  -- A queued call is marked.
  pub marked : (g : ℕ → Option (Call V)) (queues : EntryQueuesView) (n k : ℕ) (x : Call V) → IsKeyOf call index queues.items n k → call k ≡ Some x → x.number ≡ n
      → g k ≡ Some (record x { aborted = true }) → ((j : ℕ) → (j ≡ k → ⊥) → g j ≡ call j) → IsQueued call index queues None
      → IsQueued g index queues None × (waiting_in g queues.items ≡ map (mark n) (waiting_in call queues.items))
  marked g queues n k x there at its now same is = (
    record {
      queued = queued_marked g k x queues.items at now same is.queued;
      in_service = tt;
      only = λ j y found free. elim (cases_eq j k) [
        | inl e ↦ absurd (false≢true (sym free ∙ ap (λ (m : ℕ). occurs m (arrived_keys queues.items)) e ∙ there.is_queued))
        | inr ne ↦ is.only j y (sym (same j ne) ∙ found) free
      ];
    },
    mark_all g n k x queues.items (agree_number n k queues.items there.indexed there.its is.queued) at its now same,
  )

  -- The call of this key is the first of all, and the other calls and their places are left on the queue.
  pub record IsOldest (items : List Arrived) (k : ℕ) : Type 0 where
    pub has : occurs k (arrived_keys items) ≡ true
    pub found : call k ≡ slice_get (waiting_in call items) 0
    pub waiting : waiting_in call (without_arrived k items) ≡ drop 1 (waiting_in call items)
    pub places : map (λ i. i.stamp) (without_arrived k items) ≡ drop 1 (map (λ i. i.stamp) items)
    pub is_call : IfNone (call k) ⊥

  oldest_step : (i : Arrived) (is : List Arrived) (o : Option (Call V)) → call i.key ≡ o → IsFound (IsQueuedAs index i) o
      → AreDistinct (arrived_keys (i ∷ is)) → IsOldest (i ∷ is) i.key
  oldest_step i is None here queued d = absurd queued
  oldest_step i is (Some x) here queued d =
      let rest = without_head i.key i is (eq-eqb i.key i.key refl) d.0 in
      record {
        has = simp (eq-eqb i.key i.key refl) refl;
        found = simp here refl;
        waiting = ap (waiting_in call) rest ∙ simp here refl;
        places = ap (map (λ (j : Arrived). j.stamp)) rest;
        is_call = subst (λ o. IfNone o ⊥) (sym here) tt;
      }

  oldest_of : (items : List Arrived) (k : ℕ) → first_key (arrived_keys items) ≡ Some k → AllQueued call index items
      → AreDistinct (arrived_keys items) → IsOldest items k
  oldest_of [] k found all d = absurd (no_some k found)
  oldest_of (i ∷ is) k found all d = subst (IsOldest (i ∷ is)) (some_same i.key k found) (oldest_step i is (call i.key) refl all.0 d)

  -- The oldest of all.
  pub oldest_taken : (queues : EntryQueuesView) (serving : Option ℕ) (k : ℕ) → AreInOrder queues → IsQueued call index queues serving
      → first_key (arrived_keys queues.items) ≡ Some k → IsOldest queues.items k
  oldest_taken queues serving k order is found = oldest_of queues.items k found is.queued order.distinct
