-- What the table keeps of each call, and the numbers that lead to keys, from step to step.
use Rattle.std.proofs.Common.{◌≡◌, ℕ, zero, suc, ◌+◌, ◌-◌, ◌<◌, eqb, List, [], ◌∷◌, ◌++◌, length, map, Option, Some, None, option_map, refl, sym, ap, ap₂, ◌∙◌, subst, inl, inr, arith, nat_lt}
use Rattle.std.specs.List.{find, slice_get, slice_index_or, All}
use Rattle.std.proofs.lemmas.Bool.{cases_Bool, cases_eq, eq-eqb, ne_eqb, le-ltb}
use Rattle.std.proofs.lemmas.List.Elements.{All-head, All-tail}
use Rattle.slab.specs.Slab.{Slab, get, Updates}
use Rattle.po_calls.specs.Calls.{CallTable, waiting_call, with_number, kept, numbers_of}
use Rattle.po_calls.specs.declared.call.Call.{Call}
use Rattle.po_calls.specs.declared.end.End.{End}
use Rattle.po_calls.specs.declared.kept.Kept.{Kept}
use Rattle.po_engine.specs.declared.ended.Ended.{Ended}
use Rattle.po_engine.specs.Ending.{has_ended, ended_as}
use Rattle.po_engine.specs.Tickets.{SetsTicket, number_at}
use Rattle.po_engine.specs.Calls.{IsKeptWell, key_of, call_at}

-- An index leads to the same element if the list gets longer.
slice_more : (xs : List ℕ) (i j y : ℕ) → slice_get xs i ≡ Some j → slice_get (xs ++ y ∷ []) i ≡ Some j
slice_more [] i j y h = let bad : None ≡ Some j = h in absurd (cc)
slice_more (x ∷ xs) zero j y h = h
slice_more (x ∷ xs) (suc i) j y h = slice_more xs i j y h

slice_last : (xs : List ℕ) (y : ℕ) → slice_get (xs ++ y ∷ []) (length xs) ≡ Some y
slice_last [] y = refl
slice_last (x ∷ xs) y = slice_last xs y

slice_below : (xs : List ℕ) (i j : ℕ) → slice_get xs i ≡ Some j → i < length xs
slice_below [] i j h = let bad : None ≡ Some j = h in absurd (cc)
slice_below (x ∷ xs) zero j h = omega arith
slice_below (x ∷ xs) (suc i) j h = omega (arith, slice_below xs i j h)

-- A number leads to the same key if there are more keys.
pub key_more : (first y : ℕ) (keys : List ℕ) (n k : ℕ) → key_of first keys n ≡ Some k → key_of first (keys ++ y ∷ []) n ≡ Some k
key_more first y keys n k h = elim (cases_Bool (nat_lt n first)) [
  | inl below ↦ let bad : None ≡ Some k = simp below at h in absurd (cc)
  | inr from ↦ simp from (slice_more keys (n - first) k y (simp from at h))
]

-- The next number leads to the key that is added.
pub key_last : (first y : ℕ) (keys : List ℕ) (n : ℕ) → n ≡ first + length keys → key_of first (keys ++ y ∷ []) n ≡ Some y
key_last first y keys n e =
    let at : n - first ≡ length keys = omega (arith, e) in
    simp (le-ltb n first (omega (arith, e))) (rw at (slice_last keys y))

-- A number that leads to a key is below the next one.
pub key_below : (first : ℕ) (keys : List ℕ) (n k : ℕ) → key_of first keys n ≡ Some k → n < first + length keys
key_below first keys n k h = elim (cases_Bool (nat_lt n first)) [
  | inl below ↦ let bad : None ≡ Some k = simp below at h in absurd (cc)
  | inr from ↦ omega (arith, slice_below keys (n - first) k (simp from at h))
]

no_mapped : {X Y : Type 0} (f : X → Y) (o : Option X) → None ≡ option_map f o → o ≡ None
no_mapped f None e = refl
no_mapped f (Some x) e = let bad : None ≡ Some (f x) = e in absurd (cc)

module _ {V : Type 0} where
  with_end : (e : Option (End V)) (k : Kept V) (x : Call V) → k.end ≡ e → waiting_call (Some k) ≡ Some x → Some k ≡ Some (record { call = x; end = None })
  with_end None k x is w =
      let q : Some k.call ≡ Some x = simp is at w in
      let same : k.call ≡ x = cc in
      ap₂ (λ (c : Call V) (e : Option (End V)). let v : Kept V = record { call = c; end = e } in Some v) same is
  with_end (Some e) k x is w = let bad : None ≡ Some x = simp is at w in absurd (cc)

  -- A waiting call is kept with no end.
  pub waiting_kept : (o : Option (Kept V)) (x : Call V) → waiting_call o ≡ Some x → o ≡ Some (record { call = x; end = None })
  waiting_kept None x w = let bad : None ≡ Some x = w in absurd (cc)
  waiting_kept (Some k) x w = with_end k.end k x refl w

  -- What a table keeps for the ticket of a waiting call.
  pub kept_call : (table : CallTable V) (k n : ℕ) (x : Call V) → call_at table.calls k ≡ Some x → x.number ≡ n
      → waiting_call (kept table (record { key = k; number = n })) ≡ Some x
  kept_call table k n x w its = let e = waiting_kept (get table.calls k) x w in ap (λ o. waiting_call (with_number n o)) e ∙ simp (eq-eqb x.number n its) refl

  -- Which end is found for a number, once one more call has ended.
  find_other : (m : ℕ) (xs : List (Ended V)) (x : Ended V) → (x.number ≡ m → ⊥) → find (has_ended m) (xs ++ x ∷ []) ≡ find (has_ended m) xs
  find_other m [] x ne = simp (ne_eqb x.number m ne) refl
  find_other m (y ∷ ys) x ne = elim (cases_Bool (eqb y.number m))
      [ inl here ↦ simp here refl | inr there ↦ simp there (find_other m ys x ne) ]

  find_this : (m : ℕ) (xs : List (Ended V)) (x : Ended V) → x.number ≡ m → find (has_ended m) xs ≡ None → find (has_ended m) (xs ++ x ∷ []) ≡ Some x
  find_this m [] x e none = simp (eq-eqb x.number m e) refl
  find_this m (y ∷ ys) x e none = elim (cases_Bool (eqb y.number m)) [
    | inl here ↦ let bad : Some y ≡ None = simp here at none in absurd (cc)
    | inr there ↦ simp there (find_this m ys x e (simp there at none))
  ]

  -- The call with the next number hasn't ended.
  find_next : (m : ℕ) (xs : List (Ended V)) → All (λ x. x.number < m) xs → find (has_ended m) xs ≡ None
  find_next m [] all = refl
  find_next m (x ∷ xs) all =
      let lt = All-head (λ (y : Ended V). y.number < m) x xs all in
      simp (ne_eqb x.number m (λ e. omega (arith, lt, e))) (find_next m xs (All-tail (λ (y : Ended V). y.number < m) x xs all))

  -- One call of the table is new or changes.
  kept_update : (old new : Slab (Kept V)) (k : ℕ) (v : Kept V) (index later : ℕ → Option ℕ) (ended now : List (Ended V))
      → Updates old new k (Some v) → ((n j : ℕ) → index n ≡ Some j → later n ≡ Some j) → later v.call.number ≡ Some k
      → v.end ≡ option_map (λ x. x.end) (find (has_ended v.call.number) now)
      → ((m j : ℕ) → index m ≡ Some j → (j ≡ k → ⊥) → find (has_ended m) now ≡ find (has_ended m) ended)
      → IsKeptWell old index ended → IsKeptWell new later now
  kept_update old new k v index later ended now u more indexed end others is = record {
    indexed = λ j w found. elim (cases_eq j k) [
      | inl e ↦
          let q : Some v ≡ Some w = sym u.changed ∙ ap (get new) (sym e) ∙ found in
          let same : v ≡ w = cc in
          ap (λ (z : Kept V). later z.call.number) (sym same) ∙ indexed ∙ ap (λ (n : ℕ). Some n) (sym e)
      | inr ne ↦ more w.call.number j (is.indexed j w (sym (u.others j ne) ∙ found))
    ];
    ends = λ j w found. elim (cases_eq j k) [
      | inl e ↦
          let q : Some v ≡ Some w = sym u.changed ∙ ap (get new) (sym e) ∙ found in
          let same : v ≡ w = cc in
          subst (λ (z : Kept V). z.end ≡ option_map (λ x. x.end) (find (has_ended z.call.number) now)) same end
      | inr ne ↦
          let was = sym (u.others j ne) ∙ found in
          is.ends j w was ∙ ap (option_map (λ x. x.end)) (sym (others w.call.number j (is.indexed j w was) ne))
    ];
  }

  -- A new call is kept.
  pub kept_added : (old new : Slab (Kept V)) (k : ℕ) (x : Call V) (index later : ℕ → Option ℕ) (ended : List (Ended V))
      → Updates old new k (Some (record { call = x; end = None })) → ((n j : ℕ) → index n ≡ Some j → later n ≡ Some j)
      → later x.number ≡ Some k → All (λ y. y.number < x.number) ended → IsKeptWell old index ended → IsKeptWell new later ended
  kept_added old new k x index later ended u more indexed before is = kept_update old new k (record { call = x; end = None }) index later ended ended u more indexed (sym (ap (option_map (λ y. y.end)) (find_next x.number ended before))) (λ m j led ne. refl) is

  -- The end of a waiting call isn't among the ended.
  not_ended : (old : Slab (Kept V)) (k : ℕ) (x : Call V) (index : ℕ → Option ℕ) (ended : List (Ended V)) → call_at old k ≡ Some x
      → IsKeptWell old index ended → find (has_ended x.number) ended ≡ None
  not_ended old k x index ended at is = no_mapped (λ y. y.end) (find (has_ended x.number) ended) (is.ends k (record { call = x; end = None }) (waiting_kept (get old k) x at))

  -- The number of a waiting call leads to its key.
  pub waiting_indexed : (old : Slab (Kept V)) (k : ℕ) (x : Call V) (index : ℕ → Option ℕ) (ended : List (Ended V)) → call_at old k ≡ Some x
      → IsKeptWell old index ended → index x.number ≡ Some k
  waiting_indexed old k x index ended at is = is.indexed k (record { call = x; end = None }) (waiting_kept (get old k) x at)

  -- A waiting call changes, but not its number.
  pub kept_changed : (old new : Slab (Kept V)) (k : ℕ) (x y : Call V) (index : ℕ → Option ℕ) (ended : List (Ended V)) → call_at old k ≡ Some x
      → y.number ≡ x.number → Updates old new k (Some (record { call = y; end = None })) → IsKeptWell old index ended → IsKeptWell new index ended
  kept_changed old new k x y index ended at number u is = kept_update old new k (record { call = y; end = None }) index index ended ended u (λ n j h. h) (ap index number ∙ waiting_indexed old k x index ended at is) (sym (ap (λ n. option_map (λ z. z.end) (find (has_ended n) ended)) number ∙ ap (option_map (λ z. z.end)) (not_ended old k x index ended at is))) (λ m j led ne. refl) is

  -- A waiting call ends.
  pub kept_ended : (old new : Slab (Kept V)) (k : ℕ) (x : Call V) (end : End V) (index : ℕ → Option ℕ) (ended : List (Ended V)) → call_at old k ≡ Some x
      → Updates old new k (Some (record { call = x; end = Some end })) → IsKeptWell old index ended
      → IsKeptWell new index (ended ++ ended_as end x ∷ [])
  kept_ended old new k x end index ended at u is =
      let led = waiting_indexed old k x index ended at is in
      kept_update old new k (record { call = x; end = Some end }) index index ended (ended ++ ended_as end x ∷ []) u (λ n j h. h) led (sym (ap (option_map (λ z. z.end)) (find_this x.number ended (ended_as end x) refl (not_ended old k x index ended at is)))) (λ m j its ne. find_other m ended (ended_as end x) (λ e. ne (some_same j k (sym its ∙ ap index (sym e) ∙ led)))) is
    where
      some_same : (j k : ℕ) → Some j ≡ Some k → j ≡ k
      some_same j k e = cc

  -- A waiting call ends, and is taken out.
  pub kept_taken_out : (old new : Slab (Kept V)) (k : ℕ) (x : Call V) (end : End V) (index : ℕ → Option ℕ) (ended : List (Ended V)) → call_at old k ≡ Some x
      → Updates old new k None → IsKeptWell old index ended → IsKeptWell new index (ended ++ ended_as end x ∷ [])
  kept_taken_out old new k x end index ended at u is =
      let led = waiting_indexed old k x index ended at is in
      record {
        indexed = λ j w found. elim (cases_eq j k) [
          | inl e ↦ let bad : None ≡ Some w = sym u.changed ∙ ap (get new) (sym e) ∙ found in absurd (cc)
          | inr ne ↦ is.indexed j w (sym (u.others j ne) ∙ found)
        ];
        ends = λ j w found. elim (cases_eq j k) [
          | inl e ↦ let bad : None ≡ Some w = sym u.changed ∙ ap (get new) (sym e) ∙ found in absurd (cc)
          | inr ne ↦
              let was = sym (u.others j ne) ∙ found in
              let its = is.indexed j w was in
              is.ends j w was ∙ ap (option_map (λ y. y.end)) (sym (find_other w.call.number ended (ended_as end x) (λ e. ne (key_same j k (sym its ∙ ap index (sym e) ∙ led)))))
        ];
      }
    where
      key_same : (j k : ℕ) → Some j ≡ Some k → j ≡ k
      key_same j k e = cc

  -- A call that isn't in the table is numbered and has ended: what is kept of the others stays.
  pub kept_beside : (calls : Slab (Kept V)) (index later : ℕ → Option ℕ) (ended : List (Ended V)) (x : Ended V)
      → ((n j : ℕ) → index n ≡ Some j → later n ≡ Some j) → ((n j : ℕ) → index n ≡ Some j → n < x.number) → IsKeptWell calls index ended
      → IsKeptWell calls later (ended ++ x ∷ [])
  kept_beside calls index later ended x more below is = record {
    indexed = λ j w found. more w.call.number j (is.indexed j w found);
    ends = λ j w found.
        let lt = below w.call.number j (is.indexed j w found) in
        is.ends j w found ∙ ap (option_map (λ e. e.end)) (sym (find_other w.call.number ended x (λ e. omega (arith, e, lt))));
  }

  number_in_slot : (slots : List (Option (Kept V))) (k : ℕ) → slice_index_or (map (option_map (λ x. x.call.number)) slots) k None ≡ option_map (λ x. x.call.number) (slice_index_or slots k None)
  number_in_slot [] k = refl
  number_in_slot (o ∷ os) zero = refl
  number_in_slot (o ∷ os) (suc k) = number_in_slot os k

  -- The number at a key is that of the call kept there.
  pub number_kept : (table : CallTable V) (k : ℕ) → number_at (numbers_of table) k ≡ option_map (λ x. x.call.number) (get table.calls k)
  number_kept table k = number_in_slot table.calls.slots k

  number_led : (table : CallTable V) (index : ℕ → Option ℕ) (k n : ℕ) (o : Option (Kept V)) → get table.calls k ≡ o
      → ((key : ℕ) (x : Kept V) → get table.calls key ≡ Some x → index x.call.number ≡ Some key)
      → option_map (λ x. x.call.number) o ≡ Some n → index n ≡ Some k
  number_led table index k n None here indexed is = let bad : None ≡ Some n = is in absurd (cc)
  number_led table index k n (Some x) here indexed is = let both : Some x.call.number ≡ Some n = is in let same : x.call.number ≡ n = cc in subst (λ m. index m ≡ Some k) same (indexed k x here)

  -- The number of a ticket leads to its key.
  pub ticket_led : (table : CallTable V) (index : ℕ → Option ℕ) (k n : ℕ)
      → ((key : ℕ) (x : Kept V) → get table.calls key ≡ Some x → index x.call.number ≡ Some key)
      → number_at (numbers_of table) k ≡ Some n → index n ≡ Some k
  ticket_led table index k n indexed is = number_led table index k n (get table.calls k) refl indexed (sym (number_kept table k) ∙ is)

  -- The tickets change at the key at which the table changes.
  pub ticket_set : (old new : CallTable V) (k : ℕ) (now : Option (Kept V)) → Updates old.calls new.calls k now
      → SetsTicket (numbers_of old) (numbers_of new) k (option_map (λ x. x.call.number) now)
  ticket_set old new k now u = record {
    changed = number_kept new k ∙ ap (option_map (λ x. x.call.number)) u.changed;
    others = λ j ne. number_kept new j ∙ ap (option_map (λ x. x.call.number)) (u.others j ne) ∙ sym (number_kept old j);
  }
