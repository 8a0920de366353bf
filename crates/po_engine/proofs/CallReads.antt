-- What is read off the waiting calls, given what is queued of them.
use Rattle.std.proofs.Common.{◌≡◌, ◌==◌, ℕ, suc, ◌+◌, ◌<◌, ◌≤◌, Bool, true, false, not, cond, eqb, List, [], ◌∷◌, length, map, Option, Some, None, refl, sym, ap, ap₂, ◌∙◌, subst, inl, inr, arith, ◌&&◌, if◌then◌else◌}
use Rattle.std.specs.List.{filter, find, cons_option, count_by, All}
use Rattle.std.specs.Prelude.{option_map}
use Rattle.std.proofs.lemmas.Bool.{cases_Bool, eqb-true, eqb-false, ne_eqb}
use Rattle.std.proofs.lemmas.List.Sums.{length-filter, sum_by-cons}
use Rattle.std.proofs.lemmas.List.Elements.{All-nil, All-cons}
use Rattle.po_queues.specs.QueuedKeys.{queue_of, occurs, AreDistinct}
use Rattle.po_calls.specs.declared.call.Call.{Call}
use Rattle.po_calls.specs.declared.call.Deadline.{Deadline}
use Rattle.po_calls.specs.declared.call.Deadline.TheVariants.{Never, At}
use Rattle.po_queues.specs.Arrived.{Arrived, all_queued, arrived_keys, has_come}
use Rattle.po_engine.specs.Finding.{IsFound}
use Rattle.po_engine.specs.WaitingCalls.{is_on, has_number, is_past, is_due}
use Rattle.po_engine.proofs.Held.{tail_free, some_same, found_more, key_in, Agree, find_all, find_key}
use Rattle.po_engine.proofs.ServiceSteps.{agree_number}
use Rattle.po_engine.specs.Calls.{time_of, waiting_in, of_key, IsQueuedAs, AllQueued}

-- the time of a call has come exactly if it is due
pub come : (clock : ℕ) (without_abort : Bool) (deadline : Deadline)
    → has_come clock (if without_abort then None else time_of deadline) ≡ (not without_abort && is_past clock deadline)
come clock true deadline = refl
come clock false Never = refl
come clock false (At time) = refl

count_yes : {X : Type 0} (p : X → Bool) (x : X) (xs : List X) → p x ≡ true → count_by p (x ∷ xs) ≡ 1 + count_by p xs
count_yes p x xs e = omega (arith, sum_by-cons (λ y. cond (p y) 1 0) x xs, ap {B = ℕ} (λ b. cond b 1 0) e)

count_no : {X : Type 0} (p : X → Bool) (x : X) (xs : List X) → p x ≡ false → count_by p (x ∷ xs) ≡ count_by p xs
count_no p x xs e = omega (arith, sum_by-cons (λ y. cond (p y) 1 0) x xs, ap {B = ℕ} (λ b. cond b 1 0) e)

module _ {V : Type 0} (call : ℕ → Option (Call V)) (index : ℕ → Option ℕ) where
  agree_due : (clock : ℕ) (items : List Arrived) → AllQueued call index items
      → Agree (is_due clock) call (λ j. has_come clock j.expires) items
  agree_due clock [] all = tt
  agree_due clock (i ∷ is) all = (found_more (IsQueuedAs index i) (λ x. is_due clock x ≡ has_come clock i.expires) (call i.key) (λ x h. sym (come clock x.without_abort x.deadline) ∙ ap (has_come clock) h.expires) all.0, agree_due clock is all.1)

  key_is : (o : Option Arrived) → option_map (λ j. j.key) o ≡ key_in o
  key_is None = refl
  key_is (Some i) = refl

  -- the number of the first call that is due
  pub due_number : (clock : ℕ) (items : List Arrived) (o : Option ℕ) → AllQueued call index items
      → o ≡ option_map (λ j. j.key) (find (λ j. has_come clock j.expires) items)
      → option_map (λ x. x.number) (of_key call o) ≡ option_map (λ x. x.number) (find (is_due clock) (waiting_in call items))
  due_number clock items o all is = ap (option_map (λ x. x.number)) (ap (of_key call) (is ∙ key_is (find (λ j. has_come clock j.expires) items)) ∙ sym (find_all (is_due clock) call (λ j. has_come clock j.expires) items (agree_due clock items all)))

  -- the entries of the queued items are those of the calls
  entries_step : (i : Arrived) (is : List Arrived) (o : Option (Call V)) → call i.key ≡ o → IsFound (IsQueuedAs index i) o
      → map (λ j. j.entry) (all_queued is) ≡ map (λ x. x.entry) (waiting_in call is)
      → map (λ j. j.entry) (all_queued (i ∷ is)) ≡ map (λ x. x.entry) (waiting_in call (i ∷ is))
  entries_step i is None e h rest = absurd h
  entries_step i is (Some x) e h rest = rw e (ap₂ (λ (n : ℕ) l. n ∷ l) (sym h.entry) rest)

  pub entries_same : (items : List Arrived) → AllQueued call index items
      → map (λ j. j.entry) (all_queued items) ≡ map (λ x. x.entry) (waiting_in call items)
  entries_same [] all = refl
  entries_same (i ∷ is) all = entries_step i is (call i.key) refl all.0 (entries_same is all.1)

  -- how many calls wait on an entry
  filtered_step : (e : ℕ) (i : Arrived) (is : List Arrived) (xs : List (Call V)) (o : Option (Call V)) → call i.key ≡ o
      → IsFound (IsQueuedAs index i) o → length (filter (is_on e) xs) ≡ length (queue_of e (all_queued is))
      → length (filter (is_on e) (cons_option (call i.key) xs)) ≡ length (queue_of e (all_queued (i ∷ is)))
  filtered_step e i is xs None fk h rest = absurd h
  filtered_step e i is xs (Some x) fk h rest =
      let same : eqb x.entry e ≡ eqb i.entry e = ap (λ n. eqb n e) h.entry in
      elim (cases_Bool (eqb i.entry e)) [
        | inl equal ↦ simp (fk, same, equal) (ap suc rest)
        | inr differ ↦ simp (fk, same, differ) rest
      ]

  filtered : (e : ℕ) (items : List Arrived) → AllQueued call index items
      → length (filter (is_on e) (waiting_in call items)) ≡ length (queue_of e (all_queued items))
  filtered e [] all = refl
  filtered e (i ∷ is) all = filtered_step e i is (waiting_in call is) (call i.key) refl all.0 (filtered e is all.1)

  pub counted : (e : ℕ) (items : List Arrived) → AllQueued call index items
      → length (queue_of e (all_queued items)) ≡ count_by (is_on e) (waiting_in call items)
  counted e items all = sym (filtered e items all) ∙ length-filter (is_on e) (waiting_in call items)

  -- each key has a call
  length_step : (i : Arrived) (is : List Arrived) (o : Option (Call V)) → call i.key ≡ o → IsFound (IsQueuedAs index i) o
      → length (waiting_in call is) ≡ length is → length (waiting_in call (i ∷ is)) ≡ length (i ∷ is)
  length_step i is None e h rest = absurd h
  length_step i is (Some x) e h rest = rw e (ap suc rest)

  pub length_same : (items : List Arrived) → AllQueued call index items → length (waiting_in call items) ≡ length items
  length_same [] all = refl
  length_same (i ∷ is) all = length_step i is (call i.key) refl all.0 (length_same is all.1)

  -- the number of each waiting call leads to a key
  below_step : (n : ℕ) (i : Arrived) (is : List Arrived) (o : Option (Call V)) → ((m k : ℕ) → index m ≡ Some k → m < n)
      → call i.key ≡ o → IsFound (IsQueuedAs index i) o → All (λ x. x.number < n) (waiting_in call is)
      → All (λ x. x.number < n) (waiting_in call (i ∷ is))
  below_step n i is None low e h rest = absurd h
  below_step n i is (Some x) low e h rest = rw e (All-cons (λ x. x.number < n) x (waiting_in call is) (low x.number i.key h.indexed) rest)

  pub all_below : (n : ℕ) (items : List Arrived) → ((m k : ℕ) → index m ≡ Some k → m < n) → AllQueued call index items
      → All (λ x. x.number < n) (waiting_in call items)
  all_below n [] low all = All-nil (λ x. x.number < n)
  all_below n (i ∷ is) low all = below_step n i is (call i.key) low refl all.0 (all_below n is low all.1)

  -- no other call has a number that leads to a key
  none_step : (n k : ℕ) (i : Arrived) (is : List Arrived) (o : Option (Call V)) → index n ≡ Some k → eqb i.key k ≡ false
      → call i.key ≡ o → IsFound (IsQueuedAs index i) o → count_by (has_number n) (waiting_in call is) ≡ 0
      → count_by (has_number n) (waiting_in call (i ∷ is)) ≡ 0
  none_step n k i is None h differ e q rest = absurd q
  none_step n k i is (Some x) h differ e q rest =
      let other : eqb x.number n ≡ false = ne_eqb x.number n (λ en. eqb-false i.key k differ (some_same i.key k (sym q.indexed ∙ ap index en ∙ h))) in
      rw e (count_no (has_number n) x (waiting_in call is) other ∙ rest)

  none_of : (n k : ℕ) (items : List Arrived) → index n ≡ Some k → occurs k (arrived_keys items) ≡ false
      → AllQueued call index items → count_by (has_number n) (waiting_in call items) ≡ 0
  none_of n k [] h free all = refl
  none_of n k (i ∷ is) h free all =
      let t = tail_free k i.key (arrived_keys is) free in
      none_step n k i is (call i.key) h t.0 refl all.0 (none_of n k is h t.1 all.1)

  once_step : (n : ℕ) (i : Arrived) (is : List Arrived) (o : Option (Call V)) → occurs i.key (arrived_keys is) ≡ false
      → call i.key ≡ o → IsFound (IsQueuedAs index i) o → AllQueued call index is
      → count_by (has_number n) (waiting_in call is) ≤ 1 → count_by (has_number n) (waiting_in call (i ∷ is)) ≤ 1
  once_step n i is None free e q all rest = absurd q
  once_step n i is (Some x) free e q all rest = elim (cases_Bool (eqb x.number n)) [
    | inl equal ↦
        let none = none_of n i.key is (ap index (sym (eqb-true x.number n equal)) ∙ q.indexed) free all in
        rw e (omega (arith, none, count_yes (has_number n) x (waiting_in call is) equal))
    | inr differ ↦ rw e (omega (arith, rest, count_no (has_number n) x (waiting_in call is) differ))
  ]

  -- no two waiting calls have the same number
  pub once_each : (n : ℕ) (items : List Arrived) → AreDistinct (arrived_keys items) → AllQueued call index items
      → count_by (has_number n) (waiting_in call items) ≤ 1
  once_each n [] d all = omega arith
  once_each n (i ∷ is) d all = once_step n i is (call i.key) d.0 refl all.0 all.1 (once_each n is d.1 all.1)

  -- the waiting call with a number
  pub number_call : (n k : ℕ) (x : Call V) (items : List Arrived) → AllQueued call index items → call k ≡ Some x → x.number ≡ n
      → index n ≡ Some k → occurs k (arrived_keys items) ≡ true → find (has_number n) (waiting_in call items) ≡ Some x
  number_call n k x items all its num led has =
      let its_number = subst (IsFound (λ y. y.number ≡ n)) (sym its) num in
      let at = find_key k items has in
      find_all (has_number n) call (λ j. j.key == k) items (agree_number call index n k items led its_number all) ∙ ap (λ o. of_key call (key_in o)) at.1 ∙ ap call at.2 ∙ its

module _ {V : Type 0} (call after : ℕ → Option (Call V)) (same : (k : ℕ) → after k ≡ call k) where
  -- the waiting calls are the same in a table that keeps them
  pub waiting_kept : (items : List Arrived) → waiting_in after items ≡ waiting_in call items
  waiting_kept [] = refl
  waiting_kept (i ∷ is) = ap₂ cons_option (same i.key) (waiting_kept is)

  pub queued_kept : (index : ℕ → Option ℕ) (items : List Arrived) → AllQueued call index items → AllQueued after index items
  queued_kept index [] all = all
  queued_kept index (i ∷ is) all = (subst (IsFound (IsQueuedAs index i)) (sym (same i.key)) all.0, queued_kept index is all.1)
