-- Which entries have waiting calls, by the queues of their keys.
use Rattle.std.proofs.Common.{◌≡◌, ℕ, ◌<◌, ◌≤◌, ◌==◌, List, [], ◌∷◌, map, Bool, true, false, cond, Option, Some, None, sym, subst, ap, ◌∙◌, refl, arith, inl, inr, length}
use Rattle.std.specs.Prelude.{IfSome, IfNone, IsNone, IsSome}
use Rattle.po_engine.proofs.Absent.{eq_self}
use Rattle.std.specs.List.{All, find}
use Rattle.std.proofs.lemmas.Bool.{false≢true, true≢false, cases_lt, cases_Bool, ne_eqb, eq-eqb}
use Rattle.std.proofs.lemmas.List.Elements.{All-map, All-head, All-tail, All-cons, All-nil, All-weaker}
use Rattle.po_queues.specs.QueuedKeys.{QueuedKey, QueuesView, queue_of}
use Rattle.po_queues.specs.Busy.{IsNextBusy}
use Rattle.po_calls.specs.declared.call.Call.{Call}
use Rattle.po_engine.specs.WaitingCalls.{is_on}

left_none : (b : Bool) (i : QueuedKey) (q : List QueuedKey) → cond b (i ∷ q) q ≡ [] → q ≡ []
left_none true i q h = absurd (cc)
left_none false i q h = h

some_left : (b : Bool) (i : QueuedKey) (q : List QueuedKey) → b ≡ true → cond b (i ∷ q) q ≡ [] → ⊥
some_left true i q t h = absurd (cc)
some_left false i q t h = absurd (false≢true t)

is_itself : (n : ℕ) → (n == n) ≡ true
is_itself n = eq_self n

-- if the queues of such entries are empty, no key is on such an entry
none_on : (P : ℕ → Type 0) (items : List QueuedKey) → ((k : ℕ) → P k → queue_of k items ≡ []) → All (λ i. P i.entry → ⊥) items
none_on P [] h = All-nil (λ i. P i.entry → ⊥)
none_on P (i ∷ items) h =
    All-cons (λ j. P j.entry → ⊥) i items (λ p. some_left (i.entry == i.entry) i (queue_of i.entry items) (is_itself i.entry) (h i.entry p))
    (none_on P items (λ k p. left_none (i.entry == k) i (queue_of k items) (h k p)))

unmapped : {X Y : Type 0} (P : Y → Type 0) (f : X → Y) (xs : List X) → All P (map f xs) → All (λ x. P (f x)) xs
unmapped P f [] h = All-nil (λ x. P (f x))
unmapped P f (x ∷ xs) h = All-cons (λ y. P (f y)) x xs (All-head P (f x) (map f xs) h) (unmapped P f xs (All-tail P (f x) (map f xs) h))

none_mapped : {X Y : Type 0} (f : X → Y) (xs : List X) → [] ≡ map f xs → xs ≡ []
none_mapped f [] h = refl
none_mapped f (x ∷ xs) h = absurd (cc)

-- if no key is on the entry, its queue is empty
queue_none : (e : ℕ) (items : List QueuedKey) → All (λ n. n ≡ e → ⊥) (map (λ i. i.entry) items) → queue_of e items ≡ []
queue_none e [] h = refl
queue_none e (i ∷ items) h =
    let off = ne_eqb i.entry e (All-head (λ n. n ≡ e → ⊥) i.entry (map (λ j. j.entry) items) h) in
    rw off (queue_none e items (All-tail (λ n. n ≡ e → ⊥) i.entry (map (λ j. j.entry) items) h))

-- unless all calls are off the entry, one is found on it
found_on_entry : {V : Type 0} (e : ℕ) (xs : List (Call V)) → (All (λ x. x.entry ≡ e → ⊥) xs → ⊥) → IsSome (find (is_on e) xs)
found_on_entry e [] h = absurd (h (All-nil (λ x. x.entry ≡ e → ⊥)))
found_on_entry e (x ∷ xs) h = elim (cases_Bool (x.entry == e)) [
  | inl on ↦ rw on refl
  | inr off ↦ rw off (found_on_entry e xs (λ none. h (All-cons (λ y. y.entry ≡ e → ⊥) x xs (eqb_off x.entry e off) none)))
]
  where
    eqb_off : (n k : ℕ) → (n == k) ≡ false → n ≡ k → ⊥
    eqb_off n k off is = absurd (true≢false (sym (eq-eqb n k is) ∙ off))

module _ {V : Type 0} (queues : QueuesView) (waiting : List (Call V)) (entries : map (λ i. i.entry) queues.items ≡ map (λ x. x.entry) waiting) where
  on_waiting : (P : ℕ → Type 0) → All (λ i. P i.entry) queues.items → All (λ x. P x.entry) waiting
  on_waiting P h = unmapped P (λ x. x.entry) waiting (subst (All P) entries (All-map P (λ i. i.entry) queues.items h))

  pub passed_in : (from : ℕ) (r : Option ℕ) → IfSome r (λ e. IsNextBusy queues from e) → IfSome r (λ e. All (λ x. x.entry < e → x.entry < from) waiting)
  passed_in from None h = h
  passed_in from (Some e) h = on_waiting (λ n. n < e → n < from)
      (All-weaker (λ i. (from ≤ i.entry) × (i.entry < e) → ⊥) (λ i. i.entry < e → i.entry < from)
      (λ i no less. elim (cases_lt i.entry from) [
        | inl lt ↦ lt
        | inr ge ↦ absurd (no (omega (arith, ge), less))
      ])
      queues.items (none_on (λ n. (from ≤ n) × (n < e)) queues.items (λ k p. h.idle_before k p.0 p.1)))

  pub below_in : (from : ℕ) (r : Option ℕ) → (IsNone r → (e : ℕ) → from ≤ e → queue_of e queues.items ≡ []) → IfNone r (All (λ x. x.entry < from) waiting)
  below_in from (Some e) h = tt
  below_in from None h = on_waiting (λ n. n < from)
      (All-weaker (λ i. from ≤ i.entry → ⊥) (λ i. i.entry < from)
      (λ i no. elim (cases_lt i.entry from) [
        | inl lt ↦ lt
        | inr ge ↦ absurd (no (omega (arith, ge)))
      ])
      queues.items (none_on (λ n. from ≤ n) queues.items (λ k p. h refl k p)))

  pub none_in : queues.items ≡ [] → waiting ≡ []
  none_in h = none_mapped (λ x. x.entry) waiting (subst (λ l. map (λ i. i.entry) l ≡ map (λ x. x.entry) waiting) h entries)

  pub none_out : waiting ≡ [] → queues.items ≡ []
  none_out h = none_mapped (λ i. i.entry) queues.items (sym (subst (λ l. map (λ i. i.entry) queues.items ≡ map (λ x. x.entry) l) h entries))

  -- the entry with a queued key has a queued call
  pub busy_in : (from : ℕ) (r : Option ℕ) → IfSome r (λ e. IsNextBusy queues from e) → IfSome r (λ e. IsSome (find (is_on e) waiting))
  busy_in from None h = h
  busy_in from (Some e) h = found_on_entry e waiting (λ none. absurd (omega (arith, h.busy, ap (λ (l : List QueuedKey). length l) (queue_none e queues.items (subst (All (λ n. n ≡ e → ⊥)) (sym entries) (All-map (λ n. n ≡ e → ⊥) (λ x. x.entry) waiting none))))))
