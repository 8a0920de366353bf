-- The turns of entries with a queued key, and of entries without one.
use Rattle.std.proofs.Common.{◌≡◌, ℕ, ◌<◌, ◌≤◌, List, [], ◌∷◌, length, drop, refl, ap, ◌∙◌, sym, arith}
use Rattle.std.proofs.Common.{true, false, inl, inr}
use Rattle.std.proofs.lemmas.Bool.{cases_lt}
use Rattle.po_unit.specs.Meaning.{Meaning}
use Rattle.po_queues.specs.QueuedKeys.{QueuesView, QueuedKey, queue_of, keys_of}
use Rattle.po_queues.specs.Busy.{IsNextBusy, has_keys}
use Rattle.po_queues.specs.declared.selection.Selection.{Selection}
use Rattle.po_queues.specs.declared.selection.Selection.TheVariants.{Quiet}
use Rattle.po_queues.specs.Turns.{below, turn, tells_nothing, first_selection, selection_if}
use Rattle.po_queues.specs.Service.{barrier_at, turn_at}
use Rattle.po_queues.proofs.RangeLemmas.{range_quiet, range_found}

-- a queue that isn't empty has keys
pub busy_keys : (xs : List QueuedKey) → 0 < length xs → has_keys (keys_of xs) ≡ true
busy_keys [] some = absurd (omega arith)
busy_keys (x ∷ xs) some = refl

-- a queue that has keys isn't empty
pub keys_busy : (xs : List QueuedKey) → has_keys (keys_of xs) ≡ true → 0 < length xs
keys_busy [] has = absurd (cc)
keys_busy (x ∷ xs) has = omega arith

-- no entry before the next busy one has a queued key
pub past_next : (queues : QueuesView) (next e : ℕ) → IsNextBusy queues next e → (i : ℕ)
    → 0 < length (queue_of i queues.items) → next ≤ i → e ≤ i
past_next queues next e found i busy low = elim (cases_lt i e) [
  | inl before ↦ absurd (omega (arith, busy, ap (λ (l : List QueuedKey). length l) (found.idle_before i low before)))
  | inr after ↦ after
]

-- if no entry from one on is busy, the entries with a queued key are below it
pub below_next : (queues : QueuesView) (next : ℕ) → ((e : ℕ) → next ≤ e → queue_of e queues.items ≡ [])
    → (i : ℕ) → 0 < length (queue_of i queues.items) → i < next
below_next queues next idle i busy = elim (cases_lt i next) [
  | inl before ↦ before
  | inr after ↦ absurd (omega (arith, busy, ap (λ (l : List QueuedKey). length l) (idle i after)))
]

module _ {S V : Type 0} (m : Meaning S V) (u : S) (queues : QueuesView) where
  -- the turn of an entry with a queued key
  pub busy_turn : (e : ℕ) → 0 < length (queue_of e queues.items)
      → turn_at m u queues e ≡ turn e (barrier_at m u queues e)
  busy_turn e busy = ap (λ b. selection_if b (turn e (barrier_at m u queues e))) (busy_keys (queue_of e queues.items) busy)

  -- the turn of an entry without one
  pub idle_turn : (e : ℕ) → queue_of e queues.items ≡ [] → turn_at m u queues e ≡ Quiet
  idle_turn e idle = ap (λ l. selection_if (has_keys (keys_of l)) (turn e (barrier_at m u queues e))) idle

  -- no entry from one on and below another has its turn
  abbrev pub AllQuiet : ℕ → ℕ → Type 0
  AllQuiet from n = (e : ℕ) → from ≤ e → e < n → turn_at m u queues e ≡ Quiet

  -- neither has one before the next busy entry
  pub quiet_before : (from next e : ℕ) → AllQuiet from next → IsNextBusy queues next e → AllQuiet from e
  quiet_before from next e quiet found = λ i low high. elim (cases_lt i next) [
    | inl before ↦ quiet i low before
    | inr after ↦ idle_turn i (found.idle_before i after high)
  ]

  -- the first busy entry that has its turn
  pub turn_found : (from next to e : ℕ) → from ≤ next → AllQuiet from next → IsNextBusy queues next e → e < to
      → (selection : Selection) → selection ≡ turn_at m u queues e → tells_nothing selection ≡ false
      → selection ≡ first_selection (turn_at m u queues) (drop from (below to))
  turn_found from next to e low quiet found within selection is tells = is
      ∙ sym (range_found (turn_at m u queues) from to e (omega (arith, low, found.from_here)) within
      (quiet_before from next e quiet found) (ap tells_nothing (sym is) ∙ tells))

  -- if the next busy entry is past the range, no entry of the range has its turn
  pub none_within : (from next to e : ℕ) → AllQuiet from next → IsNextBusy queues next e → to ≤ e
      → first_selection (turn_at m u queues) (drop from (below to)) ≡ Quiet
  none_within from next to e quiet found past =
      range_quiet (turn_at m u queues) from to
      (λ i low high. quiet_before from next e quiet found i low (omega arith))

  -- if there is no further busy entry, no entry of the range has its turn
  pub none_left : (from next to : ℕ) → AllQuiet from next
      → ((e : ℕ) → next ≤ e → queue_of e queues.items ≡ [])
      → first_selection (turn_at m u queues) (drop from (below to)) ≡ Quiet
  none_left from next to quiet idle = range_quiet (turn_at m u queues) from to (λ i low high. elim (cases_lt i next) [
    | inl before ↦ quiet i low before
    | inr after ↦ idle_turn i (idle i after)
  ])
