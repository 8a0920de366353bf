-- SPDX-License-Identifier: MIT
-- Which entry is serviced next.
use Rattle.std.specs.Prelude.{ℕ, ◌≡◌, ◌<◌, Bool, true, false, Result, Ok, Err, List, length, map, Option}
use Rattle.std.specs.List.{All}
use Rattle.po_unit.specs.Meaning.{Meaning}
use Rattle.po_queues.specs.QueuedKeys.{QueuesView, queue_of, keys_on}
use Rattle.po_queues.specs.Busy.{has_keys}
use Rattle.po_queues.specs.declared.selection.Selection.{Selection}
use Rattle.po_queues.specs.declared.selection.Selection.TheVariants.{Quiet, Ready, Broken}
use Rattle.po_queues.specs.declared.order.Order.{Order}
use Rattle.po_queues.specs.Turns.{below, examined, turn, first_selection, selection_if}

-- For each entry, in the order of their numbers, how many keys are queued on it: the attribute Count (9.9).
abbrev pub counts_of : QueuesView → List ℕ
counts_of queues = map (λ e. length (queue_of e queues.items)) (below queues.total)

module _ {S V : Type 0} where
  -- Whether the entry is open, or the number of the exception that its barrier propagates (9.5.2, 9.5.3).
  abbrev pub barrier_at : Meaning S V → S → QueuesView → ℕ → Result Bool ℕ
  barrier_at m u queues e = m.barrier u e (counts_of queues)

  -- The turn of an entry, if a key is queued on it and it isn't closed (9.5.3).
  abbrev pub turn_at : Meaning S V → S → QueuesView → ℕ → Selection
  turn_at m u queues e = selection_if (has_keys (keys_on e queues.items)) (turn e (barrier_at m u queues e))

  -- Which entry is serviced next, if one is: the first of the examined entries that has its turn (9.5.3).
  abbrev pub serviced_next : Meaning S V → S → QueuesView → Order → Option ℕ → Selection
  serviced_next m u queues order last =
      first_selection (turn_at m u queues) (examined order last queues.total (map (λ x. x.entry) queues.items))

  -- A key is queued on the entry, and the entry's barrier is this.
  pub record IsQueuedAt (m : Meaning S V) (u : S) (queues : QueuesView) (e : ℕ) (barrier : Result Bool ℕ) : Type 0 where
    pub within : e < queues.total
    pub queued : 0 < length (queue_of e queues.items)
    pub barrier_is : barrier_at m u queues e ≡ barrier

  -- What each selection says: each queued key is on a closed entry; or an entry with a queued key is open; or the barrier of
  -- such an entry propagates an exception (9.5.3).
  abbrev pub Tells : Meaning S V → S → QueuesView → Selection → Type 0
  Tells m u queues Quiet = All (λ x. barrier_at m u queues x.entry ≡ Ok false) queues.items
  Tells m u queues (Ready e) = IsQueuedAt m u queues e (Ok true)
  Tells m u queues (Broken e) = (k : ℕ) × IsQueuedAt m u queues e (Err k)
