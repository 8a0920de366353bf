-- What the entry that is serviced next says about the queues.
use Rattle.std.proofs.Common.{◌≡◌, ℕ, ◌<◌, List, map, refl, ap, ◌∙◌, sym, subst, Bool, true, false, Result, Ok, Err}
use Rattle.std.proofs.Common.{Option}
use Rattle.std.specs.List.{All}
use Rattle.std.proofs.lemmas.List.Elements.{All-map, All-weaker}
use Rattle.po_unit.specs.Meaning.{Meaning}
use Rattle.po_queues.specs.QueuedKeys.{QueuesView, IsSound, queue_of, keys_on}
use Rattle.po_queues.specs.Busy.{has_keys}
use Rattle.po_queues.specs.declared.selection.Selection.{Selection}
use Rattle.po_queues.specs.declared.selection.Selection.TheVariants.{Quiet, Ready, Broken}
use Rattle.po_queues.specs.declared.order.Order.{Order}
use Rattle.po_queues.specs.declared.order.Order.TheVariants.{Textual}
use Rattle.po_queues.specs.Turns.{below, examined, turn, first_selection, selection_if}
use Rattle.po_queues.specs.Service.{barrier_at, turn_at, serviced_next, IsQueuedAt, Tells}
use Rattle.po_queues.proofs.ExaminedLemmas.{mapped_each, examined_covers, examined_range, closed, none_each}
use Rattle.po_queues.proofs.ExaminedLemmas.{first_selection_each}
use Rattle.po_queues.proofs.StampLemmas.{each_item, busy_each}
use Rattle.po_queues.proofs.TurnLemmas.{busy_turn, keys_busy}

module _ {S V : Type 0} (m : Meaning S V) (u : S) (queues : QueuesView) where
  -- the entries of the queued keys, in order of arrival
  abbrev queued : List ℕ
  queued = map (λ x. x.entry) queues.items

  -- all of them are entries
  in_range : IsSound queues → All (λ e. e < queues.total) queued
  in_range sound = All-map (λ e. e < queues.total) (λ x. x.entry) queues.items sound.entries

  -- what an entry's turn says
  abbrev Found : Selection → Type 0
  Found Quiet = Unit {0}
  Found (Ready e) = IsQueuedAt m u queues e (Ok true)
  Found (Broken e) = (k : ℕ) × IsQueuedAt m u queues e (Err k)

  -- what the entry's barrier says
  found_at : (e : ℕ) → e < queues.total → (b : Bool) (barrier : Result Bool ℕ)
      → has_keys (keys_on e queues.items) ≡ b → barrier_at m u queues e ≡ barrier → Found (selection_if b (turn e barrier))
  found_at e lt false barrier has is = tt
  found_at e lt true (Ok true) has is =
      record { within = lt; queued = keys_busy (queue_of e queues.items) has; barrier_is = is }
  found_at e lt true (Ok false) has is = tt
  found_at e lt true (Err k) has is =
      (k, record { within = lt; queued = keys_busy (queue_of e queues.items) has; barrier_is = is })

  -- what the first of the examined entries that has its turn says
  found_next : (order : Order) (last : Option ℕ) → IsSound queues → Found (serviced_next m u queues order last)
  found_next order last sound =
      first_selection_each (turn_at m u queues) Found tt (examined order last queues.total queued)
      (All-weaker (λ e. e < queues.total) (λ e. Found (turn_at m u queues e))
      (λ e lt. found_at e lt (has_keys (keys_on e queues.items)) (barrier_at m u queues e) refl refl)
      (examined order last queues.total queued) (examined_range order last queues.total queued (in_range sound)))

  -- what is serviced next meets what its selection says
  pub tells : (order : Order) (last : Option ℕ) → IsSound queues → (selection : Selection)
      → selection ≡ serviced_next m u queues order last → Tells m u queues selection
  tells order last sound Quiet is =
      let T : ℕ → Type 0 = λ e. turn_at m u queues e ≡ Quiet in
      let none = none_each (turn_at m u queues) (examined order last queues.total queued) (sym is) in
      let all = mapped_each T (λ x. x.entry) queues.items
      (examined_covers T order last queues.total queued (in_range sound) none) in
      each_item (λ i. barrier_at m u queues i ≡ Ok false) queues.items (λ i busy.
      closed i (barrier_at m u queues i) (sym (busy_turn m u queues i busy) ∙ busy_each T queues.items all i busy))
  tells order last sound (Ready e) is = subst Found (sym is) (found_next order last sound)
  tells order last sound (Broken e) is = subst Found (sym is) (found_next order last sound)

  -- so does the first of all entries by rising number
  pub tells_textual : (last : Option ℕ) → IsSound queues → (n : ℕ) → n ≡ queues.total → (selection : Selection)
      → selection ≡ first_selection (turn_at m u queues) (below n) → Tells m u queues selection
  tells_textual last sound n all selection is =
      tells Textual last sound selection (is ∙ ap (λ k. first_selection (turn_at m u queues) (below k)) all)
