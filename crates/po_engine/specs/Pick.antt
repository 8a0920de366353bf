-- SPDX-License-Identifier: MIT
-- Which inner event comes next, by the service order.
use Rattle.std.specs.Prelude.{ℕ, ◌≡◌, ◌+◌, List, [], ◌∷◌, map, true, Ok, Err, Option, Some, None, find, IsSome, ◌<◌, sum_by, option_map, if◌then◌else◌}
use Rattle.std.specs.List.{list_any}
use Rattle.std.specs.Option.{option_or}
use Rattle.po_unit.specs.Meaning.{Meaning}
use Rattle.po_queues.specs.declared.selection.Selection.{Selection}
use Rattle.po_queues.specs.declared.selection.Selection.TheVariants.{Quiet, Ready, Broken}
use Rattle.po_queues.specs.declared.order.Order.{Order}
use Rattle.po_queues.specs.Turns.{turn, first_selection, selection_if, examined}
use Rattle.po_history.specs.declared.event.Event.{Event}
use Rattle.po_history.specs.declared.event.Event.TheVariants.{Issue, Procedure, Cancel, Tick, Finalize, Serve, Break, Expire}
use Rattle.po_engine.specs.WaitingCalls.{has_number, is_on, is_due}
use Rattle.po_engine.specs.ObjectState.{ObjectState, barrier_in, IsQuiet}
use Rattle.po_engine.specs.Step.{step}
use Rattle.po_engine.specs.Finding.{IsFound}

-- the event for a selection: an open entry is served, and a barrier that propagates an exception ends all calls (9.5.3)
abbrev pub event_of : {V : Type 0} → Selection → Option (Event V)
event_of Quiet = None
event_of (Ready e) = Some (Serve e)
event_of (Broken e) = Some (Break e)

-- the entry that was served last, after one more event
abbrev pub served_last : {V : Type 0} → Option ℕ → Event V → Option ℕ
served_last last (Serve e) = Some e
served_last last other = last

-- the entry that was served last, after some more events
abbrev pub last_from : {V : Type 0} → Option ℕ → List (Event V) → Option ℕ
last_from last [] = last
last_from last (event ∷ events) = last_from (served_last last event) events

module _ {S V : Type 0} where
  -- the turn of entry e, if a call is queued on it and it isn't closed
  abbrev pub turn_of : Meaning S V → ObjectState S V → ℕ → Selection
  turn_of m s e = selection_if (list_any (is_on e) s.waiting) (turn e (barrier_in m s e))

  -- the next turn, if any: that of the first examined entry that isn't closed; `last` is the entry that was served last
  abbrev pub next_turn : Meaning S V → Order → Option ℕ → ObjectState S V → Selection
  next_turn m order last s =
      first_selection (turn_of m s) (examined order last (m.entries s.unit) (map (λ x. x.entry) s.waiting))

  -- the inner event that comes next, if any: that of the next turn, or else the first call that is due expires
  abbrev pub pick : Meaning S V → Order → Option ℕ → ObjectState S V → Option (Event V)
  pick m order last s =
      option_or (event_of (next_turn m order last s))
      (option_map (λ x. Expire x.number) (find (is_due s.clock) s.waiting))

  -- Each of the events is the one that comes next.
  abbrev pub ArePicks : Meaning S V → Option ℕ → Order → Option ℕ → ObjectState S V → List (Event V) → Type 0
  ArePicks m limit order last s [] = Unit {0}
  ArePicks m limit order last s (event ∷ events) =
      (pick m order last s ≡ Some event) × ArePicks m limit order (served_last last event) (step m limit s event) events

  -- how many inner events may come at most: each queued call is served once more than it may be requeued
  abbrev pub weight : Meaning S V → ObjectState S V → ℕ
  weight m s = sum_by (λ x. m.rank x.entry x.value + 1) s.waiting

  -- how many further events there has to be room for: each call is served once more than it may be requeued, at most one event
  -- attempts it or lets it expire, and the object may be finalized
  abbrev pub owed : Meaning S V → ObjectState S V → ℕ
  owed m s = sum_by (λ x. m.rank x.entry x.value + (if x.aborted then 1 else 2)) s.waiting + (if s.finalized then 0 else 1)

-- The event is an inner one, and its needs are met.
abbrev pub Fits : {S V : Type 0} → Meaning S V → ObjectState S V → Event V → Type 0
Fits m s (Serve e) = (e < m.entries s.unit) × IsSome (find (is_on e) s.waiting) × (barrier_in m s e ≡ Ok true)
Fits m s (Break e) = (e < m.entries s.unit) × IsSome (find (is_on e) s.waiting) × ((k : ℕ) × (barrier_in m s e ≡ Err k))
Fits m s (Expire n) = IsQuiet m s × IsFound (λ x. is_due s.clock x ≡ true) (find (has_number n) s.waiting)
Fits m s (Issue n owner e v d) = ⊥
Fits m s (Procedure owner op v reply) = ⊥
Fits m s (Cancel n) = ⊥
Fits m s (Tick t) = ⊥
Fits m s Finalize = ⊥
