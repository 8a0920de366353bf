-- SPDX-License-Identifier: MIT
-- The history of a protected object since it was last cut, and the volumes that were cut off before (this project's own).
use Rattle.std.specs.Prelude.{ℕ, ◌≡◌, ◌+◌, ◌-◌, List, [], ◌∷◌, ◌++◌, length, nat_lt, Option, None, slice_index_or}
use Rattle.std.specs.Prelude.{if◌then◌else◌}
use Rattle.po_calls.specs.declared.end.End.{End}
use Rattle.po_history.specs.declared.event.Event.{Event}

-- A part of a history that was cut off, with the place of its first event in the whole history (this project's own).
pub record VolumeView (V : Type 0) : Type 0 where
  pub first_place : ℕ
  pub events : List (Event V)

-- What contracts see of a history (this project's own).
pub record HistoryView (V : Type 0) : Type 0 where
  -- The number of the first call.
  pub first_number : ℕ
  -- The place in the whole history of the first event since the last cut.
  pub place : ℕ
  -- The events since the last cut.
  pub events : List (Event V)
  -- How many further events have room, so that they take no memory.
  pub owed : ℕ
  -- For each call from the first on, how it ended, if it has.
  pub outcomes : List (Option (End V))

module _ {V : Type 0} where
  -- The place of the next event (this project's own).
  abbrev pub next_place : HistoryView V → ℕ
  next_place history = history.place + length history.events

  -- How the call with this number ended, if it has (this project's own).
  abbrev pub outcome_of : HistoryView V → ℕ → Option (End V)
  outcome_of history n =
      if nat_lt n history.first_number then None
      else slice_index_or history.outcomes (n - history.first_number) None

  -- The events of these volumes, one volume after the other (this project's own).
  abbrev pub joined : List (VolumeView V) → List (Event V)
  joined [] = []
  joined (volume ∷ volumes) = volume.events ++ joined volumes

  -- The volumes follow one another without a gap, from the first place to the second (this project's own).
  abbrev pub RunOn : ℕ → List (VolumeView V) → ℕ → Type 0
  RunOn from [] to = from ≡ to
  RunOn from (volume ∷ volumes) to =
      (volume.first_place ≡ from) × RunOn (from + length volume.events) volumes to

  -- These volumes run without a gap from the place to the present events (this project's own).
  abbrev pub AreVolumesOf : ℕ → List (VolumeView V) → HistoryView V → Type 0
  AreVolumesOf from volumes history = RunOn from volumes history.place

  -- All events from the start: those of the volumes, then the present ones (this project's own).
  abbrev pub all_events : List (VolumeView V) → HistoryView V → List (Event V)
  all_events volumes history = joined volumes ++ history.events
