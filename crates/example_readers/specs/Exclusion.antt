-- SPDX-License-Identifier: MIT
-- The law of readers and writers: a writer is never inside with a reader, nor with another writer.
use Rattle.std.specs.Prelude.{ℕ, ◌≡◌, ◌≤◌, ◌<◌, ◌+◌, ◌==◌, List, [], ◌∷◌, ◌++◌, length, Bool, false, Ok, if◌then◌else◌}
use Rattle.po_history.specs.declared.event.Event.{Event}
use Rattle.po_history.specs.declared.event.Event.TheVariants.{Procedure}
use Rattle.po_core.specs.Setup.{Setup}
use Rattle.po_laws.specs.Completed.{opening, values_at}
use Rattle.example_readers.specs.ReadersWriters.{ReadersWritersState, readers_writers_meaning}

-- how many calls on the entry the events complete
abbrev pub entered : Setup ReadersWritersState → ℕ → List (Event ℕ) → ℕ
entered setup e events = length (values_at readers_writers_meaning setup.max_queue e (opening setup) events)

-- whether the event is a run of this procedure that raised no exception
abbrev pub has_left : ℕ → Event ℕ → Bool
has_left op (Procedure owner p v (Ok w)) = p == op
has_left op other = false

-- how many of the events are such runs
abbrev pub left : ℕ → List (Event ℕ) → ℕ
left op [] = 0
left op (event ∷ events) = (if has_left op event then 1 else 0) + left op events

-- If these numbers of readers and writers went in and came out: no one comes out who isn't inside, at most one writer is
-- inside, and while one is, no reader is.
pub record Excludes (reads reads_done writes writes_done : ℕ) : Type 0 where
  pub readers_out : reads_done ≤ reads
  pub writers_out : writes_done ≤ writes
  pub one_writer : writes ≤ writes_done + 1
  pub alone : writes_done < writes → reads ≡ reads_done

-- At every prefix of the history: readers go in by Read, entry 0, and come out by procedure 0; a writer goes in by Turn, entry
-- 2, and comes out by procedure 1.
abbrev pub WritersAreAlone : Setup ReadersWritersState → List (Event ℕ) → Type 0
WritersAreAlone setup events =
    (early late : List (Event ℕ))
    → events ≡ early ++ late
    → Excludes (entered setup 0 early) (left 0 early) (entered setup 2 early) (left 1 early)
