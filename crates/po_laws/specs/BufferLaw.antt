-- SPDX-License-Identifier: MIT
-- The law of the buffer: first in, first out, within its capacity.
use Rattle.std.specs.Prelude.{ℕ, ◌≡◌, ◌≤◌, ◌+◌, List, ◌++◌, length}
use Rattle.po_history.specs.declared.event.Event.{Event}
use Rattle.po_core.specs.Setup.{Setup}
use Rattle.po_laws.specs.Completed.{opening, values_at}
use Rattle.po_classic_units.specs.Buffer.{BufferState, buffer_meaning}

-- the values of the Puts that the events complete, in their order
abbrev pub values_put : Setup BufferState → List (Event ℕ) → List ℕ
values_put setup events = values_at buffer_meaning setup.max_queue 0 (opening setup) events

-- the values of the Gets that the events complete, in their order
abbrev pub values_got : Setup BufferState → List (Event ℕ) → List ℕ
values_got setup events = values_at buffer_meaning setup.max_queue 1 (opening setup) events

-- The values taken out are the first of those put in, and at most `capacity` more are put in than taken out.
pub record IsFifo (capacity : ℕ) (put got : List ℕ) : Type 0 where
  pub left : List ℕ
  pub first : put ≡ got ++ left
  pub few : length put ≤ length got + capacity

-- This holds at every prefix of the history, whatever the service order and the greatest length of a queue.
abbrev pub BufferIsFifo : Setup BufferState → List (Event ℕ) → Type 0
BufferIsFifo setup events =
    (early late : List (Event ℕ))
    → events ≡ early ++ late
    → IsFifo setup.opening.capacity (values_put setup early) (values_got setup early)
