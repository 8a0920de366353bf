-- SPDX-License-Identifier: MIT
-- The law of the allocator: no more is taken than there is, and no more is given back than is taken.
use Rattle.std.specs.Prelude.{ℕ, ◌≡◌, ◌≤◌, ◌+◌, List, [], ◌∷◌, ◌++◌, Ok, sum}
use Rattle.po_history.specs.declared.event.Event.{Event}
use Rattle.po_history.specs.declared.event.Event.TheVariants.{Procedure}
use Rattle.po_core.specs.Setup.{Setup}
use Rattle.po_core.specs.Public.{AllPublic}
use Rattle.po_laws.specs.Completed.{opening, all_values}
use Rattle.po_classic_units.specs.Allocator.{AllocatorState, allocator_meaning, allocator_declarations}

-- these values, with that of the event in front if it is a Release that replied with a value
abbrev pub with_release : Event ℕ → List ℕ → List ℕ
with_release (Procedure owner op v (Ok w)) values = v ∷ values
with_release other values = values

-- the values of the Releases that replied with a value, in their order; Release is the only procedure
abbrev pub values_released : List (Event ℕ) → List ℕ
values_released [] = []
values_released (event ∷ events) = with_release event (values_released events)

-- the values of the calls that the events complete, in their order
abbrev pub values_granted : Setup AllocatorState → List (Event ℕ) → List ℕ
values_granted setup events = all_values allocator_meaning setup.max_queue (opening setup) events

-- What is granted less what is released is from 0 to the size.
pub record StaysWithin (size granted released : ℕ) : Type 0 where
  pub none_missing : released ≤ granted
  pub none_over : granted ≤ released + size

-- This holds at every prefix of the history, if each call was issued on Request or Claim: Grant is private.
abbrev pub AllocatorStaysWithin : Setup AllocatorState → List (Event ℕ) → Type 0
AllocatorStaysWithin setup events =
    AllPublic (allocator_declarations setup.opening.size) events
    → (early late : List (Event ℕ))
    → events ≡ early ++ late
    → StaysWithin setup.opening.size (sum (values_granted setup early)) (sum (values_released early))
