-- SPDX-License-Identifier: MIT
-- The values with which calls complete, read off a history from the opening of an object.
use Rattle.std.specs.Prelude.{ℕ, ◌==◌, List, [], ◌∷◌, ◌++◌, Bool, false, Option, if◌then◌else◌}
use Rattle.po_unit.specs.Meaning.{Meaning}
use Rattle.po_engine.specs.declared.ended.Ended.{Ended}
use Rattle.po_calls.specs.declared.end.End.{End}
use Rattle.po_calls.specs.declared.end.End.TheVariants.{Completed}
use Rattle.po_history.specs.declared.event.Event.{Event}
use Rattle.po_history.specs.declared.event.Event.TheVariants.{Issue, Serve}
use Rattle.po_core.specs.Setup.{Setup}
use Rattle.po_engine.specs.ObjectState.{ObjectState, opening_state}
use Rattle.po_engine.specs.Step.{step}
use Rattle.po_core.specs.View.{newly_ended}

-- these values, with that of the end in front if the call completed
abbrev pub with_value : {V : Type 0} → End V → List V → List V
with_value (Completed v) values = v ∷ values
with_value other values = values

-- the values of those calls that completed, in their order
abbrev pub values_of : {V : Type 0} → List (Ended V) → List V
values_of [] = []
values_of (x ∷ xs) = with_value x.end (values_of xs)

-- whether the event issues a call on the entry or serves the entry
abbrev pub is_at : {V : Type 0} → ℕ → Event V → Bool
is_at e (Issue n owner f v d) = f == e
is_at e (Serve f) = f == e
is_at e other = false

module _ {S V : Type 0} where
  -- the state in which an object with this setup begins
  abbrev pub opening : Setup S → ObjectState S V
  opening setup = opening_state setup.opening setup.first_number

  -- the values with which the event completes calls
  abbrev pub completed_by : Meaning S V → Option ℕ → ObjectState S V → Event V → List V
  completed_by m limit s event = values_of (newly_ended m limit s (event ∷ []))

  -- the values with which the event completes calls, if it is one of the entry
  abbrev pub completed_at : Meaning S V → Option ℕ → ℕ → ObjectState S V → Event V → List V
  completed_at m limit e s event = if is_at e event then completed_by m limit s event else []

  -- the values with which calls complete on the entry, in the order of the events that complete them
  abbrev pub values_at : Meaning S V → Option ℕ → ℕ → ObjectState S V → List (Event V) → List V
  values_at m limit e s [] = []
  values_at m limit e s (event ∷ events) = completed_at m limit e s event ++ values_at m limit e (step m limit s event) events

  -- the values with which calls complete on any entry, in the order of the events that complete them
  abbrev pub all_values : Meaning S V → Option ℕ → ObjectState S V → List (Event V) → List V
  all_values m limit s [] = []
  all_values m limit s (event ∷ events) = completed_by m limit s event ++ all_values m limit (step m limit s event) events
