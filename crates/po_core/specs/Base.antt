-- SPDX-License-Identifier: MIT
-- What the present history replays from: the state that all events before it led to, and what has to be known about them.
use Rattle.std.specs.Prelude.{ℕ, List, [], ◌∷◌, Bool, true, false, Option, None, take, if◌then◌else◌}
use Rattle.po_calls.specs.declared.call.Call.{Call}
use Rattle.po_history.specs.declared.event.Event.{Event}
use Rattle.po_history.specs.declared.event.Event.TheVariants.{Issue, Procedure}
use Rattle.po_engine.specs.declared.ended.Ended.{Ended}
use Rattle.po_engine.specs.WaitingCalls.{has_number}
use Rattle.po_engine.specs.ObjectState.{ObjectState}

-- A base. Until a history is cut, it is the opening of the object.
pub record Base (S V : Type 0) : Type 0 where
  pub unit : S
  -- the calls that waited, in order of arrival
  pub waiting : List (Call V)
  -- for each of them, the place in the history at which it arrived
  pub arrivals : List ℕ
  -- how many calls had ended
  pub ended : ℕ
  pub next : ℕ
  pub clock : ℕ
  pub finalized : Bool
  -- the place of the first event from here on
  pub place : ℕ
  -- how many procedures had run
  pub ran : ℕ
  -- the entry that was served last, if any was
  pub last : Option ℕ

-- whether a call was issued (9.5.3)
abbrev pub is_issue : {V : Type 0} → Event V → Bool
is_issue (Issue n owner e v deadline) = true
is_issue other = false

-- whether a procedure ran (9.5.1)
abbrev pub is_ran : {V : Type 0} → Event V → Bool
is_ran (Procedure owner op v reply) = true
is_ran other = false

-- the place at which the call with number n arrived, by the calls and their places
abbrev pub arrived_among : {V : Type 0} → List (Call V) → List ℕ → ℕ → ℕ
arrived_among [] places n = 0
arrived_among (x ∷ xs) [] n = 0
arrived_among (x ∷ xs) (k ∷ places) n = if has_number n x then k else arrived_among xs places n

module _ {S V : Type 0} where
  -- the base of an object whose first call gets this number and whose first event has this place
  abbrev pub opening_base : S → ℕ → ℕ → Base S V
  opening_base u first place = record { unit = u; waiting = []; arrivals = []; ended = 0; next = first; clock = 0; finalized = false; place = place; ran = 0; last = None }

  -- the state at the base, if these calls had ended
  abbrev pub state_with : Base S V → List (Ended V) → ObjectState S V
  state_with b ended = record { unit = b.unit; waiting = b.waiting; ended = ended; next = b.next; clock = b.clock; finalized = b.finalized }

  -- the state at the base, given the calls that have ended by now: the first of them are those that had ended at the base
  abbrev pub state_at : Base S V → List (Ended V) → ObjectState S V
  state_at b ended = state_with b (take b.ended ended)

  -- the place at which a call that waited at the base arrived
  abbrev pub arrived : Base S V → ℕ → ℕ
  arrived b n = arrived_among b.waiting b.arrivals n
