-- SPDX-License-Identifier: MIT
-- The history of the serial object of the client's unit: what the client did, as events of protected actions (9.4 to 9.5.4,
-- 9.7.2).
use Rattle.std.specs.Prelude.{ℕ, ◌≡◌, List, [], ◌∷◌, ◌++◌, Bool, false, map, find, if◌then◌else◌, Option, Some, None}
use Rattle.po_unit.specs.Meaning.{Meaning}
use Rattle.po_calls.specs.declared.call.Call.{Call}
use Rattle.po_calls.specs.declared.end.End.{End}
use Rattle.po_calls.specs.declared.end.End.TheVariants.{Cancelled as IsCancelled, Completed, ProgramError as HasProgramError, Raised}
use Rattle.po_engine.specs.declared.ended.Ended.{Ended}
use Rattle.po_engine.specs.WaitingCalls.{has_number, is_due}
use Rattle.po_history.specs.declared.event.Event.{Event}
use Rattle.po_history.specs.declared.event.Event.TheVariants.{Cancel, Break, Expire, Finalize, Issue, Procedure, Serve}
use Rattle.po_engine.specs.ObjectState.{IsAtRest, ObjectState, counts_in, opening_state}
use Rattle.po_queues.specs.declared.order.Order.TheVariants.{Textual}
use Rattle.po_engine.specs.Pick.{pick}
use Rattle.po_engine.specs.Step.{IsLegal, replay, run_body, step}
use Rattle.po_driven.specs.DrivenView.{at_opening}
use Rattle.po_driven.specs.DrivenCallsView.{opening_calls}
use Rattle.po_driven.specs.declared.action.Action.{Action}
use Rattle.po_driven.specs.declared.action.Action.TheVariants.{Cancelled, ProgramError, Run}
use Rattle.po_driven.specs.declared.phase.Phase.{Phase}
use Rattle.po_driven.specs.declared.phase.Phase.TheVariants.{Asked, Resting, Running}
use Rattle.po_driven.specs.declared.words.Cancellation.{Cancellation}
use Rattle.po_driven.specs.declared.words.Cancellation.TheVariants.{Kept, Made}
use Rattle.po_laws.specs.Client.{IsRun, Moment, Taken, Turn, cancels, evaluates, finalizes, issues, last, runs, unit_object}

-- the expiration of the call, if there is one (9.7.2)
abbrev pub expiration_of : Option (Call ℕ) → List (Event ℕ)
expiration_of None = []
expiration_of (Some x) = Expire x.number ∷ []

-- the fault of the barrier that was asked for (9.5.3)
abbrev pub fault_of : Phase → List (Event ℕ)
fault_of (Asked e) = Break e ∷ []
fault_of other = []

-- the result of an attempt to cancel the call with this number, which is `queued`: it is cancelled, or it is marked as aborted
-- if it isn't yet (9.5.3, 9.5.4)
abbrev pub attempt_of : Cancellation → Bool → ℕ → Option (Call ℕ) → List (Event ℕ)
attempt_of Made expired n queued = Cancel n ∷ []
attempt_of Kept false n (Some x) = if x.aborted then [] else Cancel n ∷ []
attempt_of other expired n queued = []

-- what the barrier that was asked for leads to, if this is the answer: a call is selected, all queued calls end, or a due call
-- is cancelled (9.5.3, 9.7.2)
abbrev pub evaluation : {S : Type 0} → Action → Phase → ObjectState S ℕ → List (Event ℕ)
evaluation (Run e) phase s = Serve e ∷ []
evaluation ProgramError phase s = fault_of phase
evaluation Cancelled phase s = expiration_of (find (is_due s.clock) s.waiting)
evaluation other phase s = []

module _ {S : Type 0} (m : Meaning S ℕ) where
  -- the events of one turn; a body belongs to the event that served its call
  abbrev pub events_of : Turn → Action → Phase → ObjectState S ℕ → List (Event ℕ)
  events_of (issues e v deadline) action phase s = Issue s.next 0 e v deadline ∷ []
  events_of (runs op v) action phase s = Procedure 0 op v (m.procedure s.unit op v (counts_in m s)).1 ∷ []
  events_of evaluates action phase s = evaluation action phase s
  events_of (cancels ticket expired what) action phase s = attempt_of what expired ticket.number (find (has_number ticket.number) s.waiting)
  events_of finalizes action phase s = Finalize ∷ []
  events_of other action phase s = []

  -- the events of all turns
  abbrev pub history : Moment S → List (Taken S) → List (Event ℕ)
  history c [] = []
  history c (t ∷ ts) = events_of t.turn t.action c.object.phase (unit_object m c) ++ history t.after ts

module _ {S : Type 0} (m : Meaning S ℕ) where
  -- An inner event is the one that follows if the first entry that isn't closed is serviced, in the order of their numbers
  -- (9.5.3, D.4; the order is this project's own).
  abbrev pub IsNext : ObjectState S ℕ → Event ℕ → Type 0
  IsNext s (Serve e) = pick m Textual None s ≡ Some (Serve e)
  IsNext s (Break e) = pick m Textual None s ≡ Some (Break e)
  IsNext s (Expire n) = pick m Textual None s ≡ Some (Expire n)
  IsNext s other = Unit {0}

  -- Each of the events is the next one.
  abbrev pub AreNext : ObjectState S ℕ → List (Event ℕ) → Type 0
  AreNext s [] = Unit {0}
  AreNext s (event ∷ events) = IsNext s event × AreNext (step m None s event) events

-- what a driven object knows of how a call ended: a result or an exception is told to the caller by the client itself
abbrev pub as_known : End ℕ → End ℕ
as_known (Completed v) = Completed 0
as_known (Raised k) = Completed 0
as_known IsCancelled = IsCancelled
as_known HasProgramError = HasProgramError

-- a call that has ended, as far as a driven object knows of it
abbrev pub known : Ended ℕ → Ended ℕ
known x = record x { end = as_known x.end }

-- The two states are the same: they have the same data and the same queued calls, and their calls have ended in the same order
-- and in the same way, except for the results of the bodies.
pub record IsSame {S : Type 0} (s t : ObjectState S ℕ) : Type 0 where
  pub state : s ≡ record t { ended = s.ended }
  pub ended : map known s.ended ≡ map known t.ended

-- a driven object that was just made, with the data of the unit
abbrev pub opening_moment : {S : Type 0} → Meaning S ℕ → S → ℕ → Bool → Moment S
opening_moment m u most is_fixed = record { unit = u; object = at_opening (opening_calls (m.entries u) most is_fixed) (m.entries u) }

module _ {S : Type 0} (m : Meaning S ℕ) (u : S) where
  -- What a client with this unit did is a history of serial protected actions of the unit, in textual order. When the driven
  -- object rests, the serial object is at rest with the same data and calls. When the client runs a body, the serial object
  -- runs it on the same data, for the same call.
  pub record IsSerial (c : Moment S) (events : List (Event ℕ)) : Type 0 where
    pub legal : IsLegal m None (opening_state u 1) events
    pub next : AreNext m (opening_state u 1) events
    pub rests : c.object.phase ≡ Resting → IsAtRest m (unit_object m c) × IsSame (replay m None (opening_state u 1) events) (unit_object m c)
    pub serves : (x : Call ℕ) → c.object.phase ≡ Running → c.object.calls.object.serving ≡ Some x → IsSame (replay m None (opening_state u 1) events) (run_body m None (unit_object m c) x)

  -- This holds after all turns of each such client.
  abbrev pub DrivesSerially : Type 0
  DrivesSerially =
      (most : ℕ) (is_fixed : Bool) (turns : List (Taken S)) → IsRun m (opening_moment m u most is_fixed) turns
      → IsSerial (last (opening_moment m u most is_fixed) turns) (history m (opening_moment m u most is_fixed) turns)
