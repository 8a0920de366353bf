-- SPDX-License-Identifier: MIT
-- A client of a driven object whose data, barriers and bodies are a unit's, and what it does in turn (9.5.1 to 9.5.4).
use Rattle.std.specs.Prelude.{ℕ, ◌≡◌, ◌<◌, List, [], ◌∷◌, Bool, true, false, Result, Ok, Err, Some}
use Rattle.po_unit.specs.Meaning.{Meaning}
use Rattle.po_unit.specs.declared.outcome.Outcome.{Outcome}
use Rattle.po_unit.specs.declared.outcome.Outcome.TheVariants.{Complete, Raise, Requeue as RequeueTo}
use Rattle.po_calls.specs.declared.call.Call.{Call}
use Rattle.po_calls.specs.declared.call.Deadline.{Deadline}
use Rattle.po_calls.specs.declared.ticket.Ticket.{Ticket}
use Rattle.po_engine.specs.ObjectState.{ObjectState, counts_in, barrier_in}
use Rattle.po_engine.specs.declared.arriving.Arriving.{Arriving}
use Rattle.po_driven.specs.DrivenView.{DrivenView, IsDriven, MayIssue}
use Rattle.po_driven.specs.Answering.{WaitsForNext}
use Rattle.po_driven.specs.Steps.{Attempts, EndsBody, Evaluates, Finalizes, GoesOn, Issues}
use Rattle.po_driven.specs.DrivenCallsView.{led_by}
use Rattle.po_driven.specs.declared.action.Action.{Action}
use Rattle.po_driven.specs.declared.action.Action.TheVariants.{NoMemory, Refused}
use Rattle.po_driven.specs.declared.phase.Phase.TheVariants.{Asked, Resting}
use Rattle.po_driven.specs.declared.words.Barrier.{Barrier}
use Rattle.po_driven.specs.declared.words.Barrier.TheVariants.{Closed, Open, Raised}
use Rattle.po_driven.specs.declared.words.BodyEnd.{BodyEnd}
use Rattle.po_driven.specs.declared.words.BodyEnd.TheVariants.{Completed, Requeued}
use Rattle.po_driven.specs.declared.words.Cancellation.{Cancellation}
use Rattle.po_driven.specs.declared.words.NamedCall.{NamedCall}

-- what the client says of a barrier (9.5.2, 9.5.3)
abbrev pub said : Result Bool ℕ → Barrier
said (Ok true) = Open
said (Ok false) = Closed
said (Err k) = Raised

-- how the client says that a body ended: it hands an exception or a result to the caller itself (9.5.2, 9.5.4)
abbrev pub ended_with : Outcome ℕ → BodyEnd
ended_with (Complete v) = Completed
ended_with (Raise k) = Completed
ended_with (RequeueTo target with_abort v) = Requeued (record { target = target; with_abort = with_abort; aborted = false; due = false })

-- The client knows a call's caller by the call's value, so a requeue keeps that value (9.5.4).
abbrev pub KeepsValue : ℕ → Outcome ℕ → Type 0
KeepsValue v (Complete w) = Unit {0}
KeepsValue v (Raise k) = Unit {0}
KeepsValue v (RequeueTo target with_abort w) = w ≡ v

-- Each body of the unit keeps that value when it requeues.
abbrev pub KeepsCallers : {S : Type 0} → Meaning S ℕ → Type 0
KeepsCallers {S} m = (u : S) (e v : ℕ) (counts : List ℕ) → KeepsValue v (m.body u e v counts).1

-- an entry call as it arrives, with its deadline: a conditional one is due at once (9.5.3, 9.7.2, 9.7.3)
abbrev pub entry_call : ℕ → ℕ → Deadline → Arriving ℕ
entry_call e v deadline = record { entry = e; value = v; without_abort = false; aborted = false; deadline = deadline }

-- The client's data, and its object.
pub record Moment (S : Type 0) : Type 0 where
  pub unit : S
  pub object : DrivenView

-- What the client does in turn.
pub data Turn : Type 0 where
  -- a call of this entry arrives with this value, and the client says what the barrier says (9.5.3)
  issues : ℕ → ℕ → Deadline → Turn
  -- this procedure runs with this value, and the client asks for what is next (9.5.1)
  runs : ℕ → ℕ → Turn
  -- the client says what the barrier says that it was asked for (9.5.2)
  evaluates : Turn
  -- the client runs the body of the call in service, and says how it ended (9.5.2, 9.5.4)
  ends_body : Turn
  -- the client asks for what is next
  goes_on : Turn
  -- an attempt is made to cancel the queued call of the ticket, since its time has come or since its caller was aborted, and
  -- this is the result (9.5.3, 9.7.2, 9.8)
  cancels : Ticket → Bool → Cancellation → Turn
  -- the object is finalized (9.4)
  finalizes : Turn

-- The turn is carried out. A turn that is refused, or finds no memory, changes nothing and is left out.
abbrev pub IsCarriedOut : Action → Type 0
IsCarriedOut NoMemory = ⊥
IsCarriedOut Refused = ⊥
IsCarriedOut other = Unit {0}

-- A command may begin on an object that isn't finalized (9.4, 9.5.1).
pub record MayBegin (d : DrivenView) : Type 0 where
  pub resting : d.phase ≡ Resting
  pub alive : d.calls.object.state.finalized ≡ false

module _ {S : Type 0} (m : Meaning S ℕ) where
  -- the unit's object at this moment: the client's data, with the calls that there are
  abbrev pub unit_object : Moment S → ObjectState S ℕ
  unit_object c =
      let s = c.object.calls.object.state in
      record { unit = c.unit; waiting = s.waiting; ended = (led_by c.object.calls).state.ended; next = s.next; clock = s.clock; finalized = s.finalized }

  -- A turn leads from a moment to the next one, if the engine answers with this action: the client says what the unit's
  -- barriers and bodies give.
  abbrev pub Takes : Turn → Action → NamedCall → ObjectState S ℕ → Moment S → Moment S → Type 0
  Takes (issues e v deadline) action step now old new =
      MayIssue old.object e × Issues (entry_call e v deadline) (said (barrier_in m now e)) step old.object new.object action × (new.unit ≡ old.unit)
  Takes (runs op v) action step now old new =
      MayBegin old.object × (op < m.procedures old.unit) × GoesOn step old.object new.object action × (new.unit ≡ (m.procedure old.unit op v (counts_in m now)).0)
  Takes evaluates action step now old new =
      (e : ℕ) × (old.object.phase ≡ Asked e) × Evaluates (said (barrier_in m now e)) step old.object new.object action × (new.unit ≡ old.unit)
  Takes ends_body action step now old new =
      (x : Call ℕ) × (old.object.calls.object.serving ≡ Some x)
      × EndsBody (ended_with (m.body old.unit x.entry x.value (counts_in m now)).1) step old.object new.object action
      × (new.unit ≡ (m.body old.unit x.entry x.value (counts_in m now)).0)
  Takes goes_on action step now old new =
      WaitsForNext old.object.phase × GoesOn step old.object new.object action × (new.unit ≡ old.unit)
  Takes (cancels ticket expired what) action step now old new =
      MayBegin old.object × Attempts ticket expired old.object new.object what × (new.unit ≡ old.unit)
  Takes finalizes action step now old new =
      MayBegin old.object × Finalizes step old.object new.object action × (new.unit ≡ old.unit)

-- One turn of a client: what it did, what it was answered, and the moment after it.
pub record Taken (S : Type 0) : Type 0 where
  pub turn : Turn
  pub action : Action
  pub step : NamedCall
  pub after : Moment S

module _ {S : Type 0} (m : Meaning S ℕ) where
  -- The turns lead on from this moment, one after another.
  abbrev pub IsRun : Moment S → List (Taken S) → Type 0
  IsRun c [] = Unit {0}
  IsRun c (t ∷ ts) = IsDriven t.after.object × IsCarriedOut t.action × Takes m t.turn t.action t.step (unit_object m c) c t.after × IsRun t.after ts

-- the moment to which the turns lead
abbrev pub last : {S : Type 0} → Moment S → List (Taken S) → Moment S
last c [] = c
last c (t ∷ ts) = last t.after ts
