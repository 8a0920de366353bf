-- SPDX-License-Identifier: MIT
-- Functions that do several steps, for calls of open entries and for calls that arrive while none is queued: the objects in
-- between, to which the contracts of the steps lead (9.5.2 to 9.5.4, 9.7.3).
use Rattle.std.specs.Prelude.{ℕ, ◌≡◌, ◌≢◌, ◌<◌, ◌+◌, [], Bool, true, false}
use Rattle.po_engine.specs.declared.arriving.Arriving.{Arriving}
use Rattle.po_engine.specs.Driving.{new_call}
use Rattle.po_engine.specs.Tickets.{uncollected}
use Rattle.po_engine.specs.WaitingCalls.{is_due}
use Rattle.po_driven.specs.Answering.{is_cancelled, is_withdrawn}
use Rattle.po_driven.specs.DrivenView.{AcceptsCalls, DrivenView, IsDriven, KeepsAll, KeepsSetup, MayIssue}
use Rattle.po_driven.specs.Noted.{IsNoRequeue}
use Rattle.po_driven.specs.Steps.{EndsBody, Evaluates, GoesOn, Issues}
use Rattle.po_driven.specs.declared.action.Action.{Action}
use Rattle.po_driven.specs.declared.action.Action.TheVariants.{Rest, Run, Queued, Cancelled, NoMemory, Refused}
use Rattle.po_driven.specs.declared.words.Barrier.TheVariants.{Closed, Open}
use Rattle.po_driven.specs.declared.words.BodyEnd.{BodyEnd}
use Rattle.po_driven.specs.declared.words.BodyEnd.TheVariants.{Completed, Requeued}
use Rattle.po_driven.specs.declared.words.NamedCall.{NamedCall}
use Rattle.po_driven.specs.declared.words.Requeue.{Requeue}

-- A call is accepted even if its body has run already: calls are accepted, and a second place is left, for a requeue.
pub record MayServe (d : DrivenView) : Type 0 where
  pub accepts : AcceptsCalls d
  pub second : d.calls.place + 1 < 340_282_366_920_938_463_463_374_607_431_768_211_455

-- An object that is asked to be ready says whether it is, or that it has no memory.
abbrev pub SaysReady : Action → Type 0
SaysReady Rest = Unit {0}
SaysReady NoMemory = Unit {0}
SaysReady Refused = Unit {0}
SaysReady other = ⊥

-- An object makes room for a call whose body will have run when the client reports the call: nothing else changes.
pub record MakesReady (old new : DrivenView) (action : Action) : Type 0 where
  pub kept : KeepsAll action old new
  pub setup : KeepsSetup old new
  pub says : SaysReady action
  pub ready : action ≡ Rest → MayServe new
  pub roomy : action ≡ Rest → uncollected new.calls.object.tickets < new.calls.object.capacity
  pub accepted : MayServe old → action ≢ Refused
  pub refused : (MayServe old → ⊥) → action ≡ Refused
  pub room : uncollected old.calls.object.tickets < old.calls.object.capacity → action ≢ NoMemory
  -- if there is room, no memory is taken
  pub taken : uncollected old.calls.object.tickets < old.calls.object.capacity → new.calls.object.capacity ≡ old.calls.object.capacity
  pub same : new ≡ record old { calls = record old.calls { object = record old.calls.object { capacity = new.calls.object.capacity; before = new.calls.object.before } } }

-- The entry to which a body requeued its call within the object exists.
abbrev pub HasTarget : DrivenView → BodyEnd → Type 0
HasTarget d (Requeued r) = r.target < d.calls.object.state.unit
HasTarget d other = Unit {0}

-- The call may have been served: its entry exists, it isn't cancelled before its barrier is looked at, and the entry to which its
-- body requeued it exists.
pub record WasServed (a : Arriving ℕ) (end : BodyEnd) (d : DrivenView) : Type 0 where
  pub may : MayServe d
  pub entry : a.entry < d.calls.object.state.unit
  pub stays : is_withdrawn a ≡ false
  pub target : HasTarget d end

-- A call with an open barrier was issued, and its body has ended in this way. In between there was an object whose client ran the
-- body.
pub record ServesBetween (a : Arriving ℕ) (end : BodyEnd) (step : NamedCall) (old new : DrivenView) (action : Action) : Type 0 where
  pub between : DrivenView
  pub told : NamedCall
  pub driven : IsDriven between
  pub issues : Issues a Open told old between (Run a.entry)
  pub ends : EndsBody end step between new action

-- The step was taken: it wasn't refused, and found memory.
abbrev pub IsTaken : Action → Type 0
IsTaken NoMemory = ⊥
IsTaken Refused = ⊥
IsTaken other = Unit {0}

-- The client reports a call whose barrier was open, and whose body has run and ended in this way (9.5.2, 9.5.3).
pub record Serves (a : Arriving ℕ) (end : BodyEnd) (step : NamedCall) (old new : DrivenView) (action : Action) : Type 0 where
  pub kept : KeepsAll action old new
  pub setup : KeepsSetup old new
  pub accepted : WasServed a end old → action ≢ Refused
  pub refused : (WasServed a end old → ⊥) → action ≡ Refused
  pub room : uncollected old.calls.object.tickets < old.calls.object.capacity → action ≢ NoMemory
  -- only a requeue within the object takes room
  pub needs_none : IsNoRequeue end → action ≢ NoMemory
  pub through : IsTaken action → ServesBetween a end step old new action

-- A call may have been served, requeued by its body to an entry of the object, and served there: no other call is queued, so a
-- requeue to an open entry is served at once. It isn't due, nor cancelled at the requeue (9.5.3, 9.5.4).
pub record MayServeTwice (a : Arriving ℕ) (r : Requeue) (d : DrivenView) : Type 0 where
  pub served : WasServed a Completed d
  pub target : r.target < d.calls.object.state.unit
  pub alone : d.calls.object.state.waiting ≡ []
  pub quiet : r.due ≡ false
  pub kept : is_cancelled r (new_call d.calls.object.state.next a) ≡ false

-- A call with an open barrier was issued, its body has requeued it, the client was asked for the barrier of its new entry, which
-- was open, and the body there has completed it. Then the object was at rest.
pub record ServesTwiceBetween (a : Arriving ℕ) (r : Requeue) (old new : DrivenView) : Type 0 where
  pub first : DrivenView
  pub queued : DrivenView
  pub second : DrivenView
  pub told : NamedCall
  pub ticket : NamedCall
  pub named : NamedCall
  pub driven : IsDriven first × IsDriven queued × IsDriven second
  pub issues : Issues a Open told old first (Run a.entry)
  pub requeues : EndsBody (Requeued r) ticket first queued (Queued r.target)
  pub answers : Evaluates Open named queued second (Run r.target)
  pub ends : EndsBody Completed named second new Rest

-- The client reports a call that was served, requeued by its body to an open entry of the object, and completed there (9.5.2 to
-- 9.5.4).
pub record ServesTwice (a : Arriving ℕ) (r : Requeue) (old new : DrivenView) (is_told : Bool) : Type 0 where
  pub kept : is_told ≡ false → new ≡ old
  pub setup : KeepsSetup old new
  pub accepted : MayServeTwice a r old → is_told ≡ true
  pub may : is_told ≡ true → MayServeTwice a r old
  pub through : is_told ≡ true → ServesTwiceBetween a r old new

-- A call arrives alone: it is accepted, no call is queued, and it isn't cancelled before its barrier is looked at.
pub record ArrivesAlone (a : Arriving ℕ) (d : DrivenView) : Type 0 where
  pub may : MayIssue d a.entry
  pub alone : d.calls.object.state.waiting ≡ []
  pub stays : is_withdrawn a ≡ false

-- whether the call would be due once it is queued
abbrev pub is_due_in : DrivenView → Arriving ℕ → Bool
is_due_in d a = is_due d.calls.object.state.clock (new_call d.calls.object.state.next a)

-- A call with a closed barrier was issued and queued. The client was asked for its barrier, which was closed still, and the
-- object was at rest.
pub record WaitsBetween (a : Arriving ℕ) (step : NamedCall) (old new : DrivenView) : Type 0 where
  pub asked : DrivenView
  pub driven : IsDriven asked
  pub issues : Issues a Closed step old asked (Queued a.entry)
  pub answers : Evaluates Closed step asked new Rest

-- A call arrives alone, isn't due, and its barrier is closed whatever the number of queued calls: it waits (9.5.3).
pub record Waits (a : Arriving ℕ) (step : NamedCall) (old new : DrivenView) (waits : Bool) : Type 0 where
  pub kept : waits ≡ false → new ≡ old
  pub setup : KeepsSetup old new
  pub accepted : ArrivesAlone a old → is_due_in old a ≡ false → uncollected old.calls.object.tickets < old.calls.object.capacity → waits ≡ true
  pub alone : waits ≡ true → ArrivesAlone a old
  pub stays : waits ≡ true → is_due_in old a ≡ false
  pub through : waits ≡ true → WaitsBetween a step old new

-- A call with a closed barrier was issued and queued. The client was asked for its barrier, which was closed still. So the call,
-- which was due, was cancelled, and the object was at rest.
pub record TurnsAwayBetween (a : Arriving ℕ) (old new : DrivenView) : Type 0 where
  pub asked : DrivenView
  pub cancelled : DrivenView
  pub queued : NamedCall
  pub named : NamedCall
  pub driven : IsDriven asked × IsDriven cancelled
  pub issues : Issues a Closed queued old asked (Queued a.entry)
  pub answers : Evaluates Closed named asked cancelled Cancelled
  pub goes_on : GoesOn named cancelled new Rest

-- A call arrives alone, is due, and its barrier is closed whatever the number of queued calls: it is cancelled (9.7.2, 9.7.3).
pub record TurnsAway (a : Arriving ℕ) (old new : DrivenView) (is_away : Bool) : Type 0 where
  pub kept : is_away ≡ false → new ≡ old
  pub setup : KeepsSetup old new
  pub accepted : ArrivesAlone a old → is_due_in old a ≡ true → is_away ≡ true
  pub alone : is_away ≡ true → ArrivesAlone a old
  pub due : is_away ≡ true → is_due_in old a ≡ true
  pub through : is_away ≡ true → TurnsAwayBetween a old new
