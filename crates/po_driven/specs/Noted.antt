-- SPDX-License-Identifier: MIT
-- What an answer says has happened, and whom it names (9.5.2 to 9.5.4, 9.7.2, D.7).
use Rattle.std.specs.Prelude.{ℕ, ◌≡◌, ◌==◌, List, [], ◌∷◌, ◌++◌, Bool, true, false, Option, Some, None, find, count_by, IsSome, IsSomeAnd, if◌then◌else◌}
use Rattle.std.specs.List.{slice_get, slice_index}
use Rattle.po_unit.specs.declared.outcome.Outcome.TheVariants.{Requeue as RequeueTo}
use Rattle.po_calls.specs.declared.call.Call.{Call}
use Rattle.po_calls.specs.declared.end.End.TheVariants.{Completed, Raised, Cancelled as IsCancelled}
use Rattle.po_calls.specs.declared.ticket.Ticket.{Ticket}
use Rattle.po_engine.specs.Tickets.{is_live}
use Rattle.po_engine.specs.WaitingCalls.{has_number, is_on, is_due}
use Rattle.po_engine.specs.Driving.{new_call}
use Rattle.po_engine.specs.Step.{is_full}
use Rattle.po_engine.specs.declared.arriving.Arriving.{Arriving}
use Rattle.po_driven.specs.DrivenView.{DrivenView}
use Rattle.po_driven.specs.Happening.{cancellation_of}
use Rattle.po_driven.specs.declared.action.Action.{Action}
use Rattle.po_driven.specs.declared.action.Action.TheVariants.{Run, Queued, Cancelled, ProgramError, NoMemory, Refused}
use Rattle.po_driven.specs.declared.happening.Happening.{Happening}
use Rattle.po_driven.specs.declared.happening.Happening.TheVariants.{Served, Arrived, Selected, Ended, RequeuedElsewhere, Due, Requeued, Broken, Cancelled as WasCancelled, Marked, Finalized}
use Rattle.po_driven.specs.declared.words.Barrier.{Barrier}
use Rattle.po_driven.specs.declared.words.Barrier.TheVariants.{Raised as HasRaised}
use Rattle.po_driven.specs.declared.words.BodyEnd.{BodyEnd}
use Rattle.po_driven.specs.declared.words.BodyEnd.TheVariants.{Completed as IsComplete, Failed, Requeued as IsRequeued, RequeuedElsewhere as IsRequeuedElsewhere}
use Rattle.po_driven.specs.declared.words.Cancellation.{Cancellation}
use Rattle.po_driven.specs.declared.words.Cancellation.TheVariants.{Made, Kept, Unknown, Refused as IsRefused}
use Rattle.po_driven.specs.declared.words.NamedCall.{NamedCall}

-- the length from which on a queue is full, given its limit: 0 means none
abbrev pub full_at : ℕ → Option ℕ
full_at limit = if limit == 0 then None else Some limit

-- the length from which on the queue of the entry is full
abbrev pub longest_on : DrivenView → ℕ → Option ℕ
longest_on d e = full_at (slice_index d.limits e)

-- what has happened if an object that services its queues gives this answer
abbrev pub serviced : Action → DrivenView → List Happening
serviced (Run e) d = Selected e ∷ []
serviced Cancelled d = cancellation_of (find (is_due d.calls.object.state.clock) d.calls.object.state.waiting)
serviced ProgramError d = Broken ∷ []
serviced other d = []

-- what has happened if an object gives this answer to a call that is issued
abbrev pub issued : Action → Arriving ℕ → Barrier → DrivenView → List Happening
issued (Run e) a barrier d = Served a ∷ []
issued (Queued e) a barrier d = Arrived a (longest_on d a.entry) ∷ []
issued ProgramError a HasRaised d = Arrived a None ∷ Broken ∷ []
issued ProgramError a other d = Arrived a (longest_on d a.entry) ∷ []
issued other a barrier d = []

-- These things have happened since.
abbrev pub Notes : List Happening → DrivenView → DrivenView → Type 0
Notes hs old new = new.calls.happened ≡ old.calls.happened ++ hs

-- Whom an answer names: the caller of the call whose body runs, of the one that is queued with this ticket, of the one that was
-- due, or of the one that was queued first of all. There was such a call.
abbrev pub Names : Action → NamedCall → DrivenView → DrivenView → Type 0
Names (Run e) step old new = IsSomeAnd new.calls.object.serving (λ x. (x.entry ≡ e) × (step.caller ≡ x.value))
Names (Queued e) step old new = IsSomeAnd (find (has_number step.number) new.calls.object.state.waiting) (λ x. step.caller ≡ x.value)
Names Cancelled step old new = IsSomeAnd (find (is_due old.calls.object.state.clock) old.calls.object.state.waiting) (λ x. step.caller ≡ x.value)
Names ProgramError step old new = IsSomeAnd (slice_get old.calls.object.state.waiting 0) (λ x. step.caller ≡ x.value)
Names other step old new = Unit {0}

-- Whom the answer to an issued call names: its caller, or, if its barrier raised, the caller of the call that was queued first of
-- all.
abbrev pub NamesCaller : Action → Arriving ℕ → Barrier → NamedCall → DrivenView → Type 0
NamesCaller NoMemory a barrier step old = Unit {0}
NamesCaller Refused a barrier step old = Unit {0}
NamesCaller ProgramError a HasRaised step old = IsSomeAnd (slice_get (old.calls.object.state.waiting ++ new_call old.calls.object.state.next a ∷ []) 0) (λ x. step.caller ≡ x.value)
NamesCaller (Queued e) a barrier step old = (step.caller ≡ a.value) × (step.number ≡ old.calls.object.state.next)
NamesCaller other a barrier step old = step.caller ≡ a.value

-- The answer says that the call is queued, and names its ticket.
abbrev pub HasTicket : Action → Ticket → NamedCall → Type 0
HasTicket (Queued e) ticket step = (step.key ≡ ticket.key) × (step.number ≡ ticket.number)
HasTicket other ticket step = ⊥

-- what has happened once the body of this call, which was in service, has ended in this way
abbrev pub concluded : BodyEnd → Call ℕ → Action → DrivenView → List Happening
concluded IsComplete x action d = Ended (Completed x.value) ∷ serviced action d
concluded Failed x action d = Ended (Raised 0) ∷ serviced action d
concluded IsRequeuedElsewhere x action d = RequeuedElsewhere ∷ serviced action d
concluded (IsRequeued r) x Refused d = []
concluded (IsRequeued r) x Cancelled d = Ended IsCancelled ∷ []
concluded (IsRequeued r) x action d = (if r.due then Due ∷ [] else []) ++ Requeued (RequeueTo r.target r.with_abort x.value) (longest_on d r.target) ∷ []

-- what has happened if an object is finalized with this answer
abbrev pub finalized : Action → DrivenView → List Happening
finalized Refused d = []
finalized action d = Finalized ∷ serviced action d

-- what has happened if an attempt to cancel the call with this number has this outcome
abbrev pub attempted : Cancellation → ℕ → Bool → List Happening
attempted Made n expired = WasCancelled n ∷ []
attempted Kept n false = Marked n ∷ []
attempted other n expired = []

-- If the answer says that a call is queued, one is, and the ticket that it names is the ticket of that call (9.5.3).
abbrev pub NamesTicket : Action → NamedCall → DrivenView → Type 0
NamesTicket (Queued e) step new =
    (is_live new.calls.object.tickets (record { key = step.key; number = step.number }) ≡ true)
    × IsSome (find (has_number step.number) new.calls.object.state.waiting)
NamesTicket other step new = Unit {0}

-- The body didn't requeue its call to an entry of its object.
abbrev pub IsNoRequeue : BodyEnd → Type 0
IsNoRequeue (IsRequeued r) = ⊥
IsNoRequeue other = Unit {0}

-- An attempt to cancel has this outcome if the ticket is of this queued call: one that is queued by a requeue without abort is
-- kept (9.5.4).
abbrev pub Cancels : Cancellation → Option (Call ℕ) → Type 0
Cancels Made queued = IsSomeAnd queued (λ x. x.without_abort ≡ false)
Cancels Kept queued = IsSomeAnd queued (λ x. x.without_abort ≡ true)
Cancels Unknown queued = queued ≡ None
Cancels IsRefused queued = Unit {0}

-- An attempt that cancels nothing leaves the object at rest. One that is refused, or finds no call, changes nothing.
abbrev pub KeepsCalls : Cancellation → DrivenView → DrivenView → Type 0
KeepsCalls Made old new = Unit {0}
KeepsCalls Kept old new = new ≡ record old { calls = new.calls }
KeepsCalls Unknown old new = new ≡ old
KeepsCalls IsRefused old new = new ≡ old

-- If a call that is issued or requeued to the entry is answered Program_Error, its queue is full. A call whose barrier raised
-- isn't meant here (9.5.3, D.7).
abbrev pub EndsWhereFull : Action → ℕ → DrivenView → Type 0
EndsWhereFull ProgramError e old = is_full (longest_on old e) (count_by (is_on e) old.calls.object.state.waiting) ≡ true
EndsWhereFull other e old = Unit {0}
