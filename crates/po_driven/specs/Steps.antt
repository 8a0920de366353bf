-- SPDX-License-Identifier: MIT
-- All that the contract of a step says about the object before and after it, given the step's answer (9.4, 9.5.1 to 9.5.4,
-- 9.7.2, D.7).
use Rattle.std.specs.Prelude.{ℕ, Bool, ◌≡◌, ◌≢◌, ◌<◌, None, Some, IsSome}
use Rattle.po_calls.specs.declared.call.Call.{Call}
use Rattle.po_calls.specs.declared.ticket.Ticket.{Ticket}
use Rattle.po_engine.specs.Tickets.{uncollected, waiting_among}
use Rattle.po_engine.specs.declared.arriving.Arriving.{Arriving}
use Rattle.po_driven.specs.Answering.{AnswersCall, Breaks, LooksOn, MayRequeue, Moves, WaitsForNext}
use Rattle.po_driven.specs.DrivenView.{DrivenView, Fresh, KeepsAll, KeepsSetup, MayIssue, Tells, closed_after}
use Rattle.po_driven.specs.Noted.{Cancels, EndsWhereFull, IsNoRequeue, KeepsCalls, Names, NamesCaller, NamesTicket, Notes, attempted, finalized, issued, concluded, serviced}
use Rattle.po_driven.specs.declared.action.Action.{Action}
use Rattle.po_driven.specs.declared.action.Action.TheVariants.{NoMemory, Refused, Run}
use Rattle.po_driven.specs.declared.phase.Phase.TheVariants.{Asked, Breaking, Resting, Settling}
use Rattle.po_driven.specs.declared.words.Barrier.{Barrier}
use Rattle.po_driven.specs.declared.words.Barrier.TheVariants.{Closed, Open, Raised}
use Rattle.po_driven.specs.declared.words.BodyEnd.{BodyEnd}
use Rattle.po_driven.specs.declared.words.BodyEnd.TheVariants.{Completed, Failed, Requeued, RequeuedElsewhere}
use Rattle.po_driven.specs.declared.words.Cancellation.{Cancellation}
use Rattle.po_driven.specs.declared.words.Cancellation.TheVariants.{Made, Refused as IsRefused}
use Rattle.po_driven.specs.declared.words.Requeue.{Requeue}
use Rattle.po_driven.specs.declared.words.NamedCall.{NamedCall}

-- A call is issued, and the client gives this answer about its barrier (9.5.3).
pub record Issues (a : Arriving ℕ) (barrier : Barrier) (step : NamedCall) (old new : DrivenView) (action : Action) : Type 0 where
  pub tells : Tells action new
  pub kept : KeepsAll action old new
  pub setup : KeepsSetup old new
  pub accepted : MayIssue old a.entry → action ≢ Refused
  pub refused : (MayIssue old a.entry → ⊥) → action ≡ Refused
  pub room : uncollected old.calls.object.tickets < old.calls.object.capacity → action ≢ NoMemory
  pub fresh : Fresh action new
  pub noted : Notes (issued action a barrier old) old new
  pub names : NamesCaller action a barrier step old
  pub ticket : NamesTicket action step new
  pub follows : AnswersCall action a barrier new
  pub full : (barrier ≡ Raised → ⊥) → EndsWhereFull action a.entry old

-- The client gives this answer about the barrier that it was asked for (9.5.2, 9.5.3).
pub record Evaluates (barrier : Barrier) (step : NamedCall) (old new : DrivenView) (action : Action) : Type 0 where
  pub tells : Tells action new
  pub kept : KeepsAll action old new
  pub setup : KeepsSetup old new
  pub accepted : (e : ℕ) → old.phase ≡ Asked e → action ≢ Refused
  pub refused : ((e : ℕ) → old.phase ≡ Asked e → ⊥) → action ≡ Refused
  pub closed : (e : ℕ) → old.phase ≡ Asked e → new.closed ≡ closed_after old.closed e barrier
  pub noted : Notes (serviced action old) old new
  pub names : Names action step old new
  pub serves : (e : ℕ) → old.phase ≡ Asked e → barrier ≡ Open → action ≡ Run e
  pub looks_on : (e : ℕ) → old.phase ≡ Asked e → barrier ≡ Closed → LooksOn action old.calls.object.state.waiting new.closed
  pub breaks : (e : ℕ) → old.phase ≡ Asked e → barrier ≡ Raised → Breaks action old new

-- The body of the call in service has ended in this way (9.5.2, 9.5.4).
pub record EndsBody (end : BodyEnd) (step : NamedCall) (old new : DrivenView) (action : Action) : Type 0 where
  pub tells : Tells action new
  pub kept : KeepsAll action old new
  pub setup : KeepsSetup old new
  pub accepted : IsSome old.calls.object.serving → IsNoRequeue end → action ≢ Refused
  pub refused : old.calls.object.serving ≡ None → action ≡ Refused
  pub fresh : Fresh action new
  pub noted : (x : Call ℕ) → old.calls.object.serving ≡ Some x → Notes (concluded end x action old) old new
  pub names : IsNoRequeue end → Names action step old new
  pub unmoved : (requeue : Requeue) → end ≡ Requeued requeue → (MayRequeue old requeue → ⊥) → action ≡ Refused
  pub moves : (requeue : Requeue) (x : Call ℕ) → end ≡ Requeued requeue → old.calls.object.serving ≡ Some x → Moves action requeue x step old
  pub ticket : NamesTicket action step new
  pub full : (requeue : Requeue) → end ≡ Requeued requeue → EndsWhereFull action requeue.target old
  pub looks_on : IsSome old.calls.object.serving → end ≡ Completed → LooksOn action old.calls.object.state.waiting new.closed
  pub leaves : IsSome old.calls.object.serving → end ≡ RequeuedElsewhere → LooksOn action old.calls.object.state.waiting new.closed
  pub breaks : IsSome old.calls.object.serving → end ≡ Failed → Breaks action old new

-- The client asks for what is next (9.5.1, 9.5.3).
pub record GoesOn (step : NamedCall) (old new : DrivenView) (action : Action) : Type 0 where
  pub tells : Tells action new
  pub kept : KeepsAll action old new
  pub setup : KeepsSetup old new
  pub accepted : WaitsForNext old.phase → action ≢ Refused
  pub refused : (WaitsForNext old.phase → ⊥) → action ≡ Refused
  pub fresh : Fresh action new
  pub noted : Notes (serviced action old) old new
  pub names : Names action step old new
  pub looks_on : old.phase ≢ Breaking → action ≢ Refused → LooksOn action old.calls.object.state.waiting new.closed
  pub breaks : old.phase ≡ Breaking → Breaks action old new

-- The object is finalized (9.4).
pub record Finalizes (step : NamedCall) (old new : DrivenView) (action : Action) : Type 0 where
  pub tells : Tells action new
  pub kept : KeepsAll action old new
  pub setup : KeepsSetup old new
  pub accepted : old.phase ≡ Resting → action ≢ Refused
  pub refused : old.phase ≢ Resting → action ≡ Refused
  pub fresh : Fresh action new
  pub noted : Notes (finalized action old) old new
  pub names : Names action step old new
  pub breaks : old.phase ≡ Resting → Breaks action old new

-- An attempt is made to cancel the queued call of the ticket, because its time has come or its caller was aborted (9.5.3,
-- 9.5.4, 9.7.2).
pub record Attempts (ticket : Ticket) (expired : Bool) (old new : DrivenView) (what : Cancellation) : Type 0 where
  pub accepted : old.phase ≡ Resting → what ≢ IsRefused
  pub refused : old.phase ≢ Resting → what ≡ IsRefused
  pub made : what ≡ Made → new.phase ≡ Settling
  pub same : KeepsCalls what old new
  pub setup : KeepsSetup old new
  pub noted : Notes (attempted what ticket.number expired) old new
  pub call : Cancels what (waiting_among old.calls.object.state.waiting old.calls.object.tickets ticket)
