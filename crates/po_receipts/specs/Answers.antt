-- SPDX-License-Identifier: MIT
-- What follows if receipts and history agree: whose answers the callers got (this project's own).
use Rattle.std.specs.Prelude.{ℕ, ◌≡◌, ◌<◌, ◌+◌, List, All, length, sum_by, slice_get, IfSome, Option, Some, None}
use Rattle.po_history.specs.declared.event.Event.{Event}
use Rattle.po_history.specs.declared.event.Event.TheVariants.{Issue, Procedure}
use Rattle.po_engine.specs.declared.ended.Ended.{Ended}
use Rattle.po_core.specs.Tickets.{CoreView}
use Rattle.po_core.specs.Cutting.{procedures_run}
use Rattle.po_receipts.specs.declared.receipt.Receipt.{Receipt}
use Rattle.po_receipts.specs.Passes.{PassView}
use Rattle.po_receipts.specs.Receipts.{asked_by, answer_of}

module _ {V : Type 0} where
  -- The history says what the receipt says, at this place among the calls and procedures that the seat asked for. For a call:
  -- the seat issued it with this number, on this entry, with this value and deadline, and it ended with this answer. For a
  -- procedure: it ran for the seat with this value and gave this reply.
  abbrev pub IsOwnAnswer : List (Ended V) → List (Event V) → ℕ → ℕ → Receipt V → Type 0
  IsOwnAnswer ended history seat place (Receipt.Called number entry value deadline answer) =
      (slice_get (asked_by history seat) place ≡ Some (Issue number seat entry value deadline))
      × (answer_of ended number ≡ Some answer)
  IsOwnAnswer ended history seat place (Receipt.Ran op value reply) =
      slice_get (asked_by history seat) place ≡ Some (Procedure seat op value reply)

  -- Each receipt of a seat has the seat's own answer at its own place, and there are as many receipts as the seat asked for
  -- calls and procedures. So each call and procedure has its receipt once, and the receipts are in the caller's order.
  pub record AreOwnAnswers (ended : List (Ended V)) (history : List (Event V)) (seat : ℕ) (receipts : List (Receipt V)) : Type 0 where
    pub own : (place : ℕ) (receipt : Receipt V) → slice_get receipts place ≡ Some receipt → IsOwnAnswer ended history seat place receipt
    pub each_once : length receipts ≡ length (asked_by history seat)

  -- Every answer that a caller got is the history's answer to that caller's own call, each once and in the caller's order.
  abbrev pub AnswersAreOwn : List (Ended V) → List (Event V) → List (PassView V) → Type 0
  AnswersAreOwn ended history passes =
      (seat : ℕ) (pass : PassView V) → slice_get passes seat ≡ Some pass → AreOwnAnswers ended history seat pass.receipts

  -- who asked for the event, if it is a call or a procedure
  abbrev pub asker_of : Event V → Option ℕ
  asker_of (Issue n owner e v deadline) = Some owner
  asker_of (Procedure owner op v reply) = Some owner
  asker_of other = None

  -- Each call and each procedure of the history was asked for by one of the first `seats` seats.
  abbrev pub AskedBySeats : ℕ → List (Event V) → Type 0
  AskedBySeats seats history = All (λ event. IfSome (asker_of event) (λ seat. seat < seats)) history

  -- The history has only the calls and procedures that the seats of these passes asked for.
  abbrev pub HasNoOthers : List (Event V) → List (PassView V) → Type 0
  HasNoOthers history passes = AskedBySeats (length passes) history

  -- No pass has a call that was accepted but has no receipt yet.
  abbrev pub NonePending : List (PassView V) → Type 0
  NonePending passes = All (λ pass. pass.pending ≡ None) passes

-- As many calls were issued, and as many procedures ran, as were accepted from these passes.
pub record HasClosingTotals {S V : Type 0} (core : CoreView S V) (passes : List (PassView V)) : Type 0 where
  pub calls : core.object.state.next ≡ core.object.setup.first_number + sum_by (λ pass. pass.calls) passes
  pub procedures : procedures_run core.object ≡ sum_by (λ pass. pass.procedures) passes
