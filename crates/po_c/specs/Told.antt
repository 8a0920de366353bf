-- SPDX-License-Identifier: MIT
-- What the functions of include/pobj.h return, and what that says about the object (this project's own).
use Rattle.std.specs.Prelude.{ℕ, ◌≡◌, ◌==◌, ◌+◌, ◌*◌, ◌/◌, ◌%◌, ◌||◌, Bool, not, Option, Some, None, IsSome, nat_lt, if◌then◌else◌}
use Rattle.po_calls.specs.declared.call.Deadline.TheVariants.{Never, At}
use Rattle.po_engine.specs.declared.arriving.Arriving.{Arriving}
use Rattle.po_driven.specs.DrivenView.{DrivenView}
use Rattle.po_driven.specs.declared.action.Action.{Action}
use Rattle.po_driven.specs.declared.action.Action.TheVariants.{Rest, Evaluate, Run, Queued, Cancelled, ProgramError, NoMemory, Refused}
use Rattle.po_driven.specs.declared.words.Barrier.{Barrier}
use Rattle.po_driven.specs.declared.words.Barrier.TheVariants.{Closed, Open, Raised}
use Rattle.po_driven.specs.declared.words.BodyEnd.{BodyEnd}
use Rattle.po_driven.specs.declared.words.BodyEnd.TheVariants.{Completed, Failed, Requeued, RequeuedElsewhere}
use Rattle.po_driven.specs.declared.words.Cancellation.{Cancellation}
use Rattle.po_driven.specs.declared.words.NamedCall.{NamedCall}
use Rattle.po_driven.specs.declared.words.Requeue.{Requeue}
use Rattle.po_driven.specs.declared.words.Cancellation.TheVariants.{Made, Kept, Unknown, Refused as IsRefused}

-- What a function does to the object in a handle, if there is one before and after it.
abbrev pub FromTo : Option DrivenView → Option DrivenView → (DrivenView → DrivenView → Type 0) → Type 0
FromTo before after makes = (old new : DrivenView) → before ≡ Some old → after ≡ Some new → makes old new

-- An object stays in its handle, and a handle with none still has none.
abbrev pub KeepsObject : Option DrivenView → Option DrivenView → Type 0
KeepsObject None after = after ≡ None
KeepsObject (Some d) after = IsSome after

-- the action and its entry as one number
abbrev pub number_of_action : Action → ℕ
number_of_action Rest = 0
number_of_action (Evaluate e) = 1 + 256 * e
number_of_action (Run e) = 2 + 256 * e
number_of_action (Queued e) = 3 + 256 * e
number_of_action Cancelled = 4
number_of_action ProgramError = 5
number_of_action NoMemory = 6
number_of_action Refused = 7

-- The number is that of an action for which this holds.
pub record Answers (number : ℕ) (says : Action → Type 0) : Type 0 where
  pub action : Action
  pub told : number ≡ number_of_action action
  pub said : says action

-- what the number says about a barrier
abbrev pub barrier_named : ℕ → Barrier
barrier_named number = if number == 0 then Closed else (if number == 1 then Open else Raised)

-- the entry with this number; one that no object has, if the number is too great
abbrev pub entry_named : ℕ → ℕ
entry_named number = if nat_lt number 65535 then number else 65535

-- what came of an attempt to cancel, as a number
abbrev pub number_of_cancellation : Cancellation → ℕ
number_of_cancellation Made = 0
number_of_cancellation Kept = 1
number_of_cancellation Unknown = 2
number_of_cancellation IsRefused = 3

-- whether the mark is among those that were added
abbrev pub has_mark : ℕ → ℕ → Bool
has_mark marks mark = (marks / mark) % 2 == 1

-- the call that is issued with these marks: 1 due, 2 by a requeue without abort, 4 aborted
abbrev pub arriving_named : ℕ → ℕ → ℕ → Arriving ℕ
arriving_named caller entry marks = record {
  entry = entry_named entry;
  value = caller;
  without_abort = has_mark marks 2;
  aborted = has_mark marks 4;
  deadline = if has_mark marks 1 then At 0 else Never;
}

-- how a body ended: 0 completed, 1 failed, 2 and 3 requeued without and with abort, 4 requeued elsewhere; any other number
-- names no entry
abbrev pub body_end_named : ℕ → ℕ → ℕ → BodyEnd
body_end_named how entry marks =
    if how == 0 then Completed else (if how == 4 then RequeuedElsewhere else (if how == 1 then Failed else
    Requeued (record { target = if nat_lt how 4 then entry_named entry else 65535; with_abort = how == 3; aborted = has_mark marks 4; due = has_mark marks 1 })))

-- how a body requeued its call within the object: 2 without and 3 with abort; any other number names no entry
abbrev pub requeue_named : ℕ → ℕ → ℕ → Requeue
requeue_named how entry marks = record {
  target = if how == 2 || how == 3 then entry_named entry else 65535;
  with_abort = how == 3;
  aborted = has_mark marks 4;
  due = has_mark marks 1;
}

abbrev pub is_not_zero : ℕ → Bool
is_not_zero n = not (n == 0)

-- The number is that of an outcome of an attempt to cancel for which this holds.
pub record Cancelling (answer : ℕ) (says : Cancellation → Type 0) : Type 0 where
  pub what : Cancellation
  pub told : answer ≡ number_of_cancellation what
  pub said : says what

-- A step that is refused, or finds no memory, leaves the call that was named before.
abbrev pub LeavesTold : ℕ → NamedCall → NamedCall → Type 0
LeavesTold answer old new = (answer ≡ number_of_action NoMemory → new ≡ old) × (answer ≡ number_of_action Refused → new ≡ old)
