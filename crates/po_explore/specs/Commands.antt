-- SPDX-License-Identifier: MIT
-- What a command of a scene's caller does to an object, in the core's words.
use Rattle.std.specs.Prelude.{ℕ, ℤ, pos, List, Option, Some, None, Result, Ok, Err, Bool, true, false, not, get_or, replicate, find}
use Rattle.std.specs.Ordering.{int_eq}
use Rattle.po_unit.specs.Meaning.{Meaning}
use Rattle.po_calls.specs.declared.call.Call.{Call}
use Rattle.po_history.specs.declared.event.Event.TheVariants.{Procedure as ProcedureEvent, Tick as TickEvent, Finalize as FinalizeEvent}
use Rattle.po_engine.specs.ObjectState.{counts_in}
use Rattle.po_engine.specs.WaitingCalls.{is_of}
use Rattle.po_core.specs.declared.refusal.Refusal.{Refusal}
use Rattle.po_core.specs.declared.refusal.Refusal.TheVariants.{OutOfMemory, TooManyCalls, NumbersSpent}
use Rattle.po_core.specs.Commands.{issue_of, reply_of}
use Rattle.po_core.specs.Refusals.{function_refusal}
use Rattle.po_core.specs.View.{View}
use Rattle.po_core.specs.ProtectedAction.{after_action, after_attempt}
use Rattle.po_ada_unit.specs.declared.values.Values.{Values}
use Rattle.po_script.specs.Operations.{view_by}
use Rattle.po_ada_names.specs.declared.names.Entry.{Entry}
use Rattle.po_ada_language.specs.declared.operation.Operation.{Operation}
use Rattle.po_ada_language.specs.declared.operation.Operation.TheVariants.{Call as CallOperation, Procedure, Function, Cancel, Tick, Finalize, Show}
use Rattle.po_ada_script.specs.Operations.{refusal_of}
use Rattle.po_ada_script.specs.Preconditions.{failed_precondition, unless_failed}

-- whether the refusal is for want of memory, of room for calls, or of numbers, which is never told
abbrev pub is_want : Refusal → Bool
is_want OutOfMemory = true
is_want TooManyCalls = true
is_want NumbersSpent = true
is_want other = false

-- the cells of a call's values
abbrev pub value_cells : Values → List ℤ
value_cells v = v.cells

-- the values with which the function Invariant is called: it has no parameters
abbrev pub no_values : Values
no_values = record { cells = replicate 8 (pos 0); requeues = 255 }

-- whether a reply is True: an exception isn't
abbrev pub is_true : {V : Type 0} → (V → List ℤ) → Result V ℕ → Bool
is_true parameters (Ok v) = not (int_eq (get_or (parameters v) 0 (pos 0)) (pos 0))
is_true parameters (Err exception) = false

-- whether a function is True: one that can't be called counts as True
abbrev pub holds_by : Option Refusal → Bool → Bool
holds_by None reply = reply
holds_by (Some why) reply = true

module _ {S V : Type 0} where
  -- the object after an operation of this caller that isn't refused: one protected action, or the same object
  abbrev pub done : Meaning S V → View S V → ℕ → Operation V → View S V
  done m view caller (CallOperation entry value deadline) = after_action m view (issue_of view caller entry value deadline)
  done m view caller (Procedure op value) = after_action m view (ProcedureEvent caller op value (reply_of m view op value))
  done m view caller (Function op value) = view
  done m view caller (Cancel n) = view
  done m view caller (Tick time) = after_action m view (TickEvent time)
  done m view caller Finalize = after_action m view FinalizeEvent
  done m view caller Show = view

  -- the object after an operation of this caller
  abbrev pub after_operation : Meaning S V → View S V → ℕ → Operation V → View S V
  after_operation m view caller operation = view_by (refusal_of m view operation) view (done m view caller operation)

  -- the object after an operation of this caller whose precondition is asked first
  abbrev pub after_asking : Meaning S V → (V → List ℤ) → List Entry → View S V → ℕ → Operation V → View S V
  after_asking m parameters entries view caller operation =
      unless_failed (failed_precondition m parameters entries view operation) view (after_operation m view caller operation)

  -- the object after an attempt to cancel this call
  abbrev pub after_attempt_on : Meaning S V → View S V → Option (Call V) → View S V
  after_attempt_on m view None = view
  after_attempt_on m view (Some call) = after_attempt m view call.number

  -- the object after an attempt to cancel the earliest waiting call of this caller (9.5.3)
  abbrev pub after_abort : Meaning S V → View S V → ℕ → View S V
  after_abort m view caller = after_attempt_on m view (find (is_of caller) view.state.waiting)

  -- whether the function with this number, called with this value, is True
  abbrev pub function_holds : Meaning S V → (V → List ℤ) → View S V → ℕ → V → Bool
  function_holds m parameters view op value =
      holds_by (function_refusal m view op) (is_true parameters (m.function view.state.unit op value (counts_in m view.state)))
