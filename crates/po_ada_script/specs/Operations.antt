-- SPDX-License-Identifier: MIT
-- What an operation of a script does to an object.
use Rattle.std.specs.Prelude.{ℕ, Option, Some, None}
use Rattle.po_unit.specs.Meaning.{Meaning}
use Rattle.po_history.specs.declared.event.Event.TheVariants.{Procedure as ProcedureEvent, Tick as TickEvent, Finalize as FinalizeEvent}
use Rattle.po_core.specs.declared.refusal.Refusal.{Refusal}
use Rattle.po_core.specs.Commands.{issue_of, reply_of}
use Rattle.po_core.specs.View.{View}
use Rattle.po_core.specs.ProtectedAction.{after_action, after_attempt}
use Rattle.po_core.specs.Refusals.{issue_refusal, procedure_refusal, function_refusal, cancel_number_refusal, finalized_refusal}
use Rattle.po_script.specs.Operations.{view_by}
use Rattle.po_ada_language.specs.declared.operation.Operation.{Operation}
use Rattle.po_ada_language.specs.declared.operation.Operation.TheVariants.{Call, Procedure, Function, Cancel, Tick, Finalize, Show}

module _ {S V : Type 0} where
  -- the refusal that the operation meets
  abbrev pub refusal_of : Meaning S V → View S V → Operation V → Option Refusal
  refusal_of m view (Call entry value deadline) = issue_refusal view entry
  refusal_of m view (Procedure op value) = procedure_refusal m view op
  refusal_of m view (Function op value) = function_refusal m view op
  refusal_of m view (Cancel n) = cancel_number_refusal view n
  refusal_of m view (Tick time) = finalized_refusal view
  refusal_of m view Finalize = finalized_refusal view
  refusal_of m view Show = None

  -- the object after an operation that isn't refused: one protected action, or the same object. The owner of a call is the number
  -- of its entry's declaration, and that of a procedure is 0.
  abbrev pub done : Meaning S V → View S V → Operation V → View S V
  done m view (Call entry value deadline) = after_action m view (issue_of view entry.declaration entry value deadline)
  done m view (Procedure op value) = after_action m view (ProcedureEvent 0 op value (reply_of m view op value))
  done m view (Function op value) = view
  done m view (Cancel n) = after_attempt m view n
  done m view (Tick time) = after_action m view (TickEvent time)
  done m view Finalize = after_action m view FinalizeEvent
  done m view Show = view

  -- the object after an operation
  abbrev pub after_operation : Meaning S V → View S V → Operation V → View S V
  after_operation m view operation = view_by (refusal_of m view operation) view (done m view operation)
