-- SPDX-License-Identifier: MIT
-- What an operation of a script does to an object, and the lines that answer it.
use Rattle.std.specs.Prelude.{ℕ, ◌≡◌, ◌⊎◌, List, [], ◌++◌, Bool, true, false, Option, Some, None, flat_map, slice_index}
use Rattle.po_unit.specs.declared.decl.EntryRef.{EntryRef}
use Rattle.po_unit.specs.Numbering.{entry_references}
use Rattle.po_unit.specs.Meaning.{Meaning}
use Rattle.po_history.specs.declared.event.Event.TheVariants.{Procedure as ProcedureEvent, Tick as TickEvent, Finalize as FinalizeEvent}
use Rattle.po_core.specs.declared.refusal.Refusal.{Refusal}
use Rattle.po_core.specs.declared.refusal.Refusal.TheVariants.{OutOfMemory}
use Rattle.po_engine.specs.ObjectState.{counts_in}
use Rattle.po_core.specs.Commands.{entry_of, issue_of, reply_of}
use Rattle.po_core.specs.View.{View, ended_now}
use Rattle.po_core.specs.ProtectedAction.{after_action, after_attempt, attempt_answer}
use Rattle.po_core.specs.Refusals.{issue_refusal, procedure_refusal, function_refusal, cancel_number_refusal, finalized_refusal}
use Rattle.po_language.specs.declared.command.Operation.{Operation}
use Rattle.po_language.specs.declared.command.Operation.TheVariants.{Call, Procedure, Function, Cancel, Tick, Finalize, Show}
use Rattle.po_script.specs.Lines.{ended_lines, ticket_line, refused_line, reply_line, value_line, attempt_line, clock_line, next_line, final_line, count_line}

-- whether the refusal is that memory ran out, which is never written
abbrev pub is_memory : Refusal → Bool
is_memory OutOfMemory = true
is_memory other = false

-- The old value stayed, or became the new one.
abbrev pub IsEither : {X : Type 0} → X → X → X → Type 0
IsEither now old new = (now ≡ old) ⊎ (now ≡ new)

-- the old object if the operation is refused, otherwise the new one
abbrev pub view_by : {X : Type 0} → Option Refusal → X → X → X
view_by (Some r) old new = old
view_by None old new = new

-- the line of the refusal if there is one, otherwise the other lines
abbrev pub lines_by : Option Refusal → List ℕ → List ℕ
lines_by (Some r) lines = refused_line r
lines_by None lines = lines

module _ {S : Type 0} where
  -- the refusal that the operation meets
  abbrev pub refusal_of : Meaning S ℕ → View S ℕ → Operation → Option Refusal
  refusal_of m view (Call entry value deadline) = issue_refusal view entry
  refusal_of m view (Procedure op value) = procedure_refusal m view op
  refusal_of m view (Function op value) = function_refusal m view op
  refusal_of m view (Cancel n) = cancel_number_refusal view n
  refusal_of m view (Tick time) = finalized_refusal view
  refusal_of m view Finalize = finalized_refusal view
  refusal_of m view Show = None

  -- the object after an operation that isn't refused; the owner of each call and procedure is 0
  abbrev pub done : Meaning S ℕ → View S ℕ → Operation → View S ℕ
  done m view (Call entry value deadline) = after_action m view (issue_of view 0 entry value deadline)
  done m view (Procedure op value) = after_action m view (ProcedureEvent 0 op value (reply_of m view op value))
  done m view (Function op value) = view
  done m view (Cancel n) = after_attempt m view n
  done m view (Tick time) = after_action m view (TickEvent time)
  done m view Finalize = after_action m view FinalizeEvent
  done m view Show = view

  -- the line of the entry that a reference names, with the number of calls queued on it (9.9)
  abbrev pub entry_line : Meaning S ℕ → List (List ℕ) → View S ℕ → EntryRef → List ℕ
  entry_line m names view reference =
      count_line names reference (slice_index (counts_in m view.state) (entry_of view.setup.shape reference))

  -- a line for each entry, in the order of their numbers
  abbrev pub entry_lines : Meaning S ℕ → List (List ℕ) → View S ℕ → List ℕ
  entry_lines m names view = flat_map (entry_line m names view) (entry_references view.setup.shape)

  -- the lines that show the object
  abbrev pub show_lines : Meaning S ℕ → List (List ℕ) → View S ℕ → List ℕ
  show_lines m names view = entry_lines m names view ++ clock_line view.state.clock ++ next_line view.state.next

  -- the lines that answer an operation that isn't refused: last come those of the calls that it ended; those of a show are
  -- stated above
  abbrev pub done_lines : Meaning S ℕ → View S ℕ → Operation → List ℕ
  done_lines m view (Call entry value deadline) =
      ticket_line view.state.next ++ ended_lines (ended_now (done m view (Call entry value deadline)))
  done_lines m view (Procedure op value) =
      reply_line (reply_of m view op value) ++ ended_lines (ended_now (done m view (Procedure op value)))
  done_lines m view (Function op value) = value_line (m.function view.state.unit op value (counts_in m view.state))
  done_lines m view (Cancel n) = attempt_line (attempt_answer view n) ++ ended_lines (ended_now (done m view (Cancel n)))
  done_lines m view (Tick time) =
      clock_line (done m view (Tick time)).state.clock ++ ended_lines (ended_now (done m view (Tick time)))
  done_lines m view Finalize = final_line ++ ended_lines (ended_now (done m view Finalize))
  done_lines m view Show = []

  -- the object after an operation
  abbrev pub after_operation : Meaning S ℕ → View S ℕ → Operation → View S ℕ
  after_operation m view operation = view_by (refusal_of m view operation) view (done m view operation)

  -- the lines that answer an operation, or the line of its refusal
  abbrev pub reply_lines : Meaning S ℕ → View S ℕ → Operation → List ℕ
  reply_lines m view operation = lines_by (refusal_of m view operation) (done_lines m view operation)

  -- the lines that answer any operation; the names are those of the declarations of the object's entries
  abbrev pub operation_lines : Meaning S ℕ → List (List ℕ) → View S ℕ → Operation → List ℕ
  operation_lines m names view Show = show_lines m names view
  operation_lines m names view operation = reply_lines m view operation
