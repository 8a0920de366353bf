-- SPDX-License-Identifier: MIT
-- The preconditions of entries: each is asked before a call is issued, and unless it holds, the call isn't (6.1.1).
use Rattle.std.specs.Prelude.{ℕ, Option, Some, None, Result, Ok, Err, List, min, get_or, slice_get, ℤ, pos, if◌then◌else◌}
use Rattle.std.specs.Ordering.{int_eq}
use Rattle.po_unit.specs.Meaning.{Meaning}
use Rattle.po_engine.specs.ObjectState.{counts_in}
use Rattle.po_core.specs.View.{View}
use Rattle.po_core.specs.declared.refusal.Refusal.{Refusal}
use Rattle.po_core.specs.Refusals.{entry_refusal, function_refusal}
use Rattle.po_unit.specs.declared.decl.EntryRef.{EntryRef}
use Rattle.po_program.specs.declared.exceptions.TheConstants.{ASSERTION_ERROR}
use Rattle.po_ada_names.specs.declared.names.Entry.{Entry}
use Rattle.po_ada_language.specs.declared.operation.Operation.{Operation}
use Rattle.po_ada_language.specs.declared.operation.Operation.TheVariants.{Call, Procedure, Function, Cancel, Tick, Finalize, Show}
use Rattle.po_ada_script.specs.Operations.{after_operation}

-- the number of the function that is the precondition of an entry, if there is the entry and it has one
abbrev pub stated : Option Entry → Option ℕ
stated None = None
stated (Some entry) = entry.precondition

-- the number of the function that is the precondition of the entry with this declaration, if it has one
abbrev pub precondition_of : List Entry → ℕ → Option ℕ
precondition_of entries declaration = stated (slice_get entries declaration)

-- the smaller of two limits, if there is one
abbrev pub least : Option ℕ → Option ℕ → Option ℕ
least None other = other
least (Some a) None = Some a
least (Some a) (Some b) = Some (min a b)

-- the failure of a precondition that is asked, which it isn't if there is a refusal
abbrev pub unless_refused : Option Refusal → Option ℕ → Option ℕ
unless_refused None failure = failure
unless_refused (Some why) failure = None

-- the old object after a failure, otherwise the new one
abbrev pub unless_failed : {X : Type 0} → Option ℕ → X → X → X
unless_failed None old new = new
unless_failed (Some exception) old new = old

-- the exception that a precondition with this reply raises, if it doesn't hold: its value is the first cell, and 0 is False
abbrev pub failure_of : {V : Type 0} → (V → List ℤ) → Result V ℕ → Option ℕ
failure_of parameters (Ok v) = if int_eq (get_or (parameters v) 0 (pos 0)) (pos 0) then Some ASSERTION_ERROR else None
failure_of parameters (Err exception) = Some exception

module _ {S V : Type 0} where
  -- the exception that the function with this number, a precondition, raises for a call with this value
  abbrev pub asked : Meaning S V → (V → List ℤ) → View S V → V → Option ℕ → Option ℕ
  asked m parameters view value None = None
  asked m parameters view value (Some op) =
      unless_refused (function_refusal m view op)
      (failure_of parameters (m.function view.state.unit op value (counts_in m view.state)))

  -- the exception that the precondition of an entry raises for a call with this value
  abbrev pub call_failure : Meaning S V → (V → List ℤ) → List Entry → View S V → EntryRef → V → Option ℕ
  call_failure m parameters entries view entry value =
      unless_refused (entry_refusal view.setup.shape entry None)
      (asked m parameters view value (precondition_of entries entry.declaration))

  -- the exception that the precondition of an operation raises: only an entry is asked for its precondition here
  abbrev pub failed_precondition : Meaning S V → (V → List ℤ) → List Entry → View S V → Operation V → Option ℕ
  failed_precondition m parameters entries view (Call entry value deadline) =
      call_failure m parameters entries view entry value
  failed_precondition m parameters entries view (Procedure op value) = None
  failed_precondition m parameters entries view (Function op value) = None
  failed_precondition m parameters entries view (Cancel n) = None
  failed_precondition m parameters entries view (Tick time) = None
  failed_precondition m parameters entries view Finalize = None
  failed_precondition m parameters entries view Show = None

  -- the object after an operation whose precondition is asked first: it stays as it is, unless the precondition holds
  abbrev pub after_asking : Meaning S V → (V → List ℤ) → List Entry → View S V → Operation V → View S V
  after_asking m parameters entries view operation =
      unless_failed (failed_precondition m parameters entries view operation) view (after_operation m view operation)
