-- SPDX-License-Identifier: MIT
-- What is known of each object of a unit in any state, and which operations it refuses because of that alone.
use Rattle.std.specs.Prelude.{ℕ, zero, suc, ◌≡◌, List, Option, Some, None, nat_le, if◌then◌else◌}
use Rattle.po_unit.specs.declared.decl.Decl.{Decl}
use Rattle.po_unit.specs.Meaning.{Meaning}
use Rattle.po_core.specs.declared.refusal.Refusal.{Refusal}
use Rattle.po_core.specs.declared.refusal.Refusal.TheVariants.{NoSuchOperation}
use Rattle.po_core.specs.Refusals.{entry_refusal}
use Rattle.po_core.specs.View.{View}
use Rattle.po_classic_units.specs.ScriptUnit.{KnownUnit}
use Rattle.po_language.specs.declared.command.Operation.{Operation}
use Rattle.po_language.specs.declared.command.Operation.TheVariants.{Call, Procedure, Function}
use Rattle.po_script.specs.Lines.{refused_line}
use Rattle.po_script.specs.Operations.{refusal_of, after_operation, operation_lines}
use Rattle.po_script.specs.Units.{ScriptUnits}
use Rattle.po_script.specs.Units.ScriptUnits.{last, before}

-- the declarations of an object's entries (9.5.2), and how many procedures and functions it has (9.5.1)
pub record Facts : Type 0 where
  pub shape : List Decl
  pub procedure_count : ℕ
  pub function_count : ℕ

module _ {S : Type 0} where
  -- the facts of a unit's objects of this size
  abbrev pub facts_of : KnownUnit S → Meaning S ℕ → ℕ → Facts
  facts_of unit m size = record {
    shape = unit.declarations (unit.opening size);
    procedure_count = m.procedures (unit.opening size);
    function_count = m.functions (unit.opening size);
  }

  -- The facts are those of this object. A body or a procedure leaves them as they are.
  pub record AreFacts (m : Meaning S ℕ) (facts : Facts) (view : View S ℕ) : Type 0 where
    pub shape : view.setup.shape ≡ facts.shape
    pub procedures : m.procedures view.state.unit ≡ facts.procedure_count
    pub functions : m.functions view.state.unit ≡ facts.function_count

-- the facts of the objects of this size of the unit with this number; numbers past the last unit's mean the last unit too
abbrev pub facts_at : ScriptUnits → ℕ → ℕ → Facts
facts_at (last S unit m) n size = facts_of unit m size
facts_at (before S unit m units) zero size = facts_of unit m size
facts_at (before S unit m units) (suc n) size = facts_at units n size

-- the refusal of operation number `op` if there are `count` operations: none if it is one of them
abbrev pub operation_refusal : ℕ → ℕ → Option Refusal
operation_refusal count op = if nat_le count op then Some NoSuchOperation else None

-- the refusal that the operation meets in any state of the object: no other refusal comes before this one
abbrev pub sure_refusal : Facts → Operation → Option Refusal
sure_refusal facts (Call entry value deadline) = entry_refusal facts.shape entry None
sure_refusal facts (Procedure op value) = operation_refusal facts.procedure_count op
sure_refusal facts (Function op value) = operation_refusal facts.function_count op
sure_refusal facts other = None

-- If the operation has such a refusal, each object with these facts refuses it with that refusal, stays as it is, and answers
-- by the line of that refusal.
abbrev pub RefusesSurely : {S : Type 0} → Meaning S ℕ → Facts → Operation → Type 0
RefusesSurely {S} m facts operation =
    (view : View S ℕ) → AreFacts m facts view → (refusal : Refusal) → sure_refusal facts operation ≡ Some refusal
    → (refusal_of m view operation ≡ Some refusal)
    × (after_operation m view operation ≡ view)
    × ((names : List (List ℕ)) → operation_lines m names view operation ≡ refused_line refusal)
