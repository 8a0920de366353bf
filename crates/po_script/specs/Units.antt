-- SPDX-License-Identifier: MIT
-- The units of scripts, the meaning of each, and their objects.
use Rattle.std.specs.Prelude.{ℕ, zero, suc, ◌⊎◌, List, Option}
use Rattle.std.proofs.Common.{inl, inr}
use Rattle.po_unit.specs.declared.decl.Decl.{Decl}
use Rattle.po_queues.specs.declared.order.Order.{Order}
use Rattle.po_unit.specs.Meaning.{Meaning, IsLawful}
use Rattle.po_core.specs.declared.refusal.Refusal.{Refusal}
use Rattle.po_core.specs.Setup.{Setup}
use Rattle.po_core.specs.View.{View, opening_view}
use Rattle.po_classic_units.specs.ScriptUnit.{KnownUnit}
use Rattle.po_language.specs.Units.{UnitList}
use Rattle.po_language.specs.Units.UnitList.{last as last_name, before as name_before}
use Rattle.po_language.specs.declared.command.Beginning.{Beginning}
use Rattle.po_language.specs.declared.command.Operation.{Operation}
use Rattle.po_script.specs.Operations.{refusal_of, after_operation, operation_lines}

-- the units of scripts, in an order: one, or one before others; each with what scripts know of it and what it means
pub data ScriptUnits : Type 1 where
  last : (S : Type 0) → KnownUnit S → Meaning S ℕ → ScriptUnits
  before : (S : Type 0) → KnownUnit S → Meaning S ℕ → ScriptUnits → ScriptUnits

-- what scripts know of these units
abbrev pub listed : ScriptUnits → UnitList
listed (last S unit m) = last_name unit.names
listed (before S unit m units) = name_before unit.names (listed units)

-- Each of the units meets the laws of a unit.
abbrev pub AreLawful : ScriptUnits → Type 0
AreLawful (last S unit m) = IsLawful m
AreLawful (before S unit m units) = IsLawful m × AreLawful units

-- an object of one of the units
abbrev pub Object : ScriptUnits → Type 0
Object (last S unit m) = View S ℕ
Object (before S unit m units) = View S ℕ ⊎ Object units

-- how an object is set up: its calls are numbered from 1
abbrev pub setup_of : {S : Type 0} → S → List Decl → Order → Option ℕ → Setup S
setup_of opening shape order max_queue = record {
  opening = opening;
  shape = shape;
  order = order;
  max_queue = max_queue;
  first_number = 1;
  first_place = 0;
}

-- an object of the unit, just made
abbrev pub made : {S : Type 0} → KnownUnit S → Beginning → View S ℕ
made unit beginning =
    let opening = unit.opening beginning.unit.size in
    opening_view (setup_of opening (unit.declarations opening) beginning.order beginning.max_queue)

-- the object of the unit with this number, just made; numbers past the last unit's mean the last unit too
abbrev pub made_at : (units : ScriptUnits) → ℕ → Beginning → Object units
made_at (last S unit m) n beginning = made unit beginning
made_at (before S unit m units) zero beginning = inl (made unit beginning)
made_at (before S unit m units) (suc n) beginning = inr (made_at units n beginning)

-- the refusal that the operation meets
abbrev pub refusal_on : (units : ScriptUnits) → Object units → Operation → Option Refusal
refusal_on (last S unit m) view operation = refusal_of m view operation
refusal_on (before S unit m units) (inl view) operation = refusal_of m view operation
refusal_on (before S unit m units) (inr object) operation = refusal_on units object operation

-- the object after an operation
abbrev pub after_on : (units : ScriptUnits) → Object units → Operation → Object units
after_on (last S unit m) view operation = after_operation m view operation
after_on (before S unit m units) (inl view) operation = inl (after_operation m view operation)
after_on (before S unit m units) (inr object) operation = inr (after_on units object operation)

-- the lines that answer an operation
abbrev pub lines_on : (units : ScriptUnits) → Object units → Operation → List ℕ
lines_on (last S unit m) view operation = operation_lines m unit.names.entries view operation
lines_on (before S unit m units) (inl view) operation = operation_lines m unit.names.entries view operation
lines_on (before S unit m units) (inr object) operation = lines_on units object operation
