-- SPDX-License-Identifier: MIT
-- Which refusals a call of an object may meet (this project's own). What is behind the lock isn't known, except the
-- declarations of the object's entries and whether the number of calls is fixed.
use Rattle.std.specs.Prelude.{◌≡◌, ◌⊎◌, Bool, true, false, List, Some, None, if◌then◌else◌}
use Rattle.po_unit.specs.declared.decl.Decl.{Decl}
use Rattle.po_unit.specs.declared.decl.EntryRef.{EntryRef}
use Rattle.po_core.specs.View.{View}
use Rattle.po_core.specs.Refusals.{entry_refusal, or_else, finalized_refusal, if_spent}
use Rattle.po_core.specs.declared.refusal.Refusal.{Refusal}
use Rattle.po_core.specs.declared.refusal.Refusal.TheVariants.{NoSuchOperation, Finalized, NumbersSpent, OutOfMemory}

-- Memory has run out. That is no refusal if the number of calls is fixed.
abbrev pub IsOutOfMemory : Bool → Refusal → Type 0
IsOutOfMemory false r = r ≡ OutOfMemory
IsOutOfMemory true r = ⊥

-- of a call on an entry: that of the entry, whatever the object's state; otherwise that of the state; or memory has run out
abbrev pub IsCallRefusal : Bool → List Decl → EntryRef → Refusal → Type 0
IsCallRefusal bounded shape entry r =
    IsOutOfMemory bounded r
    ⊎ (entry_refusal shape entry None ≡ Some r)
    ⊎ ((entry_refusal shape entry None ≡ None) × ((r ≡ Finalized) ⊎ (r ≡ NumbersSpent)))

-- of a procedure
abbrev pub IsProcedureRefusal : Bool → Refusal → Type 0
IsProcedureRefusal bounded r = IsOutOfMemory bounded r ⊎ (r ≡ NoSuchOperation) ⊎ (r ≡ Finalized) ⊎ (r ≡ NumbersSpent)

-- of a function
abbrev pub IsFunctionRefusal : Refusal → Type 0
IsFunctionRefusal r = (r ≡ NoSuchOperation) ⊎ (r ≡ Finalized)

-- of a tick
abbrev pub IsTickRefusal : Bool → Refusal → Type 0
IsTickRefusal false r = (r ≡ OutOfMemory) ⊎ (r ≡ Finalized)
IsTickRefusal true r = (r ≡ NumbersSpent) ⊎ (r ≡ Finalized)

-- of a tick, by the object's state at that moment
abbrev pub IsTickRefusalOf : {S V : Type 0} → Bool → View S V → Refusal → Type 0
IsTickRefusalOf bounded view r =
    IsOutOfMemory bounded r ⊎ (or_else (finalized_refusal view) (if bounded then if_spent view else None) ≡ Some r)

-- of a cut
abbrev pub IsCutRefusal : Refusal → Type 0
IsCutRefusal r = (r ≡ OutOfMemory) ⊎ (r ≡ NumbersSpent)
