-- SPDX-License-Identifier: MIT
-- The numbers of refusals (this project's own).
use Rattle.std.specs.Prelude.{ℕ}
use Rattle.po_unit.specs.declared.error.IndexError.{IndexError}
use Rattle.po_unit.specs.declared.error.IndexError.TheVariants.{NoSuchEntry as HasNoEntry, NotAFamily, IndexMissing, BadIndex as HasBadIndex}
use Rattle.po_core.specs.declared.refusal.Refusal.{Refusal}
use Rattle.po_core.specs.declared.refusal.Refusal.TheVariants.{NoSuchEntry, PrivateEntry, BadIndex, NoSuchOperation, UnknownCall, AlreadyEnded, Finalized, NumbersSpent, OutOfMemory, NoCall, TooManyCalls}

-- the number of a refusal
abbrev pub refusal_number : Refusal → ℕ
refusal_number NoSuchEntry = 1
refusal_number PrivateEntry = 2
refusal_number BadIndex = 3
refusal_number NoSuchOperation = 4
refusal_number UnknownCall = 5
refusal_number AlreadyEnded = 6
refusal_number Finalized = 7
refusal_number NumbersSpent = 8
refusal_number OutOfMemory = 9
refusal_number NoCall = 10
refusal_number TooManyCalls = 11

-- the refusal of a reference that has no flat number
abbrev pub refusal_of : IndexError → Refusal
refusal_of HasNoEntry = NoSuchEntry
refusal_of NotAFamily = BadIndex
refusal_of IndexMissing = BadIndex
refusal_of HasBadIndex = BadIndex
