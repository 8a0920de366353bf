-- SPDX-License-Identifier: MIT
-- The numbers of the faults (this project's own).
use Rattle.std.specs.Prelude.{ℕ}
use Rattle.po_unit.specs.declared.error.ShapeError.{ShapeError}
use Rattle.po_unit.specs.declared.error.ShapeError.TheVariants.{TooManyEntries, OutOfMemory}
use Rattle.po_unit.specs.declared.error.IndexError.{IndexError}
use Rattle.po_unit.specs.declared.error.IndexError.TheVariants.{NoSuchEntry, NotAFamily, IndexMissing, BadIndex}

-- The number under which a refusal of declarations is reported (this project's own).
abbrev pub shape_error_number : ShapeError → ℕ
shape_error_number TooManyEntries = 1
shape_error_number OutOfMemory = 2

-- The number under which a refusal of a reference is reported (this project's own).
abbrev pub index_error_number : IndexError → ℕ
index_error_number NoSuchEntry = 1
index_error_number NotAFamily = 2
index_error_number IndexMissing = 3
index_error_number BadIndex = 4
