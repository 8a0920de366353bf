-- SPDX-License-Identifier: MIT
-- The units that scripts know, in an order.
use Rattle.std.specs.Prelude.{ℕ, zero, suc, ◌+◌, ◌^◌, List, Option, Some, None, nat_lt, if◌then◌else◌}
use Rattle.std.specs.Option.{option_and_then}
use Rattle.std.specs.Str.{bytes_eq}
use Rattle.po_classic_units.specs.ScriptUnit.{KnownNames}

-- what scripts know of their units: of the last one, or of one that comes before others
pub data UnitList : Type 0 where
  last : KnownNames → UnitList
  before : KnownNames → UnitList → UnitList

-- the number after this one, if 16 bits hold it
abbrev pub next_number : ℕ → Option ℕ
next_number n = if nat_lt (n + 1) (2 ^ 16) then Some (n + 1) else None

-- the number of the first unit of that name, counted from 0, if there is one
abbrev pub unit_number : UnitList → List ℕ → Option ℕ
unit_number (last names) word = if bytes_eq names.unit word then Some 0 else None
unit_number (before names units) word =
    if bytes_eq names.unit word then Some 0 else option_and_then next_number (unit_number units word)

-- what scripts know of the unit with this number; numbers above the last unit's mean that unit too
abbrev pub names_at : UnitList → ℕ → KnownNames
names_at (last names) n = names
names_at (before names units) zero = names
names_at (before names units) (suc n) = names_at units n
