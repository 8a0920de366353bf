-- SPDX-License-Identifier: MIT
-- The sizes that units may have.
use Rattle.std.specs.Prelude.{ℕ, ◌≤◌, Bool, true, false}

-- A unit's size is from 1 to 1,024.
pub record IsSize (size : ℕ) : Type 0 where
  pub some : 1 ≤ size
  pub most : size ≤ 1024

-- If the unit has a size, this is one. Otherwise it may be any number, and means nothing.
abbrev pub IsSizeWhere : Bool → ℕ → Type 0
IsSizeWhere true size = IsSize size
IsSizeWhere false size = Unit {0}
