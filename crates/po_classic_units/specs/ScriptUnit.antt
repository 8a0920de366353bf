-- SPDX-License-Identifier: MIT
-- What scripts know of a unit.
use Rattle.std.specs.Prelude.{ℕ, ◌<◌, ◌^◌, List, Bool}
use Rattle.po_unit.specs.declared.decl.Decl.{Decl}

-- the names by which scripts know a unit and its operations, each table in the order of their numbers
pub record KnownNames : Type 0 where
  -- the word that names it in a `unit` line
  pub unit : List ℕ
  -- whether a size follows that word
  pub is_sized : Bool
  -- the names of its entries' declarations (9.5.2), its procedures and its functions (9.5.1)
  pub entries : List (List ℕ)
  pub procedures : List (List ℕ)
  pub functions : List (List ℕ)

-- The number of each name fits into 16 bits, if there are this many entries, procedures and functions.
pub record HasFewNames (entry_count procedure_count function_count : ℕ) : Type 0 where
  pub entries : entry_count < 2 ^ 16
  pub procedures : procedure_count < 2 ^ 16
  pub functions : function_count < 2 ^ 16

-- a unit that scripts know, whose states are S
pub record KnownUnit (S : Type 0) : Type 0 where
  pub names : KnownNames
  -- its state as it is made, of this size if it has one
  pub opening : ℕ → S
  -- the declarations of its entries, in the order of their numbers (9.5.2)
  pub declarations : S → List Decl
