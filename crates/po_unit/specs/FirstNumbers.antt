-- SPDX-License-Identifier: MIT
-- What is kept beside the declarations, so that an entry's flat number is found at once.
use Rattle.std.specs.Prelude.{◌≡◌, ℕ, ◌+◌, ◌<◌, ◌≤◌, List, length, take, map}
use Rattle.std.specs.List.{range_with_len}
use Rattle.po_unit.specs.declared.decl.Decl.{Decl}
use Rattle.po_unit.specs.Numbering.{entry_count}

-- For each declaration, how many entries come before its own (this project's own).
unfoldable pub first_numbers : List Decl → List ℕ
first_numbers ds = map (λ k. entry_count (take k ds)) (range_with_len 0 (length ds))

-- The first numbers and the total are those of the declarations. These and their entries are at most 4,096 each
-- (this project's own).
pub record KeepsNumbers (ds : List Decl) (firsts : List ℕ) (total : ℕ) : Type 0 where
  pub firsts_are : firsts ≡ first_numbers ds
  pub total_is : total ≡ entry_count ds
  pub few_declarations : length ds ≤ 4096
  pub few_entries : entry_count ds ≤ 4096

-- The declaration at this position declares the entry with this flat number (this project's own).
pub record IsPositionOf (ds : List Decl) (number position : ℕ) : Type 0 where
  pub within : position < length ds
  pub from_first : entry_count (take position ds) ≤ number
  pub before_next : number < entry_count (take (position + 1) ds)
