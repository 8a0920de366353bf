-- SPDX-License-Identifier: MIT
-- A row of optional numbers by key, its least number, and the tree that finds it (this project's own).
use Rattle.std.specs.Prelude.{ℕ, ◌≡◌, ◌+◌, ◌-◌, ◌*◌, ◌<◌, ◌≤◌, min, List, length, Option, Some, None, slice_index_or}
use Rattle.std.specs.Prelude.{IsSome}

-- The number of a key in a row, if it has one (this project's own).
abbrev pub number_of : List (Option ℕ) → ℕ → Option ℕ
number_of row key = slice_index_or row key None

-- Whether a number is at most another one. `None` counts as more than any number (this project's own).
abbrev pub IsAtMost : Option ℕ → Option ℕ → Type 0
IsAtMost a None = Unit {0}
IsAtMost None (Some y) = ⊥
IsAtMost (Some x) (Some y) = x ≤ y

-- The key has a number, and no key has a lesser one (this project's own).
abbrev pub IsLeastAt : List (Option ℕ) → ℕ → Type 0
IsLeastAt row key = IsSome (number_of row key) × ((k : ℕ) → IsAtMost (number_of row key) (number_of row k))

-- The lesser of two numbers, or the only one that there is (this project's own).
abbrev pub lesser : Option ℕ → Option ℕ → Option ℕ
lesser None b = b
lesser (Some x) None = Some x
lesser (Some x) (Some y) = Some (min x y)

-- The m-th node above the leaves is the lesser of its two children (this project's own).
abbrev pub IsMinimum : ℕ → List (Option ℕ) → ℕ → Type 0
IsMinimum leaves nodes m =
    number_of nodes (leaves + m) ≡ lesser (number_of nodes (2 * m)) (number_of nodes (2 * m + 1))

-- After the leaves come all other nodes, and the root is the last. Each is the lesser of its two children (this project's own).
pub record KeepsMinima (leaves : ℕ) (nodes : List (Option ℕ)) : Type 0 where
  pub nodes_len : length nodes ≡ 2 * leaves - 1
  pub minima : (m : ℕ) → m + 1 < leaves → IsMinimum leaves nodes m
