-- SPDX-License-Identifier: MIT
-- The slots that an operation finds.
use Rattle.std.specs.Prelude.{List, ◌++◌, replicate, drop, slice_set, ℤ, pos}

-- All slots, before any has a value (this project's own).
unfoldable pub no_slots : List ℤ
no_slots = replicate 256 (pos 0)

-- The slots that an operation finds: the values of the parameters, the index of the entry, and zeros (this project's own).
abbrev pub frame : List ℤ → ℤ → List ℤ
frame vs i = slice_set (vs ++ drop 8 no_slots) 8 i

-- The values of a barrier's parameters: it has none (9.5.2).
unfoldable pub no_values : List ℤ
no_values = replicate 8 (pos 0)
