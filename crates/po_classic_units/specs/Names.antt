-- SPDX-License-Identifier: MIT
-- Tables of names, and the number of a name in one.
use Rattle.std.specs.Prelude.{ℕ, ◌+◌, List, [], ◌∷◌, if◌then◌else◌}
use Rattle.std.specs.Borrow.{Bor}
use Rattle.std.specs.Str.{bytes_eq}

-- the texts that a table's references point to
abbrev pub texts_of : List (Bor (List ℕ)) → List (List ℕ)
texts_of [] = []
texts_of (name ∷ names) = name.now ∷ texts_of names

-- the number of the first name that is this word, counted from 0, or the number of names if none is
abbrev pub number_of_name : List (List ℕ) → List ℕ → ℕ
number_of_name [] word = 0
number_of_name (name ∷ names) word = if bytes_eq name word then 0 else number_of_name names word + 1
