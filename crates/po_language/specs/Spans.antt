-- SPDX-License-Identifier: MIT
-- The place of a word in its line.
use Rattle.std.specs.Prelude.{ℕ, ◌≡◌, ◌≤◌, List, [], ◌++◌, length, take, drop, slice_index_or}
use Rattle.po_language.specs.Words.{words}
use Rattle.po_language.specs.declared.span.Span.{Span}

-- The line ends with these bytes.
abbrev pub IsSuffix : List ℕ → List ℕ → Type 0
IsSuffix line rest = (before : List ℕ) × (line ≡ before ++ rest)

-- the bytes of the line at the place
abbrev pub bytes_at : List ℕ → Span → List ℕ
bytes_at line span = take span.length (drop span.start line)

-- The place is that of the line's word with this number, counted from 0, or the end of the line if there is none.
pub record IsSpanOf (line : List ℕ) (number : ℕ) (span : Span) : Type 0 where
  pub within : span.start ≤ length line
  pub word : bytes_at line span ≡ slice_index_or (words line) number []
  pub behind : length (words line) ≤ number → span.start ≡ length line
