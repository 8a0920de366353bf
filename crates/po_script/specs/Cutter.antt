-- SPDX-License-Identifier: MIT
-- How far the bytes of a source have been cut into lines.
use Rattle.std.specs.Prelude.{ℕ, ◌≡◌, ◌+◌, ◌<◌, Bool, true, false, eqb, List, [], ◌∷◌, ◌++◌, length, take, Option}
use Rattle.po_script.specs.Chunk.{pending, Given}
use Rattle.po_script.specs.Script.{cut}
use Rattle.po_script.specs.declared.cutter.Cutter.{Cutter}
use Rattle.po_script.specs.declared.cutter.Piece.{Piece}
use Rattle.po_script.specs.declared.cutter.Piece.TheVariants.{Letter, Newline, End, Past}

-- what is kept of the line being cut, its number, how many bytes were cut, and the bytes that the source gave after those
abbrev pub kept : Cutter → List ℕ
kept cutter = cutter.line.items

abbrev pub number_of : Cutter → ℕ
number_of cutter = cutter.number

abbrev pub total_of : Cutter → ℕ
total_of cutter = cutter.total

abbrev pub waiting : Cutter → List ℕ
waiting cutter = pending cutter.chunk

-- `bytes` were cut from a source that had `start` to give at first and has `left` now. It counted `first` reads then and
-- `reads` now.
pub record CutsBy (line : List ℕ) (number total : ℕ) (more bytes : List ℕ) (start left : Option (List ℕ)) (first reads : Option ℕ) : Type 0 where
  pub line_is : line ≡ take 4097 (cut bytes).rest
  pub number_is : number ≡ length (cut bytes).full + 1
  pub total_is : total ≡ length bytes
  pub source : Given more bytes start left first reads

abbrev pub Cuts : Cutter → List ℕ → Option (List ℕ) → Option (List ℕ) → Option ℕ → Option ℕ → Type 0
Cuts cutter bytes start left first reads = CutsBy (kept cutter) (number_of cutter) (total_of cutter) (waiting cutter) bytes start left first reads

-- After what had been cut before, `piece` was cut.
abbrev pub GoesOn : Cutter → Cutter → List ℕ → Type 0
GoesOn old new piece =
    (bytes : List ℕ) (start left : Option (List ℕ)) (first reads : Option ℕ)
    → Cuts old bytes start left first reads → Cuts new (bytes ++ piece) start left first reads

-- Nothing was cut, though the source may have given more bytes.
abbrev pub Stays : Cutter → Cutter → Option (List ℕ) → Option (List ℕ) → Option ℕ → Option ℕ → Type 0
Stays old new left has before reads =
    (bytes : List ℕ) (start : Option (List ℕ)) (first : Option ℕ)
    → Cuts old bytes start left first before → Cuts new bytes start has first reads

-- what a step took of the source, and what it found there
abbrev pub Steps : Piece → Cutter → Cutter → Option (List ℕ) → Option (List ℕ) → Option ℕ → Option ℕ → Bool → Bool → Type 0
Steps Letter old new left has before reads went ended =
    (byte : ℕ) × (eqb byte 10 ≡ false) × (ended ≡ went) × (total_of new ≡ total_of old + 1)
    × ((bytes : List ℕ) (start : Option (List ℕ)) (first : Option ℕ)
    → Cuts old bytes start left first before → Cuts new (bytes ++ byte ∷ []) start has first reads)
Steps Newline old new left has before reads went ended =
    ((more : List ℕ) × (waiting new ≡ 10 ∷ more)) × (total_of new < 67108864) × (ended ≡ went) × (total_of new ≡ total_of old)
    × Stays old new left has before reads
Steps End old new left has before reads went ended =
    (waiting new ≡ []) × (ended ≡ true) × Stays old new left has before reads
Steps Past old new left has before reads went ended =
    ((byte : ℕ) × (more : List ℕ) × (waiting new ≡ byte ∷ more)) × (total_of new ≡ 67108864) × (ended ≡ went)
    × Stays old new left has before reads
