-- SPDX-License-Identifier: MIT
-- What a source gave, and how much of it was taken.
use Rattle.std.specs.Prelude.{ℕ, ◌≡◌, ◌≤◌, ◌+◌, Bool, true, List, [], ◌∷◌, ◌++◌, length, take, drop, min, Option, Some, None}
use Rattle.std.specs.Io.KnownBytes.{Consumes}
use Rattle.po_streams.specs.Source.{CountsMore}
use Rattle.po_script.specs.declared.chunk.Chunk.{Chunk}

-- the bytes that were given and not taken yet
abbrev pub pending : Chunk → List ℕ
pending chunk = drop chunk.taken (take chunk.count chunk.bytes)

-- The source gave `bytes`, and after them `more`, the pending ones: `start` is what it had to give at first, `left` is what it
-- has now. It was read only if nothing was pending, as its own counts of reads say: `first` then, `reads` now.
pub record Given (more bytes : List ℕ) (start left : Option (List ℕ)) (first reads : Option ℕ) : Type 0 where
  pub consumed : Consumes start left (bytes ++ more)
  pub counted : (count : ℕ) × (count ≤ length bytes + min 1 (length more)) × CountsMore first reads count

-- The byte is the first of the pending ones, if there is one.
abbrev pub IsNext : Option ℕ → List ℕ → Type 0
IsNext None more = more ≡ []
IsNext (Some byte) more = (later : List ℕ) × (more ≡ byte ∷ later)

-- If there is no next byte, the source has ended. Otherwise it has ended exactly if it had before.
abbrev pub EndsAtNone : Option ℕ → Bool → Bool → Type 0
EndsAtNone None before ended = ended ≡ true
EndsAtNone (Some byte) before ended = ended ≡ before
