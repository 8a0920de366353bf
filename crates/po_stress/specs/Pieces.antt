-- SPDX-License-Identifier: MIT
-- The pieces of a line.
use Rattle.std.specs.Prelude.{ℕ, List}
use Rattle.std.specs.Fmt.{decimal}
use Rattle.po_stress.specs.declared.piece.Piece.{Piece}
use Rattle.po_stress.specs.declared.piece.Piece.TheVariants.{Words, Number}

-- the bytes of a piece
abbrev pub text_of : Piece → List ℕ
text_of (Words words) = words.now
text_of (Number n) = decimal n
