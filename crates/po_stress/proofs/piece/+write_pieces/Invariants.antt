use Rattle.std.proofs.Common.{length}
use Rattle.po_stress.proofs.piece.+write_pieces.Given as goal

abbrev pub decreases-write_pieces : goal.decreases-write_pieces
decreases-write_pieces g a = length a.pieces.now
