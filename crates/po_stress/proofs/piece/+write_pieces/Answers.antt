use Rattle.std.proofs.Common.{ap, flat_map}
use Rattle.po_stress.specs.Pieces.{text_of}
use Rattle.po_stress.proofs.Parts.{part_of_first, part_of_rest}
use Rattle.po_stress.proofs.piece.+write_pieces.Goals as goal

pub returns-in_err-write_piece-clause-err : goal.returns-in_err-write_piece-clause-err
returns-in_err-write_piece-clause-err g t c =
    part_of_first _ _ _ _ _ _ _ (ap (flat_map text_of) c.in-Some.ensures.cases.0) c.in_err-write_piece.ensures.err

pub returns-clause-err : goal.returns-clause-err
returns-clause-err g t c =
    part_of_rest _ _ _ _ _ _ _ _ (ap (flat_map text_of) c.in-Some.ensures.cases.0) c.in_ok-write_piece.ensures.ok c.write_pieces.ensures.err
