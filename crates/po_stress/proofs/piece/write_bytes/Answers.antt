use Rattle.po_stress.proofs.Parts.{part_of}
use Rattle.po_stress.proofs.piece.write_bytes.Goals as goal

pub returns-clause-err : goal.returns-clause-err
returns-clause-err g c = part_of _ _ _ _ _ c.write_all.ensures.err
