use Rattle.po_stress.proofs.CallEnds.{fresh-unused}
use Rattle.po_stress.proofs.run.call_from_all.Goals as goal

pub seat_all-requires : goal.seat_all-requires
seat_all-requires g c = fresh-unused c.args.threads c.args.passes.items c.requires
