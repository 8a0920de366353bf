use Rattle.po_object.proofs.Asking.{asked-of}
use Rattle.po_object.proofs.locked_core.LockedCore.take_apart.Goals as goal

pub returns-clause-asked : goal.returns-clause-asked
returns-clause-asked g c =
    λ seats same. asked-of g.C.Ledger.parts _ seats c.self.inside.log c.self.invariant.seats same c.self.invariant.asked
