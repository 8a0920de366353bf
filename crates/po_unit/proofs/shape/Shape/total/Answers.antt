-- The list of all entries is as long as their count.
use Rattle.po_unit.proofs.NumberingLemmas.{length-entry_references}
use Rattle.po_unit.proofs.shape.Shape.total.Goals as goal

pub returns-clause-listed : goal.returns-clause-listed
returns-clause-listed c =
    let long = length-entry_references c.self.inside.decls.items in
    cc
