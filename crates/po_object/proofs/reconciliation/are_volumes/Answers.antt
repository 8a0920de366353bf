use Rattle.po_object.proofs.Parts.{are-volumes-seen}
use Rattle.po_object.proofs.reconciliation.are_volumes.Goals as goal

pub returns : goal.returns
returns g c =
    let closed = c.args.closed.now in
    are-volumes-seen g.U.Unit.meaning g.C.Story.setup closed.core.object c.args.front.now closed.log c.args.volumes.now c.requires.setup c.requires.seen c.requires.parts c.closing_totals.ensures.whole c.requires.agreed.whole
