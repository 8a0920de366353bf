use Rattle.std.proofs.Common.{length}
use Rattle.po_object.proofs.Asking.{alone, asked-since, first_of}
use Rattle.po_object.proofs.reconciliation.every_answer.Goals as goal

pub every_answer-requires-clause-filed : goal.every_answer-requires-clause-filed
every_answer-requires-clause-filed g c =
    let closed = c.args.closed.now in
    let k = c.closing_totals.ensures in
    let asked = asked-since g.U.Unit.meaning (length closed.passes) closed.core.object closed.log k.whole k.asked in
    rw (c.core.ensures, c.passes.ensures) (alone closed.core closed.passes c.args.volumes.now c.requires.cut asked)

pub every_answer-requires-clause-volumes : goal.every_answer-requires-clause-volumes
every_answer-requires-clause-volumes g c = rw c.core.ensures (first_of c.requires.cut)
