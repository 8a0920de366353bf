-- What is serviced next meets what its selection says.
use Rattle.po_queues.specs.declared.order.Order.TheVariants.{Oldest, Rotating}
use Rattle.po_queues.proofs.TellLemmas.{tells, tells_textual}
use Rattle.po_queues.proofs.examination.examine.Goals as goal

pub returns-in-Textual-clause-tells : goal.returns-in-Textual-clause-tells
returns-in-Textual-clause-tells g c = tells_textual g.U.Unit.meaning c.args.unit.now c.args.queues.now c.args.last
    c.recall_invariant.ensures c.total.result c.total.ensures c.turn_from.result c.turn_from.ensures

pub returns-in-Oldest-clause-tells : goal.returns-in-Oldest-clause-tells
returns-in-Oldest-clause-tells g c = tells g.U.Unit.meaning c.args.unit.now c.args.queues.now Oldest c.args.last
    c.recall_invariant.ensures _ c.oldest_turn.ensures

pub returns-in-Rotating-clause-tells : goal.returns-in-Rotating-clause-tells
returns-in-Rotating-clause-tells g c = tells g.U.Unit.meaning c.args.unit.now c.args.queues.now Rotating c.args.last
    c.recall_invariant.ensures _ c.rotating_turn.ensures
