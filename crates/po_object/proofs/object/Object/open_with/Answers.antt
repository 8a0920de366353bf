use Rattle.po_object.proofs.Rooms.{room-unbounded}
use Rattle.po_object.proofs.object.Object.open_with.Goals as goal

pub open_over-requires-clause-capacity : goal.open_over-requires-clause-capacity
open_over-requires-clause-capacity g c =
    room-unbounded c.args.seats _ g.R.Record.is_bounded c.recall_kind.ensures c.requires.unbounded.1
