use Rattle.po_object.proofs.Rooms.{is-reserved, room-reserved}
use Rattle.po_object.proofs.opening.open_over.Goals as goal

pub new-locked-requires-clause-bounded : goal.new-locked-requires-clause-bounded
new-locked-requires-clause-bounded g c =
    (is-reserved g.Q.Receipts.is_bounded c.args.seats _ c.hand_out-passes.ensures.free, c.requires.bounded)

pub new-locked-requires-clause-room : goal.new-locked-requires-clause-room
new-locked-requires-clause-room g c =
    room-reserved g.Q.Receipts.is_bounded c.args.seats _ _ c.hand_out-passes.ensures.free c.requires.capacity
