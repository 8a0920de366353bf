use Rattle.std.proofs.Common.{ap}
use Rattle.po_stress.proofs.CallEnds.{room-left}
use Rattle.po_stress.proofs.caller.ObjectLoaded.enter.Goals as goal

pub count-requires : goal.count-requires
count-requires g c =
    let called = c.in_ok-end.ensures.called in
    record { room = room-left _ _ _ _ _ _ _ _ _ (ap (λ pass. pass.receipts) called.1) c.caller.invariant.counted c.recall_room.ensures }
