-- Room for more keys changes nothing else.
use Rattle.po_queues.proofs.EntryLemmas.{room_view}
use Rattle.po_queues.proofs.entry_queues.EntryQueues.reserve.Goals as goal

pub returns-clause-only_room : goal.returns-clause-only_room
returns-clause-only_room c =
    let s = c.self.inside in
    rw (← c.self.view_is) (room_view s.reserved c.in_ok-reserved.reserved s.by_entry c.reserve.new.self s.expirations
    c.reserve-3.new.self _ c.in_ok-reserve.ensures.only_room c.in_ok-reserve-3.ensures.only_room)
