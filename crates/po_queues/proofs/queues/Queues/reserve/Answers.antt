-- Room for more keys changes nothing else.
use Rattle.std.proofs.Common.{◌≤◌, List, length, ap, arith}
use Rattle.po_queues.specs.QueuedKeys.{QueuedKey, QueuesView}
use Rattle.po_queues.proofs.RoomLemmas.{grown_is}
use Rattle.po_queues.proofs.queues.Queues.reserve.Goals as goal

pub invariant_of-self-2 : goal.invariant_of-self-2
invariant_of-self-2 c =
    let s = c.self.inside in
    let longer : length s.links.items ≤ c.in_ok-grown.field-0 =
    omega (arith, c.in_ok-grown.ensures, c.len-reserved.ensures, c.len-reserved.type_inv, s.links.ok.0) in
    (grown_is c.self.invariant _ _ _ _ longer c.resize.ensures.items).keeps

pub returns-clause-only_room : goal.returns-clause-only_room
returns-clause-only_room c =
    let s = c.self.inside in
    let longer : length s.links.items ≤ c.in_ok-grown.field-0 =
    omega (arith, c.in_ok-grown.ensures, c.len-reserved.ensures, c.len-reserved.type_inv, s.links.ok.0) in
    let same = grown_is c.self.invariant _ _ _ _ longer c.resize.ensures.items in
    let view : List QueuedKey → QueuesView = λ items.
    record { total = length s.counts.items; reserved = length c.resize.new.self.items; items = items } in
    rw (← c.self.view_is) (ap view same.items)
