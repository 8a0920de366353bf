-- Room for more keys changes nothing else.
use Rattle.std.proofs.Common.{◌≤◌, length, arith}
use Rattle.po_queues.proofs.OrderLemmas.{grown_order}
use Rattle.po_queues.proofs.arrivals.Arrivals.reserve.Goals as goal

pub invariant_of-self : goal.invariant_of-self
invariant_of-self c =
    let s = c.self.inside.chain in
    let more = c.in_ok-more in
    let longer : length s.neighbours.items ≤ more.more =
    omega (arith, more.ensures, c.len-reserved.ensures, c.len-reserved.type_inv, s.neighbours.ok.0) in
    (grown_order c.self.invariant _ _ _ _ longer c.resize.ensures.items).keeps

pub returns-clause-only_room : goal.returns-clause-only_room
returns-clause-only_room c =
    let s = c.self.inside.chain in
    let more = c.in_ok-more in
    let longer : length s.neighbours.items ≤ more.more =
    omega (arith, more.ensures, c.len-reserved.ensures, c.len-reserved.type_inv, s.neighbours.ok.0) in
    rw (← c.self.view_is) (grown_order c.self.invariant _ _ _ _ longer c.resize.ensures.items).view
