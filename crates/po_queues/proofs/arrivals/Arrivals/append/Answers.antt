-- The key is added at the end.
use Rattle.std.proofs.Common.{refl}
use Rattle.po_queues.proofs.OrderLemmas.{last_room, pushed}
use Rattle.po_queues.proofs.arrivals.Arrivals.append.Goals as goal

pub join-requires-clause-before : goal.join-requires-clause-before
join-requires-clause-before c = last_room c.self.invariant _ refl

pub invariant_of-self : goal.invariant_of-self
invariant_of-self c =
    let r = rw (← c.self.view_is) at c.requires in
    let joined = c.join.ensures in
    (pushed c.self.invariant c.args.key r.reserved r.not_there _ _ joined.neighbours joined.first).keeps

pub returns : goal.returns
returns c =
    let r = rw (← c.self.view_is) at c.requires in
    let joined = c.join.ensures in
    rw (← c.self.view_is) (pushed c.self.invariant c.args.key r.reserved r.not_there _ _ joined.neighbours joined.first).view
