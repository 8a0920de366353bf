-- The key is taken out, and its neighbours become neighbours.
use Rattle.std.proofs.Common.{arith}
use Rattle.std.proofs.lemmas.List.{get_or_read, length-set}
use Rattle.po_queues.specs.InOrder.{alone}
use Rattle.po_queues.proofs.OrderLemmas.{key_room, before_room, after_room, taken}
use Rattle.po_queues.proofs.arrivals.Arrivals.remove.Goals as goal

pub index-requires : goal.index-requires
index-requires c =
    let neighbours = c.self.inside.chain.neighbours in
    omega (arith, (key_room c.self.invariant c.self.view_is c.args.key c.requires).0, neighbours.ok.0)

pub index_mut-requires : goal.index_mut-requires
index_mut-requires c =
    let neighbours = c.self.inside.chain.neighbours in
    omega (arith, (key_room c.self.invariant c.self.view_is c.args.key c.requires).0, neighbours.ok.0)

pub join-requires-clause-before : goal.join-requires-clause-before
join-requires-clause-before c =
    let items = c.self.inside.chain.neighbours.items in
    let here = key_room c.self.invariant c.self.view_is c.args.key c.requires in
    before_room c.self.invariant c.args.key _ (length-set items c.args.key alone) c.index.result.now
    (get_or_read items c.args.key _ here.0 c.index.ensures alone)

pub join-requires-clause-after : goal.join-requires-clause-after
join-requires-clause-after c =
    let items = c.self.inside.chain.neighbours.items in
    let here = key_room c.self.invariant c.self.view_is c.args.key c.requires in
    after_room c.self.invariant c.args.key _ (length-set items c.args.key alone) c.index.result.now
    (get_or_read items c.args.key _ here.0 c.index.ensures alone)

pub invariant_of-self : goal.invariant_of-self
invariant_of-self c =
    let items = c.self.inside.chain.neighbours.items in
    let here = key_room c.self.invariant c.self.view_is c.args.key c.requires in
    let joined = c.join.ensures in
    (taken c.self.invariant c.args.key here.0 here.1 c.index.result.now
    (get_or_read items c.args.key _ here.0 c.index.ensures alone) _ _ _ joined.neighbours joined.first joined.last).keeps

pub returns : goal.returns
returns c =
    let items = c.self.inside.chain.neighbours.items in
    let here = key_room c.self.invariant c.self.view_is c.args.key c.requires in
    let joined = c.join.ensures in
    rw (← c.self.view_is) (taken c.self.invariant c.args.key here.0 here.1 c.index.result.now
    (get_or_read items c.args.key _ here.0 c.index.ensures alone) _ _ _ joined.neighbours joined.first joined.last).view
