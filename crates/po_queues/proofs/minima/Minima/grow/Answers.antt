-- The row is copied, and the nodes above change no leaf.
use Rattle.std.proofs.Common.{◌≡◌, ◌-◌, ◌≤◌, ◌∙◌, ap, length, arith}
use Rattle.std.proofs.lemmas.Grind.{common_steps}
use Rattle.std.proofs.lemmas.List.{length-take}
use Rattle.po_queues.proofs.LeastLemmas.{grown_nodes}
use Rattle.po_queues.proofs.minima.Minima.grow.Goals as goal

pub returns-clause-ok : goal.returns-clause-ok
returns-clause-ok c =
    let s = c.self.inside in
    let row = c.args.self.now in
    let copied = c.extend_from_slice.new.self in
    let few : length row ≤ c.args.keys =
    omega (arith, c.if-keys-self.false, ap length c.self.view_is, length-take s.leaves s.nodes.items) in
    let enough : c.args.keys ≤ c.in_ok-total.total - 1 = grind (arith, common_steps) in
    let copied_is : copied.items ≡ row =
    rw (c.in_ok-extend_from_slice.ensures.items, c.new-nodes.ensures.items, c.deref.ensures.value) c.self.view_is in
    c.settle.ensures.row
    ∙ grown_nodes row copied.items _ c.args.keys (c.in_ok-total.total - 1) _ few enough copied_is copied.ok.0
    c.in_ok-resize.ensures.items
