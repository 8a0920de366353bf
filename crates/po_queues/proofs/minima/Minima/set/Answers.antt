-- The leaf is written, and the nodes above change no leaf.
use Rattle.std.proofs.Common.{◌<◌, ◌∙◌, ap, set, length, arith}
use Rattle.std.proofs.lemmas.List.{length-take}
use Rattle.std.proofs.Math.Seq.{take-set-lt}
use Rattle.po_queues.proofs.minima.Minima.set.Goals as goal

pub returns : goal.returns
returns c =
    let s = c.self.inside in
    let below : c.args.key < s.leaves =
    omega (arith, c.requires, ap length c.self.view_is, length-take s.leaves s.nodes.items) in
    c.settle_above.ensures.row
    ∙ take-set-lt s.leaves s.nodes.items c.args.key c.args.number below
    ∙ ap (λ l. set l c.args.key c.args.number) c.self.view_is
