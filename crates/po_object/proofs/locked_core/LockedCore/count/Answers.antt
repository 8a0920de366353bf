use Rattle.std.proofs.Common.{arith, ◌∙◌, ap, slice_index}
use Rattle.po_engine.specs.ObjectState.{counts_in}
use Rattle.po_core.specs.Commands.{entry_of}
use Rattle.po_receipts.proofs.OneHistory.{count-on, log-counted}
use Rattle.po_object.proofs.locked_core.LockedCore.count.Goals as goal

pub returns-clause-count : goal.returns-clause-count
returns-clause-count g c =
    let k = c.show_beside.ensures in
    let state = c.self.inside.core.object.state in
    let at = ap (λ decls. slice_index (counts_in g.U.Unit.meaning state) (entry_of decls c.args.entry)) c.self.invariant.shape in
    count-on g.U.Unit.meaning _ c.self.inside.core.object _ _ _ c.self.inside.log _ c.self.invariant.made c.headline.ensures.headline c.self.invariant.log (k.later c.if-not-show_beside.false) (k.all c.if-not-show_beside.false) (c.in_ok-count.ensures.count ∙ at)

pub returns-then-not-show_beside-clause-ahead : goal.returns-then-not-show_beside-clause-ahead
returns-then-not-show_beside-clause-ahead g c =
    let k = c.show_beside.ensures in
    let counted = log-counted g.U.Unit.meaning c.self.inside.core.object c.self.inside.log c.self.invariant.log in
    let more = k.more c.if-not-show_beside.true in
    rw (← c.self.view_is) (k.left c.if-not-show_beside.true, omega (arith, counted, more))
