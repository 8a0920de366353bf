use Rattle.std.proofs.Common.{arith}
use Rattle.po_receipts.proofs.OneHistory.{log-counted}
use Rattle.po_object.proofs.Refusing.{read-given, read-refused-by}
use Rattle.po_object.proofs.locked_core.LockedCore.function.Goals as goal

pub returns-clause-read : goal.returns-clause-read
returns-clause-read g c =
    let k = c.show_beside.ensures in
    read-given g.U.Unit.meaning _ c.self.inside.core.object _ c.self.inside.log _ c.self.invariant.made c.headline.ensures.headline c.self.invariant.log (k.later c.if-not-show_beside.false) (k.all c.if-not-show_beside.false) c.args.op c.args.value c.function_now.result c.function_now.ensures.reply c.function_now.ensures.has

pub returns-clause-refused_at : goal.returns-clause-refused_at
returns-clause-refused_at g c =
    let k = c.show_beside.ensures in
    read-refused-by g.U.Unit.meaning _ c.self.inside.core.object _ c.self.inside.log _ c.self.invariant.made c.headline.ensures.headline c.self.invariant.log (k.later c.if-not-show_beside.false) (k.all c.if-not-show_beside.false) c.args.op c.function_now.result c.function_now.ensures.refused

pub returns-then-not-show_beside-clause-ahead : goal.returns-then-not-show_beside-clause-ahead
returns-then-not-show_beside-clause-ahead g c =
    let k = c.show_beside.ensures in
    let counted = log-counted g.U.Unit.meaning c.self.inside.core.object c.self.inside.log c.self.invariant.log in
    let more = k.more c.if-not-show_beside.true in
    rw (← c.self.view_is) (k.left c.if-not-show_beside.true, omega (arith, counted, more))
