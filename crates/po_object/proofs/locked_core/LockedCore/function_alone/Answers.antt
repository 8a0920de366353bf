use Rattle.po_object.proofs.Refusing.{read-given, read-refused-by}
use Rattle.po_object.proofs.locked_core.LockedCore.function_alone.Goals as goal

pub returns-clause-read : goal.returns-clause-read
returns-clause-read g c =
    read-given g.U.Unit.meaning _ c.self.inside.core.object _ c.self.inside.log _ c.self.invariant.made c.headline.ensures.headline c.self.invariant.log c.show_to.ensures.later c.show_to.ensures.all c.args.op c.args.value c.function_now.result c.function_now.ensures.reply c.function_now.ensures.has

pub returns-clause-refused_at : goal.returns-clause-refused_at
returns-clause-refused_at g c =
    read-refused-by g.U.Unit.meaning _ c.self.inside.core.object _ c.self.inside.log _ c.self.invariant.made c.headline.ensures.headline c.self.invariant.log c.show_to.ensures.later c.show_to.ensures.all c.args.op c.function_now.result c.function_now.ensures.refused
