use Rattle.std.proofs.Common.{[], refl}
use Rattle.po_object.proofs.Refusing.{first-given, first-refused}
use Rattle.po_object.proofs.locked_core.LockedCore.function_first.Goals as goal

pub returns-clause-read : goal.returns-clause-read
returns-clause-read g c =
    first-given g.U.Unit.meaning _ c.self.inside.core.object [] c.self.inside.log _ c.self.invariant.made c.headline.ensures.headline c.self.invariant.log (c.self.inside.log, refl) refl c.args.op c.args.value c.function_now.result c.function_now.ensures.reply c.function_now.ensures.has

pub returns-clause-refused_at : goal.returns-clause-refused_at
returns-clause-refused_at g c =
    first-refused g.U.Unit.meaning _ c.self.inside.core.object [] c.self.inside.log _ c.self.invariant.made c.headline.ensures.headline c.self.invariant.log (c.self.inside.log, refl) refl c.args.op c.function_now.result c.function_now.ensures.refused
