use Rattle.std.proofs.Common.{subst, ap}
use Rattle.po_core.specs.Headline.{IsSound}
use Rattle.po_core.proofs.Soundness.{uncut}
use Rattle.po_core.proofs.object_core.Core.headline.Goals as goal

pub returns-clause-uncut : goal.returns-clause-uncut
returns-clause-uncut g c =
    let m = g.U.Unit.meaning in
    let sound = subst (IsSound m) (ap (λ seen. seen.object) c.self.view_is) c.recall_invariant.ensures in
    λ at. uncut m c.args.self.now.object sound at
