use Rattle.std.proofs.Common.{subst, ap}
use Rattle.po_core.specs.Headline.{IsSound}
use Rattle.po_core.proofs.Soundness.{sound}
use Rattle.po_core.proofs.core_in_action.CoreInAction.recall_invariant.Goals as goal

pub returns : goal.returns
returns g c =
    let m = g.U.Unit.meaning in
    let a = c.self.inside in
    subst (IsSound m) (ap (λ seen. seen.object) c.self.view_is) (sound m g.met.U.Unit.lawful (record { setup = a.setup; base = g.R.Record.base a.setup a.kept; events = g.R.Record.events a.kept; state = a.state.state; ended_before = a.state.before }) c.self.invariant.tracked.history)
