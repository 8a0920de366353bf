use Rattle.std.proofs.Common.{◌≤◌, subst}
use Rattle.po_engine.specs.Pick.{owed}
use Rattle.po_engine.specs.StateView.{state_with_calls}
use Rattle.po_engine.proofs.Owed.{owed_low}
use Rattle.po_engine.proofs.state.State.recall_invariant.Goals as goal

pub returns-clause-few : goal.returns-clause-few
returns-clause-few g c =
    let i = c.self.inside in
    let m = g.U.Unit.meaning in
    subst (λ v. owed m v.state ≤ 9_000_000_000_000_000_000_000) c.self.view_is (owed_low m (state_with_calls i.unit i.calls i.finalized) c.self.invariant.ranks c.recall_invariant.ensures.sound.few)
