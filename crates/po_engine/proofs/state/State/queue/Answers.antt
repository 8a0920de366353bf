use Rattle.std.proofs.Common.{arith}
use Rattle.po_engine.specs.StateView.{state_with_calls}
use Rattle.po_engine.proofs.Owing.{owed_fits}
use Rattle.po_engine.proofs.state.State.queue.Goals as goal

pub overflow_add-self : goal.overflow_add-self
overflow_add-self g c =
    let i = c.self.inside in
    omega (arith, owed_fits g.U.Unit.meaning (state_with_calls i.unit i.calls i.finalized) c.args.call c.self.invariant.ranks c.recall_invariant.ensures.sound.few c.events_owed.ensures.low, c.self.invariant.owed, c.events_owed.ensures.owed)
