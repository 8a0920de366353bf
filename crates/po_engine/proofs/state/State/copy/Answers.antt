-- Calls and data are the same.
use Rattle.po_engine.proofs.state.State.copy.Goals as goal

pub invariant_of-result : goal.invariant_of-result
invariant_of-result g c = rw (c.in_ok-calls.ensures, c.in_ok-unit.ensures) c.self.invariant
