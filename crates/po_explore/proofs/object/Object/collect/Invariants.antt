use Rattle.std.proofs.Common.{◌≡◌}
use Rattle.po_explore.proofs.object.Object.collect.Given as goal

abbrev pub invariant-loop-caller : goal.invariant-loop-caller
invariant-loop-caller l = l.self.core.object ≡ l.fn.self.core.object
