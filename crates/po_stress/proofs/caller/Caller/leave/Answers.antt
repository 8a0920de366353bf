use Rattle.po_stress.proofs.CallEnds.{ends-tallied}
use Rattle.po_stress.proofs.caller.Caller.leave.Goals as goal

pub returns-clause-all : goal.returns-clause-all
returns-clause-all g c = ends-tallied c.self.inside.pass c.self.inside.ends c.self.invariant.counted c.recall_invariant.ensures.tallied c.self.invariant.free
