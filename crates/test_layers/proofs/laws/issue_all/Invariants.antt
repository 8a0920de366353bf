use Rattle.po_core.specs.Cutting.{KeepsVolumes}
use Rattle.test_layers.proofs.laws.issue_all.Given as goal

abbrev pub invariant-loop-entry : goal.invariant-loop-entry
invariant-loop-entry g l = KeepsVolumes g.U.Unit.meaning l.initial.core.object l.core.object
