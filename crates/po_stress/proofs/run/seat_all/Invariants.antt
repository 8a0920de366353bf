use Rattle.std.proofs.Common.{◌≤◌, ◌+◌, vec_len, vec_capacity}
use Rattle.po_stress.specs.Ends.{AreUnused}
use Rattle.po_stress.proofs.run.seat_all.Given as goal

abbrev pub decreases-loop-pass : goal.decreases-loop-pass
decreases-loop-pass g l = vec_len l.passes

abbrev pub invariant-loop-pass : goal.invariant-loop-pass
invariant-loop-pass g l = AreUnused l.passes.items × (vec_len l.callers + vec_len l.passes ≤ vec_capacity l.callers)
