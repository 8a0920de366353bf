use Rattle.std.proofs.Common.{◌≤◌, ◌+◌, vec_len, vec_capacity}
use Rattle.po_stress.proofs.threads.start_callers.Given as goal

abbrev pub decreases-loop-caller : goal.decreases-loop-caller
decreases-loop-caller g l = vec_len l.callers

abbrev pub invariant-loop-caller : goal.invariant-loop-caller
invariant-loop-caller g l = vec_len l.threads + vec_len l.callers ≤ vec_capacity l.threads
