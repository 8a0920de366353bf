use Rattle.std.proofs.Common.{◌≡◌, None}
use Rattle.test_objects.proofs.threads.call_often.Given as goal

abbrev pub invariant-loop-value : goal.invariant-loop-value
invariant-loop-value g l = l.pass.pending ≡ None
