use Rattle.std.proofs.Common.{◌≡◌, None}
use Rattle.example_bounded.proofs.call_often.Given as goal

abbrev pub invariant-loop-value : goal.invariant-loop-value
invariant-loop-value g l = l.pass.pending ≡ None
