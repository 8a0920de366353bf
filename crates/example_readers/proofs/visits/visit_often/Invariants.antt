use Rattle.std.proofs.Common.{◌≡◌, None}
use Rattle.example_readers.proofs.visits.visit_often.Given as goal

abbrev pub invariant-loop : goal.invariant-loop
invariant-loop g l = l.pass.pending ≡ None
