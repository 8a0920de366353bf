use Rattle.std.proofs.Common.{vec_len}
use Rattle.test_objects.proofs.threads.do_both.Given as goal

abbrev pub decreases-loop-pass : goal.decreases-loop-pass
decreases-loop-pass g l = vec_len l.passes
