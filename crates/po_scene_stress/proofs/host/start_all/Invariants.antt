use Rattle.std.proofs.Common.{length}
use Rattle.po_scene_stress.proofs.host.start_all.Given as goal

abbrev pub decreases-loop-pass : goal.decreases-loop-pass
decreases-loop-pass g l = length l.passes.items
