use Rattle.std.specs.Prelude.{◌≡◌, None}
use Rattle.po_scene_stress.proofs.job.Steps.carry_out.Given as goal

abbrev pub invariant-loop-turn : goal.invariant-loop-turn
invariant-loop-turn g l = l.pass.pending ≡ None
