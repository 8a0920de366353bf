use Rattle.std.proofs.Common.{◌≡◌, ◌<◌, ℕ, None}
use Rattle.po_explore.specs.Scenes.{stage_of, next_of}
use Rattle.po_explore.proofs.stage.Stage.is_over.Given as goal

-- none of the callers before this one can make a command
abbrev pub invariant-loop-caller : goal.invariant-loop-caller
invariant-loop-caller l = (k : ℕ) → k < l.caller → next_of l.scene (stage_of l.self) k ≡ None
