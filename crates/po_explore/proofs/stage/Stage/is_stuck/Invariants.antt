use Rattle.std.proofs.Common.{◌≡◌, ◌<◌, ℕ, false}
use Rattle.po_explore.specs.Scenes.{views_of, waits}
use Rattle.po_explore.proofs.stage.Stage.is_stuck.Given as goal

-- no call of the callers before this one waits
abbrev pub invariant-loop-caller : goal.invariant-loop-caller
invariant-loop-caller l = (k : ℕ) → k < l.caller → waits (views_of l.self) k ≡ false
