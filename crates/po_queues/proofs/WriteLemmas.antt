-- What the writes of links need: a write past the end changes nothing; and the usual steps.
use Rattle.std.proofs.lemmas.List.{set_past}
use Rattle.std.proofs.lemmas.Grind.{common_steps}

-- for a write at an index that may be past the end
pub ruleset write_steps = (set_past, common_steps)
