-- SPDX-License-Identifier: MIT
-- How deep the functions that give expressions their meaning may call one another.
use Rattle.std.proofs.Common.{◌+◌, ◌*◌}
use Rattle.po_ada_values.proofs.lowering.Lowering.+values.Given as goal

abbrev pub decreases-applied : goal.decreases-applied
decreases-applied l = 10 * l.levels + 2

abbrev pub decreases-choices : goal.decreases-choices
decreases-choices l = 10 * l.levels + 4

abbrev pub decreases-chosen : goal.decreases-chosen
decreases-chosen l = 10 * l.levels + 3

abbrev pub decreases-denoted : goal.decreases-denoted
decreases-denoted l = 10 * l.levels + 0

abbrev pub decreases-named_value : goal.decreases-named_value
decreases-named_value l = 10 * l.levels + 3

abbrev pub decreases-open_for : goal.decreases-open_for
decreases-open_for l = 10 * l.levels + 4

abbrev pub decreases-quantified : goal.decreases-quantified
decreases-quantified l = 10 * l.levels + 5

abbrev pub decreases-tested : goal.decreases-tested
decreases-tested l = 10 * l.levels + 5

abbrev pub decreases-value : goal.decreases-value
decreases-value l = 10 * l.levels + 0

abbrev pub decreases-values : goal.decreases-values
decreases-values l = 10 * l.levels + 1
