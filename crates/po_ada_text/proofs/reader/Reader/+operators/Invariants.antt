-- SPDX-License-Identifier: MIT
-- How deep the functions that read expressions may call one another: by levels, and within a level by how tight operators bind.
use Rattle.std.proofs.Common.{◌+◌, ◌-◌, ◌*◌}
use Rattle.po_ada_text.proofs.reader.Reader.+operators.Given as goal

abbrev pub decreases-associations : goal.decreases-associations
decreases-associations l = 100 * l.levels + 30

abbrev pub decreases-case_expression : goal.decreases-case_expression
decreases-case_expression l = 100 * l.levels + 76

abbrev pub decreases-choice : goal.decreases-choice
decreases-choice l = 100 * l.levels + 10

abbrev pub decreases-choices : goal.decreases-choices
decreases-choices l = 100 * l.levels + 20

abbrev pub decreases-if_expression : goal.decreases-if_expression
decreases-if_expression l = 100 * l.levels + 76

abbrev pub decreases-name_expression : goal.decreases-name_expression
decreases-name_expression l = 100 * l.levels + 40

abbrev pub decreases-operand : goal.decreases-operand
decreases-operand l = 100 * l.levels + 49 + 5 * (6 - l.least)

abbrev pub decreases-operation : goal.decreases-operation
decreases-operation l = 100 * l.levels + 50 + 5 * (6 - l.least)

abbrev pub decreases-quantified : goal.decreases-quantified
decreases-quantified l = 100 * l.levels + 76

abbrev pub decreases-worded : goal.decreases-worded
decreases-worded l = 100 * l.levels + 48 + 5 * (6 - l.least)
