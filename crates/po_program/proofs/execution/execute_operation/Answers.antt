-- SPDX-License-Identifier: MIT
use Rattle.po_program.specs.Execution.{operation_executed}
use Rattle.po_program.proofs.execution.execute_operation.Goals as goal

pub returns : goal.returns
unfolding operation_executed
returns c = c.execute_within.ensures
