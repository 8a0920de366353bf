-- SPDX-License-Identifier: MIT
use Rattle.std.proofs.Common.{◌≡◌, suc, ◌+◌, ◌-◌, ◌*◌}
use Rattle.po_program.specs.Execution.{called, executed, memory, setting_of, turns}
use Rattle.po_program.specs.declared.tree.Stmt.{size-Stmt}
use Rattle.po_program.proofs.Sizes.{span}
use Rattle.po_program.proofs.execution.+executing.Given as goal

abbrev pub decreases-call : goal.decreases-call
decreases-call l = l.depth * span l.setting.now.program.now.operations.items

abbrev pub decreases-execute : goal.decreases-execute
decreases-execute l = l.depth * span l.setting.now.program.now.operations.items + 2 * size-Stmt l.s.now

abbrev pub decreases-handle : goal.decreases-handle
decreases-handle l = l.depth * span l.setting.now.program.now.operations.items + 2 * size-Stmt l.handlers.now + 1

abbrev pub decreases-repeat : goal.decreases-repeat
decreases-repeat l = l.depth * span l.setting.now.program.now.operations.items + 2 * size-Stmt l.body.now + 1

abbrev pub invariant-repeat-loop : goal.invariant-repeat-loop
invariant-repeat-loop l =
    let found = setting_of l.setting.program.now.operations.items l.setting.constant.now l.setting.counts.now in
    turns (suc l.initial.left) (executed l.body found (called l.depth found) l.base) (memory l.initial.object l.initial.stack l.initial.left)
    ≡ turns (l.most - l.counter) (executed l.body found (called l.depth found) l.base) (memory l.object l.stack l.left)
