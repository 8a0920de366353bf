-- SPDX-License-Identifier: MIT
use Rattle.std.proofs.Common.{SFits, rules, arith, ap, sym, ◌∙◌, ◌≡◌, suc, ◌+◌, ◌-◌, pos, to_z, of_z}
use Rattle.std.specs.Int.{w128}
use Rattle.std.proofs.lemmas.Int.{ints, to_z-of_z}
use Rattle.po_program.specs.declared.tree.Area.TheVariants.{Frame}
use Rattle.po_program.specs.Execution.{called, assigned, memory, setting_of}
use Rattle.po_program.proofs.Turns.{turn, start, exit_turn, last_turn, no_turn, none}
use Rattle.po_program.proofs.Steps.{component, normal, abrupt}
use Rattle.po_program.proofs.Sizes.{falls}
use Rattle.po_program.proofs.execution.+executing.Goals as goal

pub call-execute-requires : goal.call-execute-requires
call-execute-requires t c =
    let l = c.in-Some.ensures.lookup in
    (falls c.args.setting.now.program.now.operations.items c.deref.result.now c.from.result c.in-Some.operation.now c.args.depth t c.deref.ensures.value l.3.0 l.1 c.if-depth-eq0.false c.decreases, tt)

pub repeat-loop-init : goal.repeat-loop-init
repeat-loop-init t c =
    let e : suc c.args.left.now ≡ c.from-most.result + 1 - 0 = grind (arith, c.from-most.ensures) in
    start _ _ _ _ e

pub repeat-loop-preserved : goal.repeat-loop-preserved
repeat-loop-preserved t c =
    let e : c.from-most.result + 1 - c.loop.counter ≡ suc (c.from-most.result + 1 - (c.loop.counter + 1)) = grind (arith, c.loop-test.true) in
    let l : c.loop.left ≡ suc (c.loop.left - 1) = grind (arith, c.if-left-eq0.false) in
    c.loop.invariant
    ∙ start _ _ _ _ e
    ∙ turn _ _ _ _ _ l (sym c.execute.ensures ∙ ap (λ f. (f, memory c.execute.new.object c.execute.new.stack c.execute.new.left)) c.in-Normal.is)

pub repeat-returns-then-left-eq0 : goal.repeat-returns-then-left-eq0
repeat-returns-then-left-eq0 t c = sym (c.loop.invariant ∙ no_turn _ _ _ c.if-left-eq0.true)

pub repeat-returns : goal.repeat-returns
repeat-returns t c =
    let e : c.from-most.result + 1 - c.loop.counter ≡ 0 = grind (arith, c.loop-test.false) in
    sym (c.loop.invariant ∙ none _ _ _ e)

pub repeat-returns-in-Exited : goal.repeat-returns-in-Exited
repeat-returns-in-Exited t c =
    let e : c.from-most.result + 1 - c.loop.counter ≡ suc (c.from-most.result + 1 - (c.loop.counter + 1)) = grind (arith, c.loop-test.true) in
    let l : c.loop.left ≡ suc (c.loop.left - 1) = grind (arith, c.if-left-eq0.false) in
    ap (λ f. (f, memory c.execute.new.object c.execute.new.stack c.execute.new.left)) c.leave.ensures
    ∙ sym (c.loop.invariant
    ∙ start _ _ _ _ e
    ∙ exit_turn _ _ _ _ _ c.in-Exited.loops l (sym c.execute.ensures ∙ ap (λ f. (f, memory c.execute.new.object c.execute.new.stack c.execute.new.left)) c.in-Exited.is))

pub repeat-returns-in_default : goal.repeat-returns-in_default
repeat-returns-in_default t c =
    let e : c.from-most.result + 1 - c.loop.counter ≡ suc (c.from-most.result + 1 - (c.loop.counter + 1)) = grind (arith, c.loop-test.true) in
    let l : c.loop.left ≡ suc (c.loop.left - 1) = grind (arith, c.if-left-eq0.false) in
    sym (c.loop.invariant
    ∙ start _ _ _ _ e
    ∙ last_turn _ _ _ _ _ c.execute.result l (sym c.execute.ensures) c.in_default.not-Normal c.in_default.not-Exited)

pub execute-returns-in-Ok-evaluate : goal.execute-returns-in-Ok-evaluate
execute-returns-in-Ok-evaluate t c =
    let found = setting_of c.args.setting.now.program.now.operations.items c.args.setting.now.constant.now c.args.setting.now.counts.now in
    let f : SFits w128 c.in-Ok-evaluate.n = search rules in
    component found (called c.args.depth found) c.args.base (memory c.args.object.now c.args.stack.now c.args.left.now) c.in-AssignAt.area c.in-AssignAt.i c.in-AssignAt.place c.in-AssignAt.e c.in-Ok-evaluate.n (to_z w128 (of_z w128 c.in-Ok-evaluate.n)) _ c.args.s.now c.in-AssignAt.is (sym c.evaluate-in-AssignAt.ensures ∙ c.in-Ok-evaluate.is) (to_z-of_z w128 c.in-Ok-evaluate.n f) (c.assign_component.ensures c.args.left.now)

pub handle-returns-in-Normal : goal.handle-returns-in-Normal
handle-returns-in-Normal t c =
    let n : to_z w128 (of_z w128 c.from.result) ≡ pos c.args.number = grind (arith, ints, to_z-of_z, c.from.ensures) in
    normal _ _ (memory c.assign.new.object c.assign.new.stack c.args.left.now) _
    (sym (ap (λ f. (f, memory c.assign.new.object c.assign.new.stack c.args.left.now)) c.in-Normal.is)
    ∙ c.assign.ensures c.args.left.now
    ∙ ap (λ z. assigned Frame c.args.base c.args.i z (memory c.args.object.now c.args.stack.now c.args.left.now)) n)
    c.execute.ensures

pub handle-returns-in_default : goal.handle-returns-in_default
handle-returns-in_default t c =
    let n : to_z w128 (of_z w128 c.from.result) ≡ pos c.args.number = grind (arith, ints, to_z-of_z, c.from.ensures) in
    abrupt _ c.assign.result (memory c.assign.new.object c.assign.new.stack c.args.left.now) _
    (c.assign.ensures c.args.left.now
    ∙ ap (λ z. assigned Frame c.args.base c.args.i z (memory c.args.object.now c.args.stack.now c.args.left.now)) n)
    c.in_default.not-Normal
