-- One more first number, and the end of the loop.
use Rattle.std.proofs.Common.{◌∙◌, arith}
use Rattle.std.proofs.lemmas.List.{take_all}
use Rattle.std.proofs.lemmas.Grind.{common_steps}
use Rattle.po_unit.specs.FirstNumbers.{first_numbers}
use Rattle.po_unit.proofs.FirstNumbersLemmas.{length-first_numbers, take-first_numbers_more}
use Rattle.po_unit.proofs.shape.number_firsts.Goals as goal

pub loop-decl-preserved : goal.loop-decl-preserved
loop-decl-preserved c =
    let more = take-first_numbers_more c.args.decls.now c.loop-decl.decl-index (omega arith) in
    let pushed = c.in_ok-push.ensures.ok in
    (cc, grind (arith, common_steps))

pub returns : goal.returns
returns c =
    let long = length-first_numbers c.args.decls.now in
    c.loop-decl.invariant.0 ∙ take_all c.loop-decl.decl-index (first_numbers c.args.decls.now) (omega arith)
