use Rattle.std.proofs.Common.{subst}
use Rattle.std.specs.List.{All}
use Rattle.std.proofs.lemmas.List.{take_all}
use Rattle.std.proofs.lemmas.List.Elements.{All-more}
use Rattle.po_receipts.specs.Passes.{IsTallied}
use Rattle.po_receipts.proofs.laws.recall_tallies.Goals as goal

pub loop-pass-preserved : goal.loop-pass-preserved
loop-pass-preserved g c =
    All-more IsTallied c.args.passes.now c.loop-pass.pass-index c.pass-item.result c.loop-pass-test.true c.loop-pass.invariant
    (subst IsTallied c.pass-item.is c.recall_invariant.ensures)

pub returns : goal.returns
returns g c = subst (All IsTallied) (take_all c.loop-pass.pass-index c.args.passes.now c.loop-pass-test.false) c.loop-pass.invariant
