use Rattle.std.specs.Prelude.{◌≡◌, unwrap_or}
use Rattle.po_core.specs.Refusals.{cut_refusal}
use Rattle.po_core.specs.declared.refusal.Refusal.TheVariants.{OutOfMemory}
use Rattle.po_object.proofs.Parts.{cut-joins, cut-keeps}
use Rattle.po_object.proofs.object.Object+U+C+P+F+Recorded+U+Q+S.cut_after.Goals as goal

pub returns-clause-joins : goal.returns-clause-joins
returns-clause-joins g c = cut-joins g.U.Unit.meaning g.C.Story.setup c.cut.result c.args.front.now c.cut.new.front c.cut.ensures.cut_off

pub returns-clause-keeps : goal.returns-clause-keeps
returns-clause-keeps g c =
    cut-keeps g.U.Unit.meaning g.C.Story.setup c.cut.result (λ r view. r ≡ unwrap_or (cut_refusal view) OutOfMemory) c.args.front.now c.cut.new.front c.cut.ensures.refused_at
