use Rattle.po_explore.specs.Scenes.{stage_of}
use Rattle.po_explore.proofs.Stages.{on_ok}
use Rattle.po_explore.proofs.Told.{wrong_told}
use Rattle.po_explore.proofs.news.push_wrong.Goals as goal

pub returns : goal.returns
returns c =
    on_ok c.push_kind.result c.push_kind.ensures (λ more. more c.args.news.now c.requires.shown
    (wrong_told c.args.scene.now (stage_of c.args.stage.now) c.args.news.now c.args.position _ c.kind.result c.kind.ensures c.requires.position))
