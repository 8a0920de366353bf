use Rattle.po_explore.specs.Scenes.{stage_of}
use Rattle.po_explore.proofs.Stages.{on_ok}
use Rattle.po_explore.proofs.Told.{answer_told}
use Rattle.po_explore.proofs.news.push_answer.Goals as goal

pub returns : goal.returns
returns c =
    on_ok c.push_kind.result c.push_kind.ensures (λ more. more c.args.news.now c.requires.shown
    (answer_told c.args.scene.now (stage_of c.args.stage.now) c.args.news.now c.args.position _ c.answer-answer.result c.made.result c.answer-answer.ensures c.made.ensures c.requires.position))
