use Rattle.std.proofs.Common.{◌∙◌}
use Rattle.po_ada_unit.specs.Object.{ada_meaning}
use Rattle.po_explore.specs.Commands.{after_abort}
use Rattle.po_explore.specs.News.{abort_news}
use Rattle.po_explore.specs.Scenes.{views_of}
use Rattle.po_explore.proofs.Stages.{changed_more, told_more, within}
use Rattle.po_explore.proofs.stage.Stage.abort.Goals as goal

pub loop-position-preserved : goal.loop-position-preserved
loop-position-preserved c =
    let i = c.loop-position.invariant in
    let e = c.in_ok-abort_at.ensures in
    let low = within c.args.self.now.objects c.loop-position.position _ c.len-position-end.ensures c.loop-position-test.true in
    record {
      views = e.views ∙ changed_more (λ view. after_abort ada_meaning view c.args.caller) (views_of c.args.self.now) (views_of c.loop-position.self) c.loop-position.position low i.views;
      told = told_more (λ view. after_abort ada_meaning view c.args.caller) (abort_news c.args.caller) (views_of c.args.self.now) (views_of c.loop-position.self) c.loop-position.position c.args.news.now.items c.loop-position.news.items _ low i.views i.told e.told;
      made = e.made ∙ i.made;
    }
