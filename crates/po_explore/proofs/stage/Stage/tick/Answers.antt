use Rattle.std.proofs.Common.{◌∙◌}
use Rattle.po_ada_language.specs.declared.operation.Operation.TheVariants.{Tick}
use Rattle.po_ada_unit.specs.Object.{ada_meaning}
use Rattle.po_explore.specs.Commands.{after_operation}
use Rattle.po_explore.specs.News.{tick_news}
use Rattle.po_explore.specs.Scenes.{views_of}
use Rattle.po_explore.proofs.Stages.{changed_more, told_more, within}
use Rattle.po_explore.proofs.stage.Stage.tick.Goals as goal

pub loop-position-preserved : goal.loop-position-preserved
loop-position-preserved c =
    let i = c.loop-position.invariant in
    let e = c.in_ok-tick_at.ensures in
    let low = within c.args.self.now.objects c.loop-position.position _ c.len-position-end.ensures c.loop-position-test.true in
    record {
      views = e.views ∙ changed_more (λ view. after_operation ada_meaning view 0 (Tick c.args.time)) (views_of c.args.self.now) (views_of c.loop-position.self) c.loop-position.position low i.views;
      told = told_more (λ view. after_operation ada_meaning view 0 (Tick c.args.time)) (tick_news c.args.time) (views_of c.args.self.now) (views_of c.loop-position.self) c.loop-position.position c.args.news.now.items c.loop-position.news.items _ low i.views i.told e.told;
      made = e.made ∙ i.made;
    }
