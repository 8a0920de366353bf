use Rattle.std.proofs.Common.{refl, sym, ap, ◌∙◌, ◌++◌}
use Rattle.po_ada_language.specs.declared.operation.Operation.TheVariants.{Tick}
use Rattle.po_ada_unit.specs.Object.{ada_meaning}
use Rattle.po_explore.specs.Commands.{after_operation}
use Rattle.po_explore.specs.News.{told_at, tick_news}
use Rattle.po_explore.proofs.Stages.{none_told, object_at, put, on_ok}
use Rattle.po_explore.proofs.stage.Stage.tick_at.Goals as goal

pub returns-in-Some-clause-views : goal.returns-in-Some-clause-views
returns-in-Some-clause-views c =
    let e = c.in-Some.ensures in
    on_ok c.tick.result c.tick.ensures.object
    (put (λ view. after_operation ada_meaning view 0 (Tick c.args.time)) c.args.self.now.objects c.args.position c.in-Some.object.now c.tick.new.self (e.variant.0 refl) e.value)

pub returns-in-Some-clause-told : goal.returns-in-Some-clause-told
returns-in-Some-clause-told c =
    let e = c.in-Some.ensures in
    let at = object_at c.args.self.now.objects c.args.position c.in-Some.object.now (e.variant.0 refl) e.value in
    on_ok c.tick.result c.tick.ensures.told (λ told. told ∙ ap (λ o. c.args.news.now.items ++ told_at (tick_news c.args.time) o) (sym at))

pub returns-in-None-clause-told : goal.returns-in-None-clause-told
returns-in-None-clause-told c = none_told (tick_news c.args.time) c.args.self.now.objects c.args.position c.args.news.now.items c.in-None.ensures.variant.1
