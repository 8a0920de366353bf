use Rattle.std.proofs.Common.{refl, sym, ap, ◌∙◌, ◌++◌}
use Rattle.po_ada_unit.specs.Object.{ada_meaning}
use Rattle.po_explore.specs.Commands.{value_cells, after_asking}
use Rattle.po_explore.specs.News.{told_at, asking_news}
use Rattle.po_explore.proofs.Stages.{none_told, object_at, put, on_ok}
use Rattle.po_explore.proofs.stage.Stage.operate_at.Goals as goal

pub returns-in-Some-clause-views : goal.returns-in-Some-clause-views
returns-in-Some-clause-views c =
    let e = c.in-Some.ensures in
    on_ok c.operate.result c.operate.ensures.object
    (put (λ view. after_asking ada_meaning value_cells c.args.named.now.names.entries.items view c.args.caller c.args.operation)
    c.args.self.now.objects c.args.position c.in-Some.object.now c.operate.new.self (e.variant.0 refl) e.value)

pub returns-in-Some-clause-told : goal.returns-in-Some-clause-told
returns-in-Some-clause-told c =
    let e = c.in-Some.ensures in
    let at = object_at c.args.self.now.objects c.args.position c.in-Some.object.now (e.variant.0 refl) e.value in
    on_ok c.operate.result c.operate.ensures.told (λ told. told ∙ ap (λ o. c.args.news.now.items ++ told_at (λ view. asking_news c.args.named.now.names.entries.items view c.args.caller c.args.operation) o) (sym at))

pub returns-in-None-clause-told : goal.returns-in-None-clause-told
returns-in-None-clause-told c = none_told (λ view. asking_news c.args.named.now.names.entries.items view c.args.caller c.args.operation) c.args.self.now.objects c.args.position c.args.news.now.items c.in-None.ensures.variant.1
