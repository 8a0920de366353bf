use Rattle.std.proofs.Common.{◌≡◌, ℕ, subst, sym, ◌∙◌}
use Rattle.std.specs.Prelude.{vec_len}
use Rattle.po_explore.specs.Scenes.{views_of}
use Rattle.po_explore.proofs.Stages.{none_operated, none_at}
use Rattle.po_explore.proofs.stage.Stage.operate.Goals as goal

pub returns-in-None-clause-told : goal.returns-in-None-clause-told
returns-in-None-clause-told c =
    none_operated c.args.scene.now.objects.items (views_of c.args.self.now) c.args.object c.args.caller c.args.operation c.args.news.now.items
    (none_at c.args.scene.now.objects.items c.deref.result.now c.from-position.result c.args.object c.deref.ensures.value c.from-position.ensures c.in-None.ensures.lookup.0)
