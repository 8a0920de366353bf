use Rattle.std.proofs.Common.{refl, ap}
use Rattle.po_explore.specs.Scenes.{stage_of}
use Rattle.po_explore.specs.News.{order_news}
use Rattle.po_explore.proofs.walk.replay.Goals as goal

pub loop-caller-init : goal.loop-caller-init
loop-caller-init c =
    let e = c.in_ok-walk.ensures in
    let stage = stage_of c.in_ok-walk.walk.stage in
    (stage, e.begins, refl, ap (λ told. order_news c.args.scene.now stage told c.args.order.now) e.told)
