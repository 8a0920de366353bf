use Rattle.std.proofs.Common.{◌≡◌, ◌<◌, length, get_or, subst}
use Rattle.po_explore.proofs.Stages.{made_more}
use Rattle.po_explore.proofs.stage.Stage.new.Goals as goal

pub loop-named-preserved : goal.loop-named-preserved
loop-named-preserved c =
    let same = c.deref-named-items.ensures.value in
    let i = c.loop-named.named-index in
    let x = c.named-item.result in
    made_more c.args.scene.now.objects.items i x c.loop-named.objects.items c.push.new.self.items c.in_ok-new.field-0
    (subst (λ l. i < length l) same c.loop-named-test.true) (subst (λ l. x ≡ get_or l i x) same c.named-item.is)
    c.in_ok-push.ensures.items c.loop-named.invariant c.in_ok-new.ensures.opens
