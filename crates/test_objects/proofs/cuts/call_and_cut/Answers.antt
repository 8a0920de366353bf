use Rattle.std.proofs.Common.{sym, subst}
use Rattle.po_object.specs.Parts.{AreParts}
use Rattle.test_objects.proofs.cuts.call_and_cut.Goals as goal

pub returns : goal.returns
returns g c =
    let all = c.in_ok-volume.ensures.joins c.args.volumes.now.items c.requires in
    subst (λ items. AreParts g.C.Story.setup c.cut_after.new.front items) (sym c.in_ok-push.ensures.items) all
