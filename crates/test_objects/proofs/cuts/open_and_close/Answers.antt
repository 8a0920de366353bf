use Rattle.std.proofs.Common.{sym, subst}
use Rattle.po_object.specs.Parts.{AreParts}
use Rattle.test_objects.proofs.cuts.open_and_close.Goals as goal

pub all_agrees-requires-clause-parts : goal.all_agrees-requires-clause-parts
all_agrees-requires-clause-parts g c =
    subst (λ items. AreParts g.C.Story.setup c.cut_twice.new.front items) (sym c.as_slice.ensures.value) c.in_ok-cut_twice.ensures
