use Rattle.std.proofs.Common.{◌≡◌, length, subst}
use Rattle.po_object.specs.Seats.{OneEach}
use Rattle.po_stress.proofs.run.close.Goals as goal

pub returns-in-Ok-close-clause-one_each : goal.returns-in-Ok-close-clause-one_each
returns-in-Ok-close-clause-one_each g c =
    let passes = c.args.passes.items in
    subst (λ seats. OneEach seats passes × (length passes ≡ seats)) c.in-Ok.ensures.ok c.in-Ok-close.ensures.one_each
