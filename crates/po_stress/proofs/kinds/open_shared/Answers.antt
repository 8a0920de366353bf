use Rattle.std.proofs.Common.{subst, sym}
use Rattle.po_object.specs.Seats.{AreFresh}
use Rattle.po_stress.proofs.kinds.open_shared.Goals as goal

pub returns-in_ok-shared-in-Ok-clause-fresh : goal.returns-in_ok-shared-in-Ok-clause-fresh
returns-in_ok-shared-in-Ok-clause-fresh g c =
    subst (λ passes. AreFresh c.args.threads passes) (sym c.in_ok-shared-in-Ok.ensures.passes) c.in-Ok.ensures.fresh
