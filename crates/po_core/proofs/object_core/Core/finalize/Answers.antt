use Rattle.po_core.proofs.VolumesStay.{volumes_begun}
use Rattle.po_history.specs.declared.event.Event.TheVariants.{Finalize}
use Rattle.po_core.proofs.object_core.Core.finalize.Goals as goal

pub returns-clause-volumes : goal.returns-clause-volumes
returns-clause-volumes g c =
    rw (← c.self.view_is) (volumes_begun g.U.Unit.meaning c.self.inside.in_action.object c.finalize.new.self.object Finalize c.recall_invariant.ensures.based c.finalize.ensures.begins)
