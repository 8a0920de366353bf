use Rattle.po_history.specs.declared.event.Event.TheVariants.{Tick}
use Rattle.po_core.proofs.TicketLemmas.{issued_action}
use Rattle.po_core.proofs.VolumesStay.{volumes_settled}
use Rattle.po_core.proofs.object_core.Core.tick.Goals as goal

pub invariant_of-self-2 : goal.invariant_of-self-2
invariant_of-self-2 g c =
    record { rest = c.settle.ensures.rest; issued = issued_action g.U.Unit.meaning g.met.U.Unit.lawful c.self.inside.in_action c.tick.new.self c.settle.new.self (Tick c.args.t) c.in_ok-tick.ensures.begins c.in_ok-tick.ensures.tickets c.settle.ensures.settles c.settle.ensures.same c.settle.ensures.exact c.self.invariant.issued }

pub returns-clause-volumes : goal.returns-clause-volumes
returns-clause-volumes g c =
    rw (← c.self.view_is) (volumes_settled g.U.Unit.meaning c.self.inside.in_action.object c.tick.new.self.object c.settle.new.self.object (Tick c.args.t) c.recall_invariant.ensures.based c.in_ok-tick.ensures.begins c.settle.ensures.settles c.settle.ensures.same)
