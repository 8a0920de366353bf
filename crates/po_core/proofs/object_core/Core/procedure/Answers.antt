use Rattle.po_history.specs.declared.event.Event.TheVariants.{Procedure}
use Rattle.po_core.proofs.TicketLemmas.{issued_action}
use Rattle.po_core.proofs.VolumesStay.{volumes_settled}
use Rattle.po_core.proofs.object_core.Core.procedure.Goals as goal

pub invariant_of-self-2 : goal.invariant_of-self-2
invariant_of-self-2 g c =
    record { rest = c.settle.ensures.rest; issued = issued_action g.U.Unit.meaning g.met.U.Unit.lawful c.self.inside.in_action c.procedure.new.self c.settle.new.self (Procedure c.args.owner c.args.op c.args.value c.in_ok-reply.reply) c.in_ok-reply.ensures.begins c.in_ok-reply.ensures.tickets c.settle.ensures.settles c.settle.ensures.same c.settle.ensures.exact c.self.invariant.issued }

pub returns-clause-volumes : goal.returns-clause-volumes
returns-clause-volumes g c =
    rw (← c.self.view_is) (volumes_settled g.U.Unit.meaning c.self.inside.in_action.object c.procedure.new.self.object c.settle.new.self.object (Procedure c.args.owner c.args.op c.args.value c.in_ok-reply.reply) c.recall_invariant.ensures.based c.in_ok-reply.ensures.begins c.settle.ensures.settles c.settle.ensures.same)
