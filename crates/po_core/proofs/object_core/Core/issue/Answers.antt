use Rattle.std.proofs.Common.{◌<◌, ap, sym, subst}
use Rattle.po_unit.proofs.NumberingLemmas.{flat_number-lt-entry_count}
use Rattle.po_core.proofs.TicketLemmas.{issued_issue}
use Rattle.po_core.proofs.VolumesStay.{volumes_settled}
use Rattle.po_history.specs.declared.event.Event.TheVariants.{Issue}
use Rattle.po_core.proofs.object_core.Core.issue.Goals as goal

pub issue-requires-clause-entry : goal.issue-requires-clause-entry
issue-requires-clause-entry g c =
    let low = flat_number-lt-entry_count c.self.inside.in_action.object.setup.shape c.args.entry c.in_ok-e.e (rw (← ap (λ core. core.object.setup.shape) c.self.view_is) at c.in_ok-e.ensures.number) in
    subst (λ n. c.in_ok-e.e < n) (sym c.recall_invariant.ensures.shaped) low

pub invariant_of-self-2 : goal.invariant_of-self-2
invariant_of-self-2 g c =
    record { rest = c.settle.ensures.rest; issued = issued_issue g.U.Unit.meaning g.met.U.Unit.lawful c.self.inside.in_action c.issue.new.self c.settle.new.self c.in_ok-ticket.ticket.key c.in_ok-ticket.ticket.number c.args.owner c.in_ok-e.e c.args.value c.args.deadline c.in_ok-ticket.ensures.number c.recall_invariant.ensures.low c.in_ok-ticket.ensures.begins c.in_ok-ticket.ensures.ticket c.settle.ensures.settles c.settle.ensures.same c.settle.ensures.exact c.self.invariant.issued }

pub returns-clause-volumes : goal.returns-clause-volumes
returns-clause-volumes g c =
    rw (← c.self.view_is) (volumes_settled g.U.Unit.meaning c.self.inside.in_action.object c.issue.new.self.object c.settle.new.self.object (Issue c.self.inside.in_action.object.state.next c.args.owner c.in_ok-e.e c.args.value c.args.deadline) c.recall_invariant.ensures.based c.in_ok-ticket.ensures.begins c.settle.ensures.settles c.settle.ensures.same)
