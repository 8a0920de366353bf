use Rattle.std.proofs.Common.{◌≡◌, Some, sym, subst}
use Rattle.std.specs.List.{find}
use Rattle.po_engine.specs.WaitingCalls.{has_number}
use Rattle.po_history.specs.declared.event.Event.TheVariants.{Cancel}
use Rattle.po_core.specs.ProtectedAction.{after_attempt}
use Rattle.po_core.proofs.TicketLemmas.{issued_action, issued_begun, same_core}
use Rattle.po_core.proofs.Attempts.{marks}
use Rattle.po_core.proofs.VolumesStay.{volumes_settled, volumes_begun}
use Rattle.po_core.proofs.object_core.Core.cancel_waiting.Goals as goal

pub invariant_of-self : goal.invariant_of-self
invariant_of-self g c =
    record { rest = c.settle.ensures.rest; issued = issued_action g.U.Unit.meaning g.met.U.Unit.lawful c.self.inside.in_action c.attempt_cancel.new.self c.settle.new.self (Cancel c.args.ticket.number) c.attempt_cancel.ensures.begins c.attempt_cancel.ensures.tickets c.settle.ensures.settles c.settle.ensures.same c.settle.ensures.exact c.self.invariant.issued }

pub invariant_of-self-else-call : goal.invariant_of-self-else-call
invariant_of-self-else-call g c =
    let old = c.self.inside.in_action in
    let found : Some c.args.call ≡ find (has_number c.args.ticket.number) old.object.state.waiting = sym (subst (λ view. find (has_number c.args.ticket.number) view.object.state.waiting ≡ Some c.args.call) (sym c.self.view_is) c.requires.found) in
    let k = marks g.U.Unit.meaning old.object c.attempt_cancel-else-call.new.self.object c.args.ticket.number c.args.call found c.if-not-call.false c.if-call.false c.self.invariant.rest c.attempt_cancel-else-call.ensures.begins in
    record { rest = k.rest; issued = issued_begun g.U.Unit.meaning g.met.U.Unit.lawful old c.attempt_cancel-else-call.new.self (Cancel c.args.ticket.number) c.attempt_cancel-else-call.ensures.begins c.attempt_cancel-else-call.ensures.tickets c.self.invariant.issued }

pub returns-else-call-clause-after : goal.returns-else-call-clause-after
returns-else-call-clause-after g c =
    let old = c.self.inside.in_action in
    let found : Some c.args.call ≡ find (has_number c.args.ticket.number) old.object.state.waiting = sym (subst (λ view. find (has_number c.args.ticket.number) view.object.state.waiting ≡ Some c.args.call) (sym c.self.view_is) c.requires.found) in
    let k = marks g.U.Unit.meaning old.object c.attempt_cancel-else-call.new.self.object c.args.ticket.number c.args.call found c.if-not-call.false c.if-call.false c.self.invariant.rest c.attempt_cancel-else-call.ensures.begins in
    rw (← c.self.view_is) (same_core c.attempt_cancel-else-call.new.self (record old { object = after_attempt g.U.Unit.meaning old.object c.args.ticket.number }) k.after c.attempt_cancel-else-call.ensures.tickets c.attempt_cancel-else-call.ensures.capacity)

pub returns-else-call-clause-action : goal.returns-else-call-clause-action
returns-else-call-clause-action g c =
    let old = c.self.inside.in_action in
    let found : Some c.args.call ≡ find (has_number c.args.ticket.number) old.object.state.waiting = sym (subst (λ view. find (has_number c.args.ticket.number) view.object.state.waiting ≡ Some c.args.call) (sym c.self.view_is) c.requires.found) in
    let k = marks g.U.Unit.meaning old.object c.attempt_cancel-else-call.new.self.object c.args.ticket.number c.args.call found c.if-not-call.false c.if-call.false c.self.invariant.rest c.attempt_cancel-else-call.ensures.begins in
    rw (← c.self.view_is) k.action

pub returns-then-not-call-clause-volumes : goal.returns-then-not-call-clause-volumes
returns-then-not-call-clause-volumes g c =
    rw (← c.self.view_is) (volumes_settled g.U.Unit.meaning c.self.inside.in_action.object c.attempt_cancel.new.self.object c.settle.new.self.object (Cancel c.args.ticket.number) c.recall_invariant.ensures.based c.attempt_cancel.ensures.begins c.settle.ensures.settles c.settle.ensures.same)

pub returns-else-call-clause-volumes : goal.returns-else-call-clause-volumes
returns-else-call-clause-volumes g c =
    rw (← c.self.view_is) (volumes_begun g.U.Unit.meaning c.self.inside.in_action.object c.attempt_cancel-else-call.new.self.object (Cancel c.args.ticket.number) c.recall_invariant.ensures.based c.attempt_cancel-else-call.ensures.begins)
