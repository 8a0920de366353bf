use Rattle.std.proofs.Common.{sym, subst}
use Rattle.po_engine.specs.ObjectState.{IsAtRest}
use Rattle.po_core.proofs.TicketLemmas.{issued_collected}
use Rattle.po_core.proofs.object_core.Core.collect.Goals as goal

pub invariant_of-self : goal.invariant_of-self
invariant_of-self g c = record {
  rest = subst (λ view. IsAtRest g.U.Unit.meaning view.state) (sym c.collect.ensures.object) c.self.invariant.rest;
  issued = issued_collected c.self.inside.in_action c.collect.new.self c.collect.result c.args.ticket.key c.collect.ensures.object c.collect.ensures.taken c.collect.ensures.left c.self.invariant.issued;
}
