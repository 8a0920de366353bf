use Rattle.std.proofs.Common.{◌≡◌, Some, ap, sym, ◌∙◌}
use Rattle.po_engine.specs.Calls.{call_at, of_key}
use Rattle.po_engine.proofs.TicketSteps.{live_at}
use Rattle.po_engine.proofs.calls.Calls.ticket_in_service.Goals as goal

pub returns-clause-live : goal.returns-clause-live
returns-clause-live g c =
    let s = c.self.inside in
    let f = call_at s.table.calls in
    let serving = rw (← c.self.view_is) at c.requires in
    let at : f c.in-Some.key ≡ Some c.args.call = ap (of_key f) (sym c.in-Some.is) ∙ serving in
    rw (← c.self.view_is) (live_at s.table c.in-Some.key c.args.call at)
