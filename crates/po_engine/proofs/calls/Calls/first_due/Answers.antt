-- The first call that is due is that of the first key whose time has come.
use Rattle.std.proofs.Common.{◌∙◌, sym, ap, Some, None}
use Rattle.std.specs.Prelude.{option_map}
use Rattle.po_engine.specs.Calls.{call_at, key_of}
use Rattle.po_engine.proofs.CallReads.{due_number}
use Rattle.po_engine.proofs.TicketSteps.{live_at}
use Rattle.po_engine.proofs.calls.Calls.first_due.Goals as goal

pub returns-in_err-key-clause-found : goal.returns-in_err-key-clause-found
returns-in_err-key-clause-found g c =
    let s = c.self.inside in
    let is = due_number (call_at s.table.calls) (key_of s.first s.keys.items) s.queues.clock s.queues.items None c.self.invariant.queued.queued c.in_err-key.ensures.found in
    rw (c.from_residual.ensures, ← c.self.view_is) is

pub returns-in_err-number-clause-found : goal.returns-in_err-number-clause-found
returns-in_err-number-clause-found g c =
    let s = c.self.inside in
    let is = due_number (call_at s.table.calls) (key_of s.first s.keys.items) s.queues.clock s.queues.items (Some c.in_ok-key.key) c.self.invariant.queued.queued c.in_ok-key.ensures.found in
    rw (c.from_residual-in_err-number.ensures, ← c.self.view_is) (ap (option_map (λ x. x.number)) c.in_err-number.ensures ∙ is)

pub returns-clause-found : goal.returns-clause-found
returns-clause-found g c =
    let s = c.self.inside in
    let is = due_number (call_at s.table.calls) (key_of s.first s.keys.items) s.queues.clock s.queues.items (Some c.in_ok-key.key) c.self.invariant.queued.queued c.in_ok-key.ensures.found in
    rw (← c.self.view_is) (ap (option_map (λ x. x.number)) c.in_ok-number.ensures ∙ is)

pub returns-clause-live : goal.returns-clause-live
returns-clause-live g c =
    rw (← c.self.view_is) (live_at c.self.inside.table c.in_ok-key.key c.in_ok-number.field-0.now (sym c.in_ok-number.ensures))
