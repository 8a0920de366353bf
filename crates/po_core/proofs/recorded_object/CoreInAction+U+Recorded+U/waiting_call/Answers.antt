use Rattle.std.proofs.Common.{◌≡◌, ◌∙◌, sym, ap, ap₂, Some}
use Rattle.std.specs.List.{find}
use Rattle.po_engine.specs.WaitingCalls.{has_number}
use Rattle.po_engine.specs.Calls.{key_of}
use Rattle.po_core.proofs.Keys.{waiting_by_key, none_without_key}
use Rattle.po_core.proofs.recorded_object.CoreInAction+U+Recorded+U.waiting_call.Goals as goal

pub returns-in_err-call-clause-call : goal.returns-in_err-call-clause-call
returns-in_err-call-clause-call g c =
    let a = c.self.inside in
    let i = c.self.invariant.has in
    let has = c.recall_invariant.ensures.tickets in
    let same : key_of c.first_number.result a.kept.keys.items c.args.n ≡ key_of a.state.first a.state.keys c.args.n = ap₂ (λ f l. key_of f l c.args.n) (c.first_number.ensures ∙ sym i.first) i.keys in
    let t = c.in_ok-ticket.ticket in
    let number = c.in_ok-ticket.ensures.1 in
    let led : key_of a.state.first a.state.keys t.number ≡ Some t.key = ap (key_of a.state.first a.state.keys) number ∙ sym same ∙ c.in_ok-ticket.ensures.0 in
    rw (c.from_residual-in_err-call.ensures, ← c.self.view_is) (c.in_err-call.ensures ∙ waiting_by_key a.state.first a.state.keys a.state.tickets a.state.state.waiting t led has ∙ ap (λ n. find (has_number n) a.state.state.waiting) number)

pub returns-in_err-ticket-clause-call : goal.returns-in_err-ticket-clause-call
returns-in_err-ticket-clause-call g c =
    let a = c.self.inside in
    let i = c.self.invariant.has in
    let has = c.recall_invariant.ensures.tickets in
    let same : key_of c.first_number.result a.kept.keys.items c.args.n ≡ key_of a.state.first a.state.keys c.args.n = ap₂ (λ f l. key_of f l c.args.n) (c.first_number.ensures ∙ sym i.first) i.keys in
    rw (c.from_residual.ensures, ← c.self.view_is) (sym (none_without_key a.state.first a.state.keys a.state.tickets a.state.state.waiting c.args.n (sym same ∙ c.in_err-ticket.ensures) has))
