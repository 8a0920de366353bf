use Rattle.std.proofs.Common.{ℕ, ◌≡◌, ◌∙◌, None, Some, ap, sym, subst, arith}
use Rattle.std.specs.List.{find}
use Rattle.po_engine.specs.ObjectState.{ObjectState}
use Rattle.po_engine.specs.WaitingCalls.{has_number}
use Rattle.po_driven.specs.AtRest.{IsAtRest}
use Rattle.po_driven.proofs.Leads.{marked}
use Rattle.po_driven.proofs.Held.{attempted_unit, length_marked}
use Rattle.po_driven.proofs.Rests.{marks, rests_marked}
use Rattle.po_driven.proofs.Spots.{attempted}
use Rattle.po_driven.specs.OnePlace.{HasTickets}
use Rattle.po_driven.proofs.Tickets.{same_tickets}
use Rattle.po_driven.proofs.Traces.{traced_on}
use Rattle.po_driven.specs.declared.happening.Happening.TheVariants.{Marked}
use Rattle.po_driven.specs.DrivenCallsView.{DrivenCallsView, KeepsTickets}
use Rattle.po_driven.proofs.driven_calls.DrivenCalls.mark.Goals as goal

pub invariant_of-self : goal.invariant_of-self
invariant_of-self c =
    let i = c.self.inside in
    let old : DrivenCallsView = record { object = i.state; place = i.place; happened = i.happened.items } in
    let a = c.attempt_cancel.ensures in
    let serving = subst (λ v. v.object.serving ≡ None) (sym c.self.view_is) c.requires.serving in
    let n = c.args.ticket.number in
    let found = subst (λ v. find (has_number n) v.object.state.waiting ≡ Some c.args.call) (sym c.self.view_is) c.requires.found in
    let new : DrivenCallsView = record { object = c.attempt_cancel.new.self; place = i.place; happened = c.then-self-inside.result.items } in
    let goes = marked i.state c.attempt_cancel.new.self n (ap (λ v. v.state) a.state) (ap (λ v. v.serving) a.state ∙ serving) in
    traced_on old new (Marked n) c.self.invariant (ap (λ v. v.state.unit) a.state ∙ attempted_unit i.state.state n (find (has_number n) i.state.state.waiting)) c.then-self-inside.ensures (omega arith) goes
    (λ p. attempted i.state c.attempt_cancel.new.self n serving (ap (λ v. v.state) a.state) (ap (λ v. v.serving) a.state ∙ serving) p)
    (subst HasTickets (sym a.state) (omega (arith, c.self.invariant.tickets, length_marked i.state.state n c.args.call found c.requires.without_abort)))
    a.rises (a.kept i.place c.self.invariant.later)

pub returns-clause-rests : goal.returns-clause-rests
returns-clause-rests c = λ closed rest.
    let i = c.self.inside in let n = c.args.ticket.number in let a = c.attempt_cancel.ensures.state in
    let found = subst (λ v. find (has_number n) v.object.state.waiting ≡ Some c.args.call) (sym c.self.view_is) c.requires.found in
    rests_marked i.state c.attempt_cancel.new.self n c.args.call found c.requires.without_abort (ap (λ v. v.state) a) (ap (λ v. v.serving) a) closed (subst (λ v. IsAtRest v.object closed) (sym c.self.view_is) rest)

pub returns-clause-tickets_kept : goal.returns-clause-tickets_kept
returns-clause-tickets_kept c =
    let s = c.self.inside.state in let m = c.attempt_cancel.new.self in let a = c.attempt_cancel.ensures.state in let n = c.args.ticket.number in
    let found = subst (λ v. find (has_number n) v.object.state.waiting ≡ Some c.args.call) (sym c.self.view_is) c.requires.found in
    let is = ap (λ v. v.state) a ∙ marks s.state n c.args.call (find (has_number n) s.state.waiting) found c.requires.without_abort in
    subst (λ v. KeepsTickets v.object m) c.self.view_is (same_tickets s m (ap (λ v. v.tickets) a) (ap (λ (t : ObjectState ℕ ℕ). t.ended) is))
