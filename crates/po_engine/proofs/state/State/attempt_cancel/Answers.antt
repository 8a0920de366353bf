use Rattle.std.proofs.Common.{◌≡◌, ap, sym, subst, ◌∙◌, ◌-◌, ◌≤◌, arith, Some}
use Rattle.std.specs.List.{find, count_by}
use Rattle.po_engine.specs.WaitingCalls.{has_number}
use Rattle.po_engine.specs.Arrival.{AreAt}
use Rattle.po_engine.specs.StateView.{AreLow}
use Rattle.po_engine.specs.StateView.{state_with_calls}
use Rattle.po_engine.specs.Pick.{owed}
use Rattle.po_engine.proofs.Owing.{owed_marked, low_marked, attempt_again}
use Rattle.po_engine.proofs.PlaceSteps.{at_marked}
use Rattle.po_engine.proofs.state.State.attempt_cancel.Goals as goal

pub overflow_sub-self : goal.overflow_sub-self
overflow_sub-self g c =
    let i = c.self.inside in
    let s = state_with_calls i.unit i.calls i.finalized in
    let x = c.in-Some.call in
    let found = subst (λ v. find (has_number c.args.ticket.number) v.state.waiting ≡ Some x) (sym c.self.view_is) (sym (rw c.requires.live at c.waiting_call.ensures) ∙ c.in-Some.is) in
    omega (arith, owed_marked g.U.Unit.meaning s c.args.ticket.number x found c.if-not-call-2.true (c.recall_invariant.ensures.sound.once c.args.ticket.number), c.self.invariant.owed)

pub invariant_of-self : goal.invariant_of-self
invariant_of-self g c =
    let i = c.self.inside in
    let m = g.U.Unit.meaning in
    let s = state_with_calls i.unit i.calls i.finalized in
    let x = c.in-Some.call in
    let found = subst (λ v. find (has_number c.args.ticket.number) v.state.waiting ≡ Some x) (sym c.self.view_is) (sym (rw c.requires.live at c.waiting_call.ensures) ∙ c.in-Some.is) in
    let marked = sym (ap (λ v. v.waiting) c.mark.ensures) in
    record {
      total = ap (λ v. v.total) c.mark.ensures ∙ c.self.invariant.total;
      owed = subst (λ xs. i.owed - 1 ≡ owed m (record s { waiting = xs })) marked (omega (arith, owed_marked m s c.args.ticket.number x found c.if-not-call-2.true (c.recall_invariant.ensures.sound.once c.args.ticket.number), c.self.invariant.owed));
      ranks = subst (AreLow m) marked (low_marked m c.args.ticket.number i.calls.waiting c.self.invariant.ranks);
    }

pub returns-then-not-call-2-clause-places : goal.returns-then-not-call-2-clause-places
returns-then-not-call-2-clause-places g c = λ f at.
    let i = c.self.inside in
    let before = subst (λ v. AreAt f v.state.waiting v.places) (sym c.self.view_is) at in
    subst (λ v. AreAt f v.waiting v.places) (sym c.mark.ensures) (at_marked f c.args.ticket.number i.calls.waiting i.calls.places before)

pub returns-else-not-call-2-clause-state : goal.returns-else-not-call-2-clause-state
returns-else-not-call-2-clause-state g c =
    let now = c.args.self.now in
    let found = sym (rw c.requires.live at c.waiting_call.ensures) ∙ c.in-Some.is in
    let once = subst (λ v. count_by (has_number c.args.ticket.number) v.state.waiting ≤ 1) c.self.view_is (c.recall_invariant.ensures.sound.once c.args.ticket.number) in
    ap (λ t. record now { state = t }) (sym (attempt_again now.state c.args.ticket.number c.in-Some.call found c.if-not-call.false c.if-not-call-2.false once))
