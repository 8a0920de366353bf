use Rattle.std.proofs.Common.{◌≡◌, ◌∙◌, Some, ap, sym, subst}
use Rattle.po_driven.specs.Answering.{LooksOn}
use Rattle.po_driven.specs.Steps.{EndsBody}
use Rattle.po_driven.proofs.Between.{completes, fails, leaves}
use Rattle.po_driven.proofs.driven_object.DrivenObject.body_ended.Goals as goal

pub returns-in-Completed-clause-ends : goal.returns-in-Completed-clause-ends
returns-in-Completed-clause-ends c =
    let x = c.in-Some.call in let r = c.ask.result in let new = c.ask.new.self in let step = c.ask.new.step in
    let d = c.args.self.now in
    let held = sym (ap (λ o. o.serving) c.state.ensures) ∙ sym c.in_service.ensures ∙ c.in-Some.is in
    let serving = subst (λ v. v.calls.object.serving ≡ Some x) c.self.view_is held in
    let m = c.end.new.self in let e = c.end.ensures in let k = c.ask.ensures in
    let waiting = ap (λ s. s.waiting) e.state in let clock = ap (λ s. s.clock) e.state in
    let looks = subst (λ l. LooksOn r d.calls.object.state.waiting l) e.fresh (subst (λ w. LooksOn r w m.closed) waiting k.looks_on) in
    subst (λ b. EndsBody b step d new r) (sym c.in-Completed.is)
    (completes d m new x step r serving e.setup waiting clock k.services (k.same ∙ e.fresh) e.noted looks)

pub returns-in-Failed-clause-ends : goal.returns-in-Failed-clause-ends
returns-in-Failed-clause-ends c =
    let x = c.in-Some.call in let r = c.break_one.result in let new = c.break_one.new.self in let step = c.break_one.new.step in
    let d = c.args.self.now in
    let held = sym (ap (λ o. o.serving) c.state.ensures) ∙ sym c.in_service.ensures ∙ c.in-Some.is in
    let serving = subst (λ v. v.calls.object.serving ≡ Some x) c.self.view_is held in
    let m = c.end-in-Failed.new.self in let e = c.end-in-Failed.ensures in let k = c.break_one.ensures in
    let waiting = ap (λ s. s.waiting) e.state in let clock = ap (λ s. s.clock) e.state in
    subst (λ b. EndsBody b step d new r) (sym c.in-Failed.is)
    (fails d m new x step r serving e.setup waiting clock k.services (k.fresh) e.noted k.breaks)

pub returns-in-RequeuedElsewhere-clause-ends : goal.returns-in-RequeuedElsewhere-clause-ends
returns-in-RequeuedElsewhere-clause-ends c =
    let x = c.in-Some.call in let r = c.ask-in-RequeuedElsewhere.result in let new = c.ask-in-RequeuedElsewhere.new.self in let step = c.ask-in-RequeuedElsewhere.new.step in
    let d = c.args.self.now in
    let held = sym (ap (λ o. o.serving) c.state.ensures) ∙ sym c.in_service.ensures ∙ c.in-Some.is in
    let serving = subst (λ v. v.calls.object.serving ≡ Some x) c.self.view_is held in
    let m = c.requeue_elsewhere.new.self in let e = c.requeue_elsewhere.ensures in let k = c.ask-in-RequeuedElsewhere.ensures in
    let waiting = ap (λ s. s.waiting) e.state in let clock = ap (λ s. s.clock) e.state in
    let looks = subst (λ l. LooksOn r d.calls.object.state.waiting l) e.fresh (subst (λ w. LooksOn r w m.closed) waiting k.looks_on) in
    subst (λ b. EndsBody b step d new r) (sym c.in-RequeuedElsewhere.is)
    (leaves d m new x step r serving e.setup waiting clock k.services (k.same ∙ e.fresh) e.noted looks)
