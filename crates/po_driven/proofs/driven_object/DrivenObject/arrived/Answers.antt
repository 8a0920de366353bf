use Rattle.std.proofs.Common.{◌≡◌, [], subst}
use Rattle.std.specs.Prelude.{IfSome, IsSome}
use Rattle.std.specs.List.{find}
use Rattle.po_engine.specs.WaitingCalls.{is_on}
use Rattle.po_driven.proofs.Rests.{none_waits, none_found}
use Rattle.po_driven.proofs.driven_object.DrivenObject.arrived.Goals as goal

pub returns-in_default-next_busy-clause-ticket : goal.returns-in_default-next_busy-clause-ticket
returns-in_default-next_busy-clause-ticket c =
    let waits = subst (λ o. IfSome o (λ _. IsSome (find (is_on c.args.e) c.args.self.now.calls.object.state.waiting))) c.in-Some.is c.requires.queued in
    let none = none_waits c.state.result.now.state.waiting c.in_default-next_busy.ensures.below in
    let none_now = subst (λ v. v.calls.object.state.waiting ≡ []) c.self.view_is (subst (λ o. o.state.waiting ≡ []) c.state.ensures none) in
    absurd (none_found (is_on c.args.e) c.args.self.now.calls.object.state.waiting none_now waits)
