use Rattle.std.proofs.Common.{◌∙◌, sym, subst}
use Rattle.po_driven.specs.DrivenView.{Awaits}
use Rattle.po_driven.proofs.driven_object.DrivenObject.cancel.Goals as goal

pub invariant_of-self-then-not-expired : goal.invariant_of-self-then-not-expired
invariant_of-self-then-not-expired c =
    let i = c.self.inside in let k = c.self.invariant in let m = c.mark.ensures in
    record {
      limits = k.limits ∙ sym m.unit;
      awaits = subst (λ p. Awaits p c.mark.new.self.object i.closed.items) (sym c.in-Resting.is) (m.rests i.closed.items (subst (λ p. Awaits p i.calls.object i.closed.items) c.in-Resting.is k.awaits));
    }
