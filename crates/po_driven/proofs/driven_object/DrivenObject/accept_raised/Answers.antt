use Rattle.std.proofs.Common.{◌≡◌, ◌∙◌, ◌++◌, ◌∷◌, [], None, sym, subst, ap, append_assoc}
use Rattle.std.specs.Prelude.{IsSome, IsSomeAnd}
use Rattle.std.specs.List.{slice_get}
use Rattle.po_engine.specs.Driving.{new_call}
use Rattle.po_driven.specs.Noted.{issued, NamesCaller}
use Rattle.po_driven.specs.declared.happening.Happening.TheVariants.{Arrived, Broken}
use Rattle.po_driven.specs.declared.words.Barrier.TheVariants.{Raised}
use Rattle.po_driven.proofs.Lengths.{one_waits}
use Rattle.po_driven.proofs.driven_object.DrivenObject.accept_raised.Goals as goal

pub returns-clause-noted : goal.returns-clause-noted
returns-clause-noted c =
    let i = c.self.inside in let a = c.args.arriving in let b = c.break_one.ensures in
    let waiting = ap (λ s. s.waiting) c.accept_closed.ensures.state in
    let breaks = b.first (subst (λ l. IsSome (slice_get l 0)) (sym waiting) (one_waits i.calls.object.state.waiting (new_call i.calls.object.state.next a))) in
    let notes = rw breaks at b.services.noted ∙ ap (λ h. h ++ Broken ∷ []) c.accept_closed.ensures.happened ∙ append_assoc i.calls.happened (Arrived a None ∷ []) (Broken ∷ []) in
    subst (λ v. c.break_one.new.self.calls.happened ≡ v.calls.happened ++ issued c.break_one.result a Raised v) c.self.view_is (rw breaks notes)

pub returns-clause-names : goal.returns-clause-names
returns-clause-names c =
    let i = c.self.inside in let a = c.args.arriving in let b = c.break_one.ensures in
    let waiting = ap (λ s. s.waiting) c.accept_closed.ensures.state in
    let breaks = b.first (subst (λ l. IsSome (slice_get l 0)) (sym waiting) (one_waits i.calls.object.state.waiting (new_call i.calls.object.state.next a))) in
    let named = subst (λ l. IsSomeAnd (slice_get l 0) (λ x. c.break_one.new.step.caller ≡ x.value)) waiting (rw breaks at b.services.names) in
    subst (λ v. NamesCaller c.break_one.result a Raised c.break_one.new.step v) c.self.view_is (rw breaks named)
