use Rattle.std.proofs.Common.{◌∙◌, ◌∷◌, [], ap, subst}
use Rattle.po_driven.specs.Answering.{LooksOn}
use Rattle.po_calls.specs.declared.end.End.TheVariants.{Completed as IsCompleted}
use Rattle.po_driven.specs.DrivenView.{KeepsSetup}
use Rattle.po_driven.specs.Servicing.{Services}
use Rattle.po_driven.specs.declared.happening.Happening.TheVariants.{Ended, Served}
use Rattle.po_driven.proofs.Setups.{setup_then}
use Rattle.po_driven.proofs.Between.{completed, issues_open, may_issue, named, passed_setup, resting_idle, running, running_driven, same_settling, settling, completed_calls}
use Rattle.po_driven.proofs.driven_object.DrivenObject.completed.Goals as goal

pub returns-clause-through : goal.returns-clause-through
returns-clause-through c =
    let d = c.args.self.now in let a = c.args.arriving in let i = c.self.inside in
    let is = c.recall_invariant.ensures in
    let r = c.ask.result in let new = c.ask.new.self in let step = c.ask.new.step in
    let set = c.self.view_is in
    let v = settling d (completed_calls d a) in
    let at = same_settling d c.accept_served.new.self (completed_calls d a) i.limits.items c.new-self-inside.result.items
    (c.accept_served.ensures ∙ ap (λ v. completed_calls v a) set) (ap (λ v. v.limits) set) c.new-self-inside.ensures in
    record {
      between = running d a;
      told = named a;
      driven = running_driven d a is (resting_idle d is c.requires.may.accepts.resting);
      issues = issues_open d a (may_issue d a.entry c.requires.may c.requires.entry) c.requires.stays;
      ends = completed d a new step r (subst (λ v. Services step v new r) at c.ask.ensures.services) (c.ask.ensures.same ∙ c.new-self-inside.ensures) (subst (λ v. LooksOn c.ask.result v.calls.object.state.waiting v.closed) at c.ask.ensures.looks_on);
    }

pub returns-clause-setup : goal.returns-clause-setup
returns-clause-setup c =
    let d = c.args.self.now in let a = c.args.arriving in let i = c.self.inside in
    let new = c.ask.new.self in
    let set = c.self.view_is in
    let v = settling d (completed_calls d a) in
    let at = same_settling d c.accept_served.new.self (completed_calls d a) i.limits.items c.new-self-inside.result.items
    (c.accept_served.ensures ∙ ap (λ v. completed_calls v a) set) (ap (λ v. v.limits) set) c.new-self-inside.ensures in
    setup_then d v new (passed_setup d a (IsCompleted a.value) (Served a ∷ Ended (IsCompleted a.value) ∷ [])) (subst (λ v. KeepsSetup v new) at c.ask.ensures.services.setup)
