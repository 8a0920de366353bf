use Rattle.std.proofs.Common.{◌∙◌, ◌∷◌, [], ap, subst}
use Rattle.po_driven.specs.Answering.{Breaks}
use Rattle.po_calls.specs.declared.end.End.TheVariants.{Raised}
use Rattle.po_driven.specs.DrivenView.{KeepsSetup}
use Rattle.po_driven.specs.Servicing.{Services}
use Rattle.po_driven.specs.declared.happening.Happening.TheVariants.{Ended, Served}
use Rattle.po_driven.proofs.Setups.{setup_then}
use Rattle.po_driven.proofs.Between.{failed, issues_open, may_issue, named, passed_setup, resting_idle, running, running_driven, same_settling, settling, failed_calls}
use Rattle.po_driven.proofs.driven_object.DrivenObject.failed.Goals as goal

pub returns-clause-through : goal.returns-clause-through
returns-clause-through c =
    let d = c.args.self.now in let a = c.args.arriving in let i = c.self.inside in
    let is = c.recall_invariant.ensures in
    let r = c.break_one.result in let new = c.break_one.new.self in let step = c.break_one.new.step in
    let set = c.self.view_is in
    let v = settling d (failed_calls d a) in
    let at = same_settling d c.accept_served.new.self (failed_calls d a) i.limits.items c.new-self-inside.result.items
    (c.accept_served.ensures ∙ ap (λ v. failed_calls v a) set) (ap (λ v. v.limits) set) c.new-self-inside.ensures in
    record {
      between = running d a;
      told = named a;
      driven = running_driven d a is (resting_idle d is c.requires.may.accepts.resting);
      issues = issues_open d a (may_issue d a.entry c.requires.may c.requires.entry) c.requires.stays;
      ends = failed d a new step r (subst (λ v. Services step v new r) at c.break_one.ensures.services) (c.break_one.ensures.fresh) (subst (λ v. Breaks c.break_one.result v c.break_one.new.self) at c.break_one.ensures.breaks);
    }

pub returns-clause-setup : goal.returns-clause-setup
returns-clause-setup c =
    let d = c.args.self.now in let a = c.args.arriving in let i = c.self.inside in
    let new = c.break_one.new.self in
    let set = c.self.view_is in
    let v = settling d (failed_calls d a) in
    let at = same_settling d c.accept_served.new.self (failed_calls d a) i.limits.items c.new-self-inside.result.items
    (c.accept_served.ensures ∙ ap (λ v. failed_calls v a) set) (ap (λ v. v.limits) set) c.new-self-inside.ensures in
    setup_then d v new (passed_setup d a (Raised 0) (Served a ∷ Ended (Raised 0) ∷ [])) (subst (λ v. KeepsSetup v new) at c.break_one.ensures.services.setup)
