use Rattle.po_driven.proofs.Between.{body_accepted, body_kept, body_named}
use Rattle.po_driven.proofs.Setups.{setup_then}
use Rattle.po_driven.proofs.driven_object.DrivenObject.issued_and_ended.Goals as goal

pub returns-clause-kept : goal.returns-clause-kept
returns-clause-kept c =
    let d = c.args.self.now in let m = c.issue.new.self in let b = c.body_ended.ensures.ends in let i = c.in-Run.ensures.issues in
    body_kept d m c.body_ended.new.self c.args.arriving c.args.end c.body_ended.new.step c.body_ended.result c.requires c.recall_invariant.ensures c.recall_invariant-2.ensures i.tells i.setup i.noted b

pub returns-clause-accepted : goal.returns-clause-accepted
returns-clause-accepted c =
    let d = c.args.self.now in let m = c.issue.new.self in let b = c.body_ended.ensures.ends in let i = c.in-Run.ensures.issues in
    body_accepted d m c.body_ended.new.self c.args.arriving c.args.end c.body_ended.new.step c.body_ended.result c.requires c.recall_invariant.ensures c.recall_invariant-2.ensures i.tells i.setup i.noted b

pub returns-clause-named : goal.returns-clause-named
returns-clause-named c =
    let d = c.args.self.now in let m = c.issue.new.self in let b = c.body_ended.ensures.ends in let i = c.in-Run.ensures.issues in
    body_named d m c.body_ended.new.self c.args.arriving c.args.end c.body_ended.new.step c.body_ended.result c.requires c.recall_invariant.ensures c.recall_invariant-2.ensures i.tells i.setup i.noted b c.args.step.now c.body_ended.new.step

pub returns-clause-setup : goal.returns-clause-setup
returns-clause-setup c = setup_then c.args.self.now c.issue.new.self c.body_ended.new.self c.in-Run.ensures.issues.setup c.body_ended.ensures.ends.setup
