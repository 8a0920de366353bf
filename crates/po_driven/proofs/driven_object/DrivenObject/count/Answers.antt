use Rattle.std.proofs.Common.{◌≡◌, ◌<◌, ◌∙◌, subst, count_by}
use Rattle.po_engine.specs.WaitingCalls.{is_on}
use Rattle.po_engine.proofs.Lists.{count_at}
use Rattle.po_driven.proofs.driven_object.DrivenObject.count.Goals as goal

pub returns-then-e-entries-clause-exact : goal.returns-then-e-entries-clause-exact
returns-then-e-entries-clause-exact c =
    let e = c.args.e in let s = c.state.result.now.state in
    let here = subst (λ o. e < o.state.unit → c.count.result ≡ count_by (is_on e) o.state.waiting) c.state.ensures (λ lt. c.count.ensures ∙ count_at s.unit s.waiting e lt) in
    subst (λ v. e < v.calls.object.state.unit → c.count.result ≡ count_by (is_on e) v.calls.object.state.waiting) c.self.view_is here
