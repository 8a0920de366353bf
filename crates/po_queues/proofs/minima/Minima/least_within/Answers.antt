-- The root's number is the least, and a leaf has it.
use Rattle.std.proofs.Common.{◌<◌, ◌∙◌, sym, subst}
use Rattle.std.specs.Prelude.{IfSome}
use Rattle.po_queues.proofs.LeastLemmas.{root_is, no_number, all_above, leaf_least}
use Rattle.po_queues.proofs.minima.Minima.least_within.Goals as goal

pub returns-in_err-least-clause-none : goal.returns-in_err-least-clause-none
returns-in_err-least-clause-none c = λ _ key. subst (λ o. IfSome o (λ n. c.args.limit < n))
    (sym (no_number c.self.invariant _ c.self.view_is
    (root_is c.self.invariant _ _ c.deref.ensures.value c.in_ok-last.ensures.value ∙ c.in_err-least.was) key)) tt

pub returns-then-least-limit-clause-none : goal.returns-then-least-limit-clause-none
returns-then-least-limit-clause-none c = λ _. all_above c.self.invariant _ c.self.view_is c.in_ok-least.least c.args.limit
    (root_is c.self.invariant _ _ c.deref.ensures.value c.in_ok-last.ensures.value ∙ c.in_ok-least.was)
    c.if-least-limit.true

pub returns-clause-some : goal.returns-clause-some
returns-clause-some c = leaf_least c.self.invariant _ c.self.view_is c.in_ok-least.least _
    (root_is c.self.invariant _ _ c.deref.ensures.value c.in_ok-last.ensures.value ∙ c.in_ok-least.was)
    c.least_leaf.ensures.leaf c.least_leaf.ensures.least
