-- The root's number is the least, and a leaf has it.
use Rattle.std.proofs.Common.{◌∙◌}
use Rattle.po_queues.proofs.LeastLemmas.{root_is, no_number, leaf_least}
use Rattle.po_queues.proofs.minima.Minima.least.Goals as goal

pub returns-in_err-_least-clause-none : goal.returns-in_err-_least-clause-none
returns-in_err-_least-clause-none c = λ _. no_number c.self.invariant _ c.self.view_is
    (root_is c.self.invariant _ _ c.deref.ensures.value c.in_ok-last.ensures.value ∙ c.in_err-_least.was)

pub returns-clause-some : goal.returns-clause-some
returns-clause-some c = leaf_least c.self.invariant _ c.self.view_is c.in_ok-_least._least _
    (root_is c.self.invariant _ _ c.deref.ensures.value c.in_ok-last.ensures.value ∙ c.in_ok-_least.was)
    c.least_leaf.ensures.leaf c.least_leaf.ensures.least
