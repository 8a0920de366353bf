-- The key with the least stamp is that of the first call that is due.
use Rattle.po_queues.proofs.ExpirationLemmas.{due_some, due_none}
use Rattle.po_queues.proofs.expirations.Expirations.first_due.Goals as goal

pub returns-clause-found : goal.returns-clause-found
returns-clause-found c = due_some c.self.invariant c.self.view_is c.least.result c.least.ensures.some

pub returns-clause-none : goal.returns-clause-none
returns-clause-none c = λ none. due_none c.self.invariant c.self.view_is (c.least.ensures.none none)
