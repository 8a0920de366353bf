use Rattle.po_core.proofs.bounded_core.Core+U+Unrecorded+U.copy.Goals as goal

pub invariant_of-result : goal.invariant_of-result
invariant_of-result g c = rw c.in_ok-copy.ensures c.self.invariant
