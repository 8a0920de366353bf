-- SPDX-License-Identifier: MIT
use Rattle.std.proofs.Common.{rules}
use Rattle.std.proofs.lemmas.List.Sorted.{IsNonDecreasingBy-from_sort_by_key, IsNonDecreasingBy-take}
use Rattle.po_ada_tree.specs.declared.fault.Fault.{Fault}
use Rattle.po_ada_lint.proofs.telling.first_hints.Goals as goal

-- src/telling.rt:66:1
pub returns-clause-sorted : goal.returns-clause-sorted
returns-clause-sorted c = rw c.truncate.ensures.items (IsNonDecreasingBy-take (λ (h : Fault). h.place) 20 _ (IsNonDecreasingBy-from_sort_by_key (λ (h : Fault). h.place) _ c.in_ok-sort_by_key.ensures.sorted (λ a r q k. search rules)))
