-- SPDX-License-Identifier: MIT
-- `==` on the values of calls is equality.
use Rattle.std.specs.Prelude.{◌≡◌, ℕ, Bool, true, false, ◌&&◌, List, ℤ, refl}
use Rattle.std.specs.Ordering.{int_eq}
use Rattle.std.specs.Cmp.Lexicographic.{pointwise}
use Rattle.std.proofs.Common.{ap, ◌∙◌, eqb}
use Rattle.std.proofs.lemmas.Bool.Decides.{Decides-eqb, Decides-int_eq}
use Rattle.std.proofs.lemmas.Slice.Eq.{slice_eq-Decides}
use Rattle.po_ada_unit.specs.declared.values.Values.{Values}
use Rattle.po_ada_unit.specs.Object.{values}

both : (p q : Bool) → (p && q) ≡ true → (p ≡ true) × (q ≡ true)
both true true h = (refl, refl)
both true false h = absurd (cc)
both false q h = absurd (cc)

same : (xs ys : List ℤ) (r s : ℕ) → xs ≡ ys → r ≡ s → values xs r ≡ values ys s
same xs ys r s h g = ap (λ zs. values zs r) h ∙ ap (λ n. values ys n) g

-- Two values that `==` calls equal are equal.
pub values_equal : (a b : Values) → (pointwise int_eq a.cells b.cells && eqb a.requeues b.requeues) ≡ true → a ≡ b
values_equal a b h =
    let p = both (pointwise int_eq a.cells b.cells) (eqb a.requeues b.requeues) h in
    same a.cells b.cells a.requeues b.requeues ((slice_eq-Decides Decides-int_eq a.cells b.cells (pointwise int_eq a.cells b.cells) refl).0 p.0) ((Decides-eqb a.requeues b.requeues).0 p.1)
