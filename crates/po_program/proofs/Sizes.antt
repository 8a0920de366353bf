-- SPDX-License-Identifier: MIT
-- Bodies of operations are no deeper than the deepest one.
use Rattle.std.proofs.Common.{◌≡◌, ℕ, zero, suc, ◌+◌, ◌-◌, ◌*◌, ◌<◌, ◌≤◌, max, List, [], ◌∷◌, length, get_or, arith, refl, sym, subst}
use Rattle.po_program.specs.declared.tree.Operation.{Operation}
use Rattle.po_program.specs.declared.tree.Stmt.{size-Stmt}

abbrev pub deepest : List Operation → ℕ
deepest [] = 0
deepest (p ∷ ps) = max (size-Stmt p.body) (deepest ps)

-- More than what the execution of a body counts down from.
abbrev pub span : List Operation → ℕ
span ps = 2 * deepest ps + 2

-- The body of an operation that there is.
pub no_deeper : (ps : List Operation) (o : ℕ) (p : Operation) → o < length ps → size-Stmt (get_or ps o p).body ≤ deepest ps
no_deeper [] o p h = absurd (omega (arith, h))
no_deeper (q ∷ ps) zero p h = omega arith
no_deeper (q ∷ ps) (suc o) p h =
    let b : o < length ps = omega (arith, h) in
    let n : size-Stmt (get_or ps o p).body ≤ deepest ps = no_deeper ps o p b in
    omega arith

less : (ps : List Operation) (d s : ℕ) → (d ≡ 0 → ⊥) → s ≤ deepest ps → (d - 1) * span ps + 2 * s < d * span ps
less ps zero s h b = absurd (h refl)
less ps (suc d) s h b = grind arith

-- The execution of a called operation counts down from less than the call.
pub falls : (ps qs : List Operation) (o : ℕ) (p : Operation) (d t : ℕ) → qs ≡ ps → o < length qs → p ≡ get_or qs o p → (d ≡ 0 → ⊥) → d * span ps ≡ t → (d - 1) * span ps + 2 * size-Stmt p.body < t
falls ps qs o p d t e h g z m =
    let b : size-Stmt p.body ≤ deepest ps = subst (λ (xs : List Operation). size-Stmt p.body ≤ deepest xs) e (subst (λ (q : Operation). size-Stmt q.body ≤ deepest qs) (sym g) (no_deeper qs o p h)) in
    subst (λ (x : ℕ). (d - 1) * span ps + 2 * size-Stmt p.body < x) m (less ps d (size-Stmt p.body) z b)
