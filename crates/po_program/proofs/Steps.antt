-- SPDX-License-Identifier: MIT
-- Steps of the execution of statements.
use Rattle.std.proofs.Common.{◌≡◌, ℕ, ℤ, ap, ◌∙◌, sym, refl, Ok}
use Rattle.po_program.specs.declared.tree.Area.{Area}
use Rattle.po_program.specs.declared.tree.Expr.{Expr}
use Rattle.po_program.specs.declared.tree.Stmt.{Stmt}
use Rattle.po_program.specs.declared.tree.Stmt.TheVariants.{AssignAt}
use Rattle.po_program.specs.declared.tree.Completion.{Completion}
use Rattle.po_program.specs.declared.tree.Completion.TheVariants.{Normal, Exited, Returned, Raised, Requeued}
use Rattle.po_program.specs.Execution.{Memory, Ended, Setting, Calls, given, with_number, assigned_at, executed, then_executed}

-- A component's assignment, once the value is there.
pub component : (s : Setting) (k : Calls) (b : ℕ) (m : Memory) (a : Area) (i : ℕ) (d e : Expr) (v w : ℤ) (r : Ended) (t : Stmt) → t ≡ AssignAt a i d e → given s e b m ≡ Ok v → w ≡ v → r ≡ with_number (given s d b m) m (λ z. assigned_at a b i z w m) → r ≡ executed t s k b m
component s k b m a i d e v w r t h g n q =
    q
    ∙ ap (λ x. with_number (given s d b m) m (λ z. assigned_at a b i z x m)) n
    ∙ sym (ap (λ q. with_number q m (λ x. with_number (given s d b m) m (λ z. assigned_at a b i z x m))) g)
    ∙ sym (ap (λ q. executed q s k b m) h)

-- A statement that completes normally, and then another.
pub normal : (r x : Ended) (m : Memory) (go : Memory → Ended) → (Normal, m) ≡ r → x ≡ go m → x ≡ then_executed r go
normal r x m go h e = e ∙ ap (λ q. then_executed q go) h

stops : (c : Completion) (m : Memory) (go : Memory → Ended) → (c ≡ Normal → ⊥) → (c, m) ≡ then_executed (c, m) go
stops Normal m go a = absurd (a refl)
stops (Exited n) m go a = refl
stops Returned m go a = refl
stops (Raised k) m go a = refl
stops (Requeued e w) m go a = refl

-- A statement that doesn't complete normally.
pub abrupt : (r : Ended) (c : Completion) (m : Memory) (go : Memory → Ended) → (c, m) ≡ r → (c ≡ Normal → ⊥) → (c, m) ≡ then_executed r go
abrupt r c m go h a = stops c m go a ∙ ap (λ q. then_executed q go) h
