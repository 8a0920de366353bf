-- SPDX-License-Identifier: MIT
-- The turns of a loop.
use Rattle.std.proofs.Common.{◌≡◌, ℕ, zero, suc, ap, ◌∙◌, refl}
use Rattle.po_program.specs.declared.tree.Completion.{Completion}
use Rattle.po_program.specs.declared.tree.Completion.TheVariants.{Normal, Exited, Returned, Raised, Requeued}
use Rattle.po_program.specs.Exceptions.{too_many_turns}
use Rattle.po_program.specs.Execution.{Memory, memory, Ended, turns, spend, then_turn, exited}

-- A turn, if one is left, and what follows it.
first : (k : ℕ) (B : Memory → Ended) (m : Memory) (l : ℕ) (r : Ended) → m.left ≡ suc l → B (memory m.object m.stack l) ≡ r → turns (suc k) B m ≡ then_turn r (turns k B)
unfolding turns
first k B m l r s b = ap (λ n. spend m (λ o. then_turn (B o) (turns k B)) n) s ∙ ap (λ q. then_turn q (turns k B)) b

-- After a turn that completes normally comes the next one.
pub turn : (k : ℕ) (B : Memory → Ended) (m m' : Memory) (l : ℕ) → m.left ≡ suc l → B (memory m.object m.stack l) ≡ (Normal, m') → turns (suc k) B m ≡ turns k B m'
turn k B m m' l s b = first k B m l (Normal, m') s b

-- An exit ends the loop.
pub exit_turn : (k : ℕ) (B : Memory → Ended) (m m' : Memory) (l n : ℕ) → m.left ≡ suc l → B (memory m.object m.stack l) ≡ (Exited n, m') → turns (suc k) B m ≡ (exited n, m')
exit_turn k B m m' l n s b = first k B m l (Exited n, m') s b

abandoned : (c : Completion) (m : Memory) (go : Memory → Ended) → (c ≡ Normal → ⊥) → ((n : ℕ) → c ≡ Exited n → ⊥) → then_turn (c, m) go ≡ (c, m)
abandoned Normal m go a b = absurd (a refl)
abandoned (Exited n) m go a b = absurd (b n refl)
abandoned Returned m go a b = refl
abandoned (Raised k) m go a b = refl
abandoned (Requeued e w) m go a b = refl

-- Any other transfer of control ends the loop, too.
pub last_turn : (k : ℕ) (B : Memory → Ended) (m m' : Memory) (l : ℕ) (c : Completion) → m.left ≡ suc l → B (memory m.object m.stack l) ≡ (c, m') → (c ≡ Normal → ⊥) → ((n : ℕ) → c ≡ Exited n → ⊥) → turns (suc k) B m ≡ (c, m')
last_turn k B m m' l c s b x y = first k B m l (c, m') s b ∙ abandoned c m' (turns k B) x y

-- No turn is left.
pub no_turn : (k : ℕ) (B : Memory → Ended) (m : Memory) → m.left ≡ 0 → turns k B m ≡ (Raised too_many_turns, m)
unfolding turns
no_turn zero B m s = refl
no_turn (suc k) B m s = ap (λ n. spend m (λ o. then_turn (B o) (turns k B)) n) s

pub start : (n k : ℕ) (B : Memory → Ended) (m : Memory) → n ≡ k → turns n B m ≡ turns k B m
start n k B m e = ap (λ j. turns j B m) e

pub none : (n : ℕ) (B : Memory → Ended) (m : Memory) → n ≡ 0 → turns n B m ≡ (Raised too_many_turns, m)
unfolding turns
none n B m e = ap (λ j. turns j B m) e
