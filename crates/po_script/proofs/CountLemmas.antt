-- How often a source was read, over several reads.
use Rattle.std.proofs.Common.{◌≡◌, ◌≤◌, ℕ, ◌+◌, ◌^◌, min, Option, Some, None, arith}
use Rattle.po_streams.specs.Source.{CountsMore}

pub CountsMore-trans : (a b c : Option ℕ) (m n : ℕ) → CountsMore a b m → CountsMore b c n → CountsMore a c (m + n)
CountsMore-trans None None None m n p q = tt
CountsMore-trans None None (Some z) m n p q = absurd q
CountsMore-trans None (Some y) c m n p q = absurd p
CountsMore-trans (Some x) None None m n p q = let P : 2 ^ 64 ≤ x + m = p in omega (arith, P)
CountsMore-trans (Some x) None (Some z) m n p q = absurd q
CountsMore-trans (Some x) (Some y) None m n p q = let P : y ≡ x + m = p in let Q : 2 ^ 64 ≤ y + n = q in omega (arith, P, Q)
CountsMore-trans (Some x) (Some y) (Some z) m n p q = let P : y ≡ x + m = p in let Q : z ≡ y + n = q in omega (arith, P, Q)

-- one more read, of n bytes, if a read adds at most k to the count
pub one_more_read : (a b c : Option ℕ) (most n k : ℕ) → min n 1 ≤ k → ((more : ℕ) × (more ≤ most) × CountsMore a b more) → CountsMore b c (min n 1) → (more : ℕ) × (more ≤ most + k) × CountsMore a c more
one_more_read a b c most n k few before now =
    (before.0 + min n 1, omega (arith, before.1, few), CountsMore-trans a b c before.0 (min n 1) before.2 now)
