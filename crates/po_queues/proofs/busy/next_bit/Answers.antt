-- The lowest bit that the mask leaves in the word, if it leaves one.
use Rattle.std.proofs.Common.{ℕ, ◌≡◌, ◌<◌, ◌∙◌, ◌-◌, ◌*◌, ◌%◌, ◌^◌, ◌∷◌, [], arith, ap, refl}
use Rattle.std.specs.Int.{w64, trailing_zeros}
use lib.Bits.{bit_and}
use Rattle.std.proofs.lemmas.Nat.{and_le_r}
use Rattle.std.proofs.lemmas.Nat.Bits.{ones_shl, bit_at-trailing_zeros}
use Rattle.po_queues.proofs.BusyLemmas.{next_bit_found, no_bit_here}
use Rattle.po_queues.proofs.busy.next_bit.Goals as goal

-- the mask that leaves the bits of a word from here on
mask_from : (from : ℕ) → from < 64 → 18446744073709551615 * 2 ^ from % 18446744073709551616 ≡ 2 ^ 64 - 2 ^ (from - 64 * 0)
mask_from from low =
    let same : from ≡ from - 64 * 0 = omega arith in
    ones_shl 64 from (omega (arith, low)) ∙ ap (λ k. 2 ^ 64 - 2 ^ k) same

pub returns-then-later-eq0-clause-none : goal.returns-then-later-eq0-clause-none
returns-then-later-eq0-clause-none c = λ _ b here low.
    let from = c.args.from in
    let mask = 18446744073709551615 * 2 ^ from % 18446744073709551616 in
    no_bit_here (c.args.word ∷ []) from 0 mask (bit_and c.args.word mask) (omega (arith, c.requires)) (mask_from from c.requires)
    refl c.if-later-eq0.true (λ e later before. absurd (omega (arith, before))) b here (omega (arith, low))

pub returns-clause-some : goal.returns-clause-some
returns-clause-some c =
    let from = c.args.from in
    let mask = 18446744073709551615 * 2 ^ from % 18446744073709551616 in
    let later = bit_and c.args.word mask in
    let fits : later < 2 ^ 64 = omega (arith, and_le_r c.args.word mask) in
    let some : 0 < later = omega (arith, c.if-later-eq0.false) in
    let lowest = bit_at-trailing_zeros w64 later some fits in
    let found = next_bit_found (c.args.word ∷ []) from 0 mask later (trailing_zeros w64 later) (omega (arith, c.requires))
    (mask_from from c.requires) refl fits some (λ e late before. absurd (omega (arith, before))) (omega arith) in
    (lowest.0, found)
