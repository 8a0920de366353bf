-- The lowest bit that the mask leaves in the word, if it leaves one.
use Rattle.std.proofs.Common.{ℕ, ◌≡◌, ◌<◌, ◌∙◌, ◌-◌, ◌*◌, ◌/◌, ◌%◌, ◌^◌, arith, sym, ap, refl, get_or}
use Rattle.std.proofs.Common.{true, ltb, List, length}
use lib.Bits.{bit_and}
use Rattle.std.proofs.lemmas.Bool.{ltb-true}
use Rattle.std.proofs.lemmas.List.{get_or_read}
use Rattle.std.proofs.lemmas.Nat.{and_le_r}
use Rattle.std.proofs.lemmas.Nat.Bits.{ones_shl}
use Rattle.po_queues.proofs.BusyLemmas.{next_bit_found, no_bit_here, no_bit_at_all}
use Rattle.po_queues.proofs.bits.Bits.next_in_word.Goals as goal

-- the mask that leaves the bits of a word from here on
mask_from : (from : ℕ) → 18446744073709551615 * 2 ^ (from % 64) % 18446744073709551616
    ≡ 2 ^ 64 - 2 ^ (from - 64 * (from / 64))
mask_from from =
    let rest : from % 64 ≡ from - 64 * (from / 64) = omega arith in
    ones_shl 64 (from % 64) (omega arith) ∙ ap (λ k. 2 ^ 64 - 2 ^ k) rest

-- the word of a bit, once read
read_word : (words read : List ℕ) (from index word : ℕ) → read ≡ words → index ≡ from / 64
    → true ≡ ltb index (length read) → word ≡ get_or read index word → word ≡ get_or words (from / 64) 0
read_word words read from index word same here low found =
    rw (← here, ← same) (get_or_read read index word (ltb-true index (length read) (sym low)) found 0)

pub returns-then-later-eq0-clause-none : goal.returns-then-later-eq0-clause-none
returns-then-later-eq0-clause-none c = λ _ b here same.
    let from = c.args.from in
    let words = c.args.self.now.words.items in
    let word = c.in_ok-later.field-0.now in
    let mask = 18446744073709551615 * 2 ^ (from % 64) % 18446744073709551616 in
    let found = c.in_ok-later.ensures.lookup in
    let read = read_word c.args.self.now.words.items c.deref.result.now c.args.from c.from.result word
    c.deref.ensures.value c.from.ensures found.0 found.1 in
    no_bit_here words from (from / 64) mask (bit_and word mask) (omega arith) (mask_from from)
    (ap (λ w. bit_and w mask) read) c.if-later-eq0.true
    (λ e later before. absurd (omega (arith, later, before))) b here (omega (arith, same))

pub returns-clause-some : goal.returns-clause-some
returns-clause-some c =
    let from = c.args.from in
    let words = c.args.self.now.words.items in
    let word = c.in_ok-later.field-0.now in
    let mask = 18446744073709551615 * 2 ^ (from % 64) % 18446744073709551616 in
    let found = c.in_ok-later.ensures.lookup in
    let read = read_word c.args.self.now.words.items c.deref.result.now c.args.from c.from.result word
    c.deref.ensures.value c.from.ensures found.0 found.1 in
    let fits : bit_and word mask < 2 ^ 64 = omega (arith, and_le_r word mask) in
    next_bit_found words from (from / 64) mask (bit_and word mask) _ (omega arith) (mask_from from)
    (ap (λ w. bit_and w mask) read) fits (omega (arith, c.if-later-eq0.false))
    (λ e later before. absurd (omega (arith, later, before))) refl

pub returns-then-later-eq0-clause-none_at_all : goal.returns-then-later-eq0-clause-none_at_all
returns-then-later-eq0-clause-none_at_all c = λ _ whole.
    let word = c.in_ok-later.field-0.now in
    let mask = 18446744073709551615 * 2 ^ (c.args.from % 64) % 18446744073709551616 in
    let found = c.in_ok-later.ensures.lookup in
    let read = read_word c.args.self.now.words.items c.deref.result.now c.args.from c.from.result word
    c.deref.ensures.value c.from.ensures found.0 found.1 in
    let first : c.args.from - 64 * (c.args.from / 64) ≡ 0 = omega (arith, whole) in
    sym read ∙ no_bit_at_all word mask (mask_from c.args.from ∙ ap (λ k. 2 ^ 64 - 2 ^ k) first) (omega arith)
    c.if-later-eq0.true
