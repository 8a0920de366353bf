-- One bit of a word is set or cleared, and no other.
use Rattle.std.proofs.Common.{◌∙◌, sym, ap}
use Rattle.std.specs.Int.{w64}
use Rattle.std.proofs.lemmas.Nat.Bits.{bit_at_set_same, bit_at_set_other, bit_at_clear_same, bit_at_clear_other}
use Rattle.po_queues.specs.Busy.{bit_when}
use Rattle.po_queues.proofs.bits.with_bit.Goals as goal

pub returns-then-is_set-clause-same : goal.returns-then-is_set-clause-same
returns-then-is_set-clause-same c =
    bit_at_set_same w64 c.args.word c.args.bit c.requires ∙ ap bit_when (sym c.if-is_set.true)

pub returns-then-is_set-clause-others : goal.returns-then-is_set-clause-others
returns-then-is_set-clause-others c = λ i _ apart. bit_at_set_other w64 c.args.word c.args.bit c.requires i apart

pub returns-else-is_set-clause-same : goal.returns-else-is_set-clause-same
returns-else-is_set-clause-same c =
    bit_at_clear_same w64 c.args.word c.args.bit c.requires ∙ ap bit_when (sym c.if-is_set.false)

pub returns-else-is_set-clause-others : goal.returns-else-is_set-clause-others
returns-else-is_set-clause-others c = λ i low apart. bit_at_clear_other w64 c.args.word c.args.bit c.requires i low
    apart
