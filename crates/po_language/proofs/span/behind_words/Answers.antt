use Rattle.std.proofs.Common.{◌∙◌, sym, arith}
use Rattle.po_language.proofs.PlaceLemmas.{suffix_longer, one_behind, none_behind}
use Rattle.po_language.proofs.span.behind_words.Goals as goal

pub returns-in_default-clause-words : goal.returns-in_default-clause-words
returns-in_default-clause-words c =
    let none = c.in_default.ensures.words in
    none ∙ sym (none_behind _ c.loop.counter c.args.number (omega arith) (sym c.loop.invariant.words ∙ none))

pub loop-preserved : goal.loop-preserved
loop-preserved c = record {
  words = one_behind _ c.loop.counter _ _ (sym c.loop.invariant.words ∙ c.in-Some.ensures.words);
  suffix = suffix_longer _ _ _ _ c.loop.invariant.suffix c.in-Some.ensures.placed;
}
