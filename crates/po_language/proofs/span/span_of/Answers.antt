use Rattle.po_language.proofs.PlaceLemmas.{word_span}
use Rattle.po_language.proofs.span.span_of.Goals as goal

pub returns-in-Some : goal.returns-in-Some
returns-in-Some c =
    let rest = c.behind_words-rest.ensures in
    word_span _ _ _ _ c.args.number rest.words rest.suffix c.in-Some.ensures.words c.in-Some.ensures.placed
