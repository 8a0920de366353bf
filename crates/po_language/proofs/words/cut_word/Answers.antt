use Rattle.std.proofs.Common.{arith, take}
use Rattle.std.proofs.lemmas.List.{take_rest}
use Rattle.std.proofs.lemmas.Grind.{common_steps}
use Rattle.po_language.proofs.WordLemmas.{cut_is, parted}
use Rattle.po_language.proofs.words.cut_word.Goals as goal

pub returns-clause-words : goal.returns-clause-words
returns-clause-words c =
    let l = c.args.line.now in
    cut_is l _ _ _ c.space_count.result c.word_length.result c.space_count.ensures.value (take_rest l c.space_count.result) (grind (arith, common_steps)) c.word_length.ensures.value c.split_at.ensures.front c.split_at.ensures.back

pub returns-clause-placed : goal.returns-clause-placed
returns-clause-placed c =
    let l = c.args.line.now in
    (take c.space_count.result l, parted l _ _ _ c.space_count.result c.word_length.result (take_rest l c.space_count.result) c.split_at.ensures.front c.split_at.ensures.back)
