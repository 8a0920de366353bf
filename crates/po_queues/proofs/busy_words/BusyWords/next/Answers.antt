-- The next bit is in its own word, or the first one of the next word that has one.
use Rattle.std.proofs.Common.{◌≡◌, ◌*◌, ◌/◌, ◌∙◌, sym, arith}
use Rattle.std.proofs.lemmas.Option.{IfSome_then}
use Rattle.po_queues.proofs.BusyLemmas.{next_bit_behind, some_word}
use Rattle.po_queues.proofs.busy_words.BusyWords.next.Goals as goal

pub returns-clause-some : goal.returns-clause-some
returns-clause-some c = rw (← c.self.view_is) (IfSome_then c.next_in_word.result c.next_in_word.ensures.some (λ e first.
    next_bit_behind c.self.inside.entries.words.items c.self.inside.words.words.items c.args.from c.in_ok-word.word e
    c.self.invariant (c.next_in_word-found.ensures.none (sym c.is_some.ensures ∙ c.if-is_some.false))
    c.in_ok-word.ensures.some first))

pub returns-clause-none : goal.returns-clause-none
returns-clause-none c = λ none.
    let w = c.in_ok-word.word in
    let whole : 64 * w / 64 ≡ w = omega arith in
    let empty = rw whole at (c.next_in_word.ensures.none_at_all none (omega arith)) in
    absurd (omega (
      arith,
      empty,
      some_word c.self.inside.entries.words.items c.self.inside.words.words.items w c.self.invariant
          c.in_ok-word.ensures.some.is_set,
    ))
