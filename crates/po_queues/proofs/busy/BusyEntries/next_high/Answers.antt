-- The next bit is in the words after the first, if there are any.
use Rattle.std.proofs.Common.{◌≡◌, Some, refl, rules}
use Rattle.po_queues.proofs.BusyLemmas.{high_next, high_none}
use Rattle.po_queues.proofs.busy.BusyEntries.next_high.Goals as goal

pub returns-in_err-entry-clause-none : goal.returns-in_err-entry-clause-none
returns-in_err-entry-clause-none c = λ none.
    let s = c.self.inside in
    let words = c.in_ok-as_ref.field-0.now in
    let is : s.high ≡ Some words = search rules in
    rw (← c.self.view_is, is) (high_none s.low words c.args.from c.requires.from (c.in_err-entry.ensures.none refl))

pub returns-clause-some : goal.returns-clause-some
returns-clause-some c =
    let s = c.self.inside in
    let words = c.in_ok-as_ref.field-0.now in
    let is : s.high ≡ Some words = search rules in
    rw (← c.self.view_is, is) (high_next s.low words c.args.from c.in_ok-entry.entry c.requires.from c.in_ok-entry.ensures.some)
