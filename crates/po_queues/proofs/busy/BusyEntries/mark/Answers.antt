-- The bit is in the first word, or in those after it.
use Rattle.std.proofs.Common.{◌≤◌, arith}
use Rattle.po_queues.specs.Busy.{bit_when, words_in}
use Rattle.po_queues.proofs.BusyLemmas.{writes_high}
use Rattle.po_queues.proofs.busy.BusyEntries.mark.Goals as goal

pub returns-clause-others : goal.returns-clause-others
returns-clause-others c =
    let s = c.self.inside in
    let high : 64 ≤ c.args.entry = omega (arith, c.if-entry-lt-WORD.false) in
    rw (← c.self.view_is) (writes_high s.low (words_in s.high) (words_in c.mark_in.new.high) c.args.entry
    (bit_when c.args.busy) high c.mark_in.ensures.same c.mark_in.ensures.others c.mark_in.ensures.words).others
