-- As many keys are queued on an entry as calls wait there.
use Rattle.std.proofs.Common.{◌∙◌}
use Rattle.std.specs.Prelude.{count_by}
use Rattle.po_engine.specs.WaitingCalls.{is_on}
use Rattle.po_engine.specs.Calls.{call_at, key_of, waiting_in}
use Rattle.po_queues.proofs.RangeLemmas.{numbers_each}
use Rattle.po_engine.proofs.CallReads.{counted}
use Rattle.po_engine.proofs.calls.Calls.counts.Goals as goal

pub returns-clause-counts : goal.returns-clause-counts
returns-clause-counts g c =
    let s = c.self.inside in
    let f = call_at s.table.calls in
    let ix = key_of s.first s.keys.items in
    rw (← c.self.view_is) (numbers_each (λ e. count_by (is_on e) (waiting_in f s.queues.items)) s.queues.total c.counts.result.now c.counts.ensures.one_each (λ e lt. c.counts.ensures.each e lt ∙ counted f ix e s.queues.items c.self.invariant.queued.queued))
