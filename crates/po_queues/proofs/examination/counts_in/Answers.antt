-- The numbers are the counts.
use Rattle.std.proofs.Common.{length}
use Rattle.po_queues.specs.QueuedKeys.{queue_of}
use Rattle.po_queues.proofs.RangeLemmas.{numbers_each}
use Rattle.po_queues.proofs.examination.counts_in.Goals as goal

pub returns-clause-counts : goal.returns-clause-counts
returns-clause-counts c =
    let queues = c.args.queues.now in
    numbers_each (λ e. length (queue_of e queues.items)) queues.total c.counts.result.now c.counts.ensures.one_each
    c.counts.ensures.each
