-- The next set bit is that of the next entry with a queued key.
use Rattle.std.proofs.Common.{◌<◌, subst}
use Rattle.std.specs.List.{All}
use Rattle.std.proofs.lemmas.Option.{IfSome_then}
use Rattle.po_queues.specs.QueuedKeys.{QueuedKey, QueuesView}
use Rattle.po_queues.specs.Busy.{MarksBusy}
use Rattle.po_queues.proofs.BusyLemmas.{next_busy_from_bit}
use Rattle.po_queues.proofs.queues.Queues.next_busy.Goals as goal

pub returns-clause-some : goal.returns-clause-some
returns-clause-some c =
    let words = c.self.inside.busy in
    let marks = subst (λ (v : QueuesView). MarksBusy v.total words v.items) c.self.view_is c.self.invariant.busy in
    let all = subst (λ (v : QueuesView). All (λ (x : QueuedKey). x.entry < v.total) v.items) c.self.view_is
    c.self.invariant.holds.entries in
    IfSome_then c.next.result c.next.ensures.some
    (λ e next. next_busy_from_bit c.args.self.now words c.args.from e marks all next)
