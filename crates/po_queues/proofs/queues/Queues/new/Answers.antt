-- Nothing is queued.
use Rattle.std.proofs.Common.{rules}
use Rattle.po_queues.proofs.RoomLemmas.{fresh}
use Rattle.po_queues.proofs.queues.Queues.new.Goals as goal

pub invariant_of-result : goal.invariant_of-result
invariant_of-result c =
    fresh c.from-entries.result _ _ _ _ _ (search rules) c.new.ensures.items (search rules) (search rules)
    (search rules) (search rules)
