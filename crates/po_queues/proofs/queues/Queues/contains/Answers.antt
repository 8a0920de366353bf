-- A key is queued exactly if it has a link.
use Rattle.std.proofs.Common.{◌∙◌}
use Rattle.po_queues.proofs.HoldLemmas.{linked_where_queued}
use Rattle.po_queues.proofs.queues.Queues.contains.Goals as goal

pub returns : goal.returns
returns c = c.is_some.ensures ∙ linked_where_queued c.args.key c.args.self.now.items c.link.result c.link.ensures
