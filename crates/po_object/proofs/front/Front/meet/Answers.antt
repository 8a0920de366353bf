use Rattle.po_receipts.proofs.OneHistory.{one-begins}
use Rattle.po_object.proofs.front.Front.meet.Goals as goal

pub returns : goal.returns
returns g c = rw (← c.self.view_is, ← c.other.view_is) (one-begins c.self.inside.seen.items c.other.inside.seen.items c.meet.ensures.beginning c.meet-2.ensures.beginning)
