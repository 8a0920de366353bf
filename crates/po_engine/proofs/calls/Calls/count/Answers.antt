-- As many keys are queued on an entry as calls wait there.
use Rattle.std.proofs.Common.{◌∙◌}
use Rattle.po_engine.specs.Calls.{call_at, key_of}
use Rattle.po_engine.proofs.CallReads.{counted}
use Rattle.po_engine.proofs.calls.Calls.count.Goals as goal

pub returns : goal.returns
returns g c =
    let s = c.self.inside in
    rw (← c.self.view_is) (c.count.ensures ∙ counted (call_at s.table.calls) (key_of s.first s.keys.items) c.args.entry s.queues.items c.self.invariant.queued.queued)
