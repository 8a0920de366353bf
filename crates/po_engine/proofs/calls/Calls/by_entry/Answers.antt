-- The keys queued on the entries are those of the waiting calls.
use Rattle.po_engine.specs.Calls.{call_at, key_of}
use Rattle.po_engine.proofs.CallReads.{entries_same}
use Rattle.po_engine.proofs.calls.Calls.by_entry.Goals as goal

pub returns-clause-entries : goal.returns-clause-entries
returns-clause-entries g c =
    let s = c.self.inside in
    rw (← c.self.view_is, c.by_entry.ensures.items) (entries_same (call_at s.table.calls) (key_of s.first s.keys.items) s.queues.items c.self.invariant.queued.queued)
