-- The status that the table returns is the one that is seen.
use Rattle.std.proofs.Common.{◌∙◌}
use Rattle.po_engine.specs.Calls.{key_of}
use Rattle.po_engine.proofs.CallPlaces.{place_is}
use Rattle.po_engine.proofs.calls.Calls.status.Goals as goal

pub returns : goal.returns
returns g c =
    let s = c.self.inside in
    let i = c.self.invariant in
    let free = rw (← c.self.view_is) at c.requires in
    let is = place_is s.table (key_of s.first s.keys.items) s.queues s.serving s.ended.items c.args.ticket i.queued free i.kept in
    rw (← c.self.view_is) (c.status.ensures ∙ is)
