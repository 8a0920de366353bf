use Rattle.std.proofs.Common.{◌∙◌}
use Rattle.po_engine.specs.Calls.{key_of}
use Rattle.po_engine.proofs.TicketSteps.{ticket_among}
use Rattle.po_engine.proofs.calls.Calls.waiting_call.Goals as goal

pub returns : goal.returns
returns g c =
    let s = c.self.inside in let i = c.self.invariant in
    let r = rw (← c.self.view_is) at c.requires in
    rw (← c.self.view_is) (c.copied.ensures ∙ c.get.ensures ∙ ticket_among s.table (key_of s.first s.keys.items) s.queues s.serving s.ended.items c.args.ticket r c.recall_invariant.ensures i.queued i.kept)
