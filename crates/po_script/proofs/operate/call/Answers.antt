use Rattle.std.proofs.Common.{◌∙◌}
use Rattle.po_script.proofs.CollectLemmas.{knows_issued}
use Rattle.po_script.proofs.operate.call.Goals as goal

pub finish-requires : goal.finish-requires
finish-requires g c =
    let e = c.in-Ok.ensures in
    let old = c.args.core.now.tickets in
    knows_issued old c.issue.new.self.tickets c.args.tickets.now c.keep.new.self
    c.in-Ok.ticket.key c.in-Ok.ticket.number c.requires.knows
    (λ k j is. rw e.number ((c.headline.ensures.tickets k j is).1)) e.key e.ticket c.keep.ensures.kept
    (λ j other. c.keep.ensures.others j other ∙ c.reserve.ensures.same j)
