use Rattle.std.proofs.Common.{sym, subst}
use Rattle.po_engine.specs.ObjectState.{IsAtRest}
use Rattle.po_core.specs.Tickets.{AreIssued}
use Rattle.po_core.proofs.CutLemmas.{joins, leads_there, keeps_arrivals}
use Rattle.po_core.proofs.recorded_core.Core+U+Recorded+U.cut.Goals as goal

pub invariant_of-self-2 : goal.invariant_of-self-2
invariant_of-self-2 g c =
    let back = sym c.in_ok-volume.ensures.after in record {
      rest = subst (λ seen. IsAtRest g.U.Unit.meaning seen.object.state) back c.self.invariant.rest;
      issued = subst AreIssued back c.self.invariant.issued;
    }

pub returns-clause-leads : goal.returns-clause-leads
returns-clause-leads g c =
    rw (← c.self.view_is, c.in_ok-volume.ensures.volume, c.in_ok-volume.ensures.after) (leads_there g.U.Unit.meaning c.self.inside.in_action.object c.recall_invariant.ensures.replays)

pub returns-clause-arrivals : goal.returns-clause-arrivals
returns-clause-arrivals g c =
    rw (← c.self.view_is, c.in_ok-volume.ensures.after) (keeps_arrivals g.U.Unit.meaning c.self.inside.in_action.object)

pub returns-clause-joins : goal.returns-clause-joins
returns-clause-joins g c =
    rw (← c.self.view_is, c.in_ok-volume.ensures.volume, c.in_ok-volume.ensures.after) (joins g.U.Unit.meaning c.self.inside.in_action.object c.recall_invariant.ensures.replays)
