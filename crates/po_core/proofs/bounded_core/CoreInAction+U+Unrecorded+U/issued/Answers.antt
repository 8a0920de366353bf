use Rattle.std.proofs.Common.{arith}
use Rattle.po_core.specs.Tracking.{opening_of}
use Rattle.po_core.proofs.Trackings.{tracked_issued}
use Rattle.po_core.proofs.bounded_core.CoreInAction+U+Unrecorded+U.issued.Goals as goal

pub overflow_sub-result : goal.overflow_sub-result
overflow_sub-result g c =
    let a = c.self.inside in
    let issued = tracked_issued g.U.Unit.meaning a.setup (opening_of a.setup) a.state a.kept.events.items a.place a.last c.self.invariant.tracked in
    omega (arith, issued, c.next_number.ensures, c.first_number.ensures)

pub returns-clause-counted : goal.returns-clause-counted
returns-clause-counted g c =
    let a = c.self.inside in
    let issued = tracked_issued g.U.Unit.meaning a.setup (opening_of a.setup) a.state a.kept.events.items a.place a.last c.self.invariant.tracked in
    rw (← c.self.view_is) (omega (arith, issued, c.next_number.ensures, c.first_number.ensures))

pub returns-clause-numbered : goal.returns-clause-numbered
returns-clause-numbered g c =
    let a = c.self.inside in
    let issued = tracked_issued g.U.Unit.meaning a.setup (opening_of a.setup) a.state a.kept.events.items a.place a.last c.self.invariant.tracked in
    rw (← c.self.view_is) (omega (arith, issued, c.next_number.ensures, c.first_number.ensures))
