use Rattle.std.proofs.Common.{ap}
use Rattle.po_core.specs.Noting.{known_of}
use Rattle.po_core.proofs.Histories.{rest_opening}
use Rattle.po_core.specs.Tickets.{capacity_of}
use Rattle.po_core.proofs.TicketLemmas.{issued_opening}
use Rattle.po_core.proofs.recorded_core.Core+U+Recorded+U.start.Goals as goal

pub new-requires-3-clause-has : goal.new-requires-3-clause-has
new-requires-3-clause-has g c =
    let is = rw (c.in_ok-now.ensures, c.opening.ensures, c.first_number.ensures) at c.in_ok-state.ensures in
    c.in_ok-kept.ensures.has (known_of c.in_ok-state.state) (ap (λ s. s.state) is) (ap (λ s. s.keys) is) (ap (λ s. s.first) is) (ap (λ s. s.is_fixed) is)

pub invariant_of-result : goal.invariant_of-result
invariant_of-result g c =
    rw c.new-3.ensures (record { rest = rest_opening g.U.Unit.meaning c.new-setup.result.opening c.new-setup.result.first_number; issued = issued_opening g.row.U-Value.Denot c.new-setup.result (capacity_of c.in_ok-state.state) })
