use Rattle.po_core.proofs.Histories.{rest_opening}
use Rattle.po_core.specs.Tickets.{capacity_of}
use Rattle.po_core.proofs.TicketLemmas.{issued_opening}
use Rattle.po_core.proofs.bounded_core.Core+U+Unrecorded+U.with_capacity.Goals as goal

pub invariant_of-result : goal.invariant_of-result
invariant_of-result g c =
    rw c.new-2.ensures (record { rest = rest_opening g.U.Unit.meaning c.new-setup.result.opening c.new-setup.result.first_number; issued = issued_opening g.row.U-Value.Denot c.new-setup.result (capacity_of c.in_ok-state.state) })
