-- SPDX-License-Identifier: MIT
-- What contracts see of a core: its object, its tickets, and how many calls may be uncollected (this project's own).
use Rattle.std.specs.Prelude.{ℕ, ◌≡◌, ◌<◌, ◌≤◌, List, Option, Some, None, if◌then◌else◌}
use Rattle.po_calls.specs.declared.end.End.{End}
use Rattle.po_calls.specs.declared.end.CallStatus.{CallStatus}
use Rattle.po_calls.specs.declared.ticket.Ticket.{Ticket}
use Rattle.po_engine.specs.Tickets.{number_at, status_among, end_at}
use Rattle.po_engine.specs.StateView.{StateView}
use Rattle.po_core.specs.View.{View}

-- The object, and its tickets.
pub record CoreView (S V : Type 0) : Type 0 where
  pub object : View S V
  -- by key, the number of the uncollected call whose ticket has that key, if there is one
  pub tickets : List (Option ℕ)
  -- how many calls may be uncollected at once, if that number is fixed
  pub capacity : Option ℕ

module _ {S V : Type 0} where
  -- how many calls of an object in this state may be uncollected at once, if that number is fixed
  abbrev pub capacity_of : StateView S V → Option ℕ
  capacity_of s = if s.is_fixed then Some s.capacity else None

  -- the status of a ticket's call
  abbrev pub status_of_ticket : CoreView S V → Ticket → CallStatus V
  status_of_ticket core ticket = status_among core.object.state.waiting core.object.state.ended core.tickets ticket

  -- the end of the call of a ticket, if it has ended and isn't collected
  abbrev pub end_of_ticket : CoreView S V → Ticket → Option (End V)
  end_of_ticket core ticket = end_at (status_of_ticket core ticket)

  -- Each ticket is of a call that was issued. A later call has a greater number, so a collected ticket stays Unknown.
  abbrev pub AreIssued : CoreView S V → Type 0
  AreIssued core =
      (key n : ℕ) → number_at core.tickets key ≡ Some n → (core.object.setup.first_number ≤ n) × (n < core.object.state.next)
