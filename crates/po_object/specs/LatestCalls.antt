-- SPDX-License-Identifier: MIT
-- What the call that a seat issued last says of the seat's waiting calls (this project's own).
use Rattle.std.specs.Prelude.{ℕ, ◌≡◌, ◌<◌, ◌==◌, List, Option, Some, false, All, length}
use Rattle.std.specs.List.{slice_index_or}
use Rattle.po_engine.specs.Tickets.{number_at}
use Rattle.po_calls.specs.declared.end.CallStatus.TheVariants.{Waiting}
use Rattle.po_core.specs.Tickets.{CoreView, status_of_ticket}
use Rattle.po_object.specs.declared.latest.Latest.{Latest}
use Rattle.po_object.specs.declared.latest.Latest.TheVariants.{Never, Only, Several}

-- what is known of the seat: if there is no such seat, that none of its calls waits
abbrev pub latest_of : List Latest → ℕ → Latest
latest_of calls seat = slice_index_or calls seat Never

-- What is known of the seat is true of a waiting call with this number and this owner. If the seat has none, the call is of
-- another seat. If a ticket is noted, the call is of this seat exactly if it has the ticket's number. If there may be several,
-- nothing is known.
abbrev pub IsTrueOf : Latest → ℕ → ℕ → ℕ → Type 0
IsTrueOf Never seat number owner = (owner == seat) ≡ false
IsTrueOf (Only t) seat number owner = (owner == seat) ≡ (number == t.number)
IsTrueOf Several seat number owner = Unit {0}

-- The noted ticket is of a call that was issued: its number is below the next one.
abbrev pub IsIssued : ℕ → Latest → Type 0
IsIssued next Never = Unit {0}
IsIssued next (Only t) = t.number < next
IsIssued next Several = Unit {0}

-- If the noted ticket has the number of this waiting call, it is the call's ticket.
abbrev pub IsTicketOf : List (Option ℕ) → Latest → ℕ → Type 0
IsTicketOf tickets Never number = Unit {0}
IsTicketOf tickets (Only t) number = t.number ≡ number → number_at tickets t.key ≡ Some t.number
IsTicketOf tickets Several number = Unit {0}

-- What is known of each seat is true of each waiting call, and the noted ticket of a waiting call is live.
pub record KnowsLatest {S V : Type 0} (calls : List Latest) (core : CoreView S V) : Type 0 where
  pub issued : (seat : ℕ) → IsIssued core.object.state.next (latest_of calls seat)
  pub waiting : All (λ x. (seat : ℕ) → IsTrueOf (latest_of calls seat) seat x.number x.owner) core.object.state.waiting
  pub live : All (λ x. (seat : ℕ) → IsTicketOf core.tickets (latest_of calls seat) x.number) core.object.state.waiting

-- By what is known of the seat, one of its calls may wait: the noted one does, or nothing is known.
abbrev pub MayWait : {S V : Type 0} → CoreView S V → Latest → Type 0
MayWait core Never = ⊥
MayWait core (Only t) = status_of_ticket core t ≡ Waiting
MayWait core Several = Unit {0}

-- None of `seats` seats has issued a call.
abbrev pub NoneIssued : ℕ → List Latest → Type 0
NoneIssued seats calls = (length calls ≡ seats) × ((seat : ℕ) → latest_of calls seat ≡ Never)
