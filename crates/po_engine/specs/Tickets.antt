-- SPDX-License-Identifier: MIT
-- Tickets: what a caller holds for a call that was accepted and isn't collected (this project's own).
use Rattle.std.specs.Prelude.{ℕ, ◌≡◌, ◌≢◌, ◌==◌, List, Bool, false, Option, Some, None, is_some, count_by, if◌then◌else◌, find}
use Rattle.std.specs.List.{slice_index_or}
use Rattle.po_calls.specs.declared.call.Call.{Call}
use Rattle.po_calls.specs.declared.end.End.{End}
use Rattle.po_calls.specs.declared.end.CallStatus.{CallStatus}
use Rattle.po_calls.specs.declared.end.CallStatus.TheVariants.{Unknown, Waiting, Ended as HasEnded}
use Rattle.po_calls.specs.declared.ticket.Ticket.{Ticket}
use Rattle.po_engine.specs.declared.ended.Ended.{Ended}
use Rattle.po_engine.specs.WaitingCalls.{has_number}
use Rattle.po_engine.specs.Ending.{has_ended}

-- the number of the uncollected call whose ticket has this key
abbrev pub number_at : List (Option ℕ) → ℕ → Option ℕ
number_at tickets key = slice_index_or tickets key None

-- The tickets change only at this key, to a ticket of this number or to none.
pub record SetsTicket (old new : List (Option ℕ)) (key : ℕ) (number : Option ℕ) : Type 0 where
  pub changed : number_at new key ≡ number
  pub others : (k : ℕ) → k ≢ key → number_at new k ≡ number_at old k

-- how many calls aren't collected, by their tickets: those that wait, and those that have ended
abbrev pub uncollected : List (Option ℕ) → ℕ
uncollected tickets = count_by is_some tickets

-- whether it is that number
abbrev pub is_number : ℕ → Option ℕ → Bool
is_number n None = false
is_number n (Some k) = k == n

-- whether the ticket is of an uncollected call
abbrev pub is_live : List (Option ℕ) → Ticket → Bool
is_live tickets ticket = is_number ticket.number (number_at tickets ticket.key)

-- the status of a call, given what is found of it among the ended and among the waiting calls
abbrev pub status_by : {V : Type 0} → Option (Ended V) → Option (Call V) → CallStatus V
status_by (Some x) waits = HasEnded x.end
status_by None (Some x) = Waiting
status_by None None = Unknown

-- the end, if there is one
abbrev pub end_at : {V : Type 0} → CallStatus V → Option (End V)
end_at Unknown = None
end_at Waiting = None
end_at (HasEnded end) = Some end

-- the status of a ticket's call, by the waiting and the ended calls: Unknown if the ticket is of no uncollected call
abbrev pub status_among : {V : Type 0} → List (Call V) → List (Ended V) → List (Option ℕ) → Ticket → CallStatus V
status_among waiting ended tickets ticket =
    if is_live tickets ticket
    then status_by (find (has_ended ticket.number) ended) (find (has_number ticket.number) waiting)
    else Unknown

-- the waiting call of a ticket: none if the ticket is of no uncollected call
abbrev pub waiting_among : {V : Type 0} → List (Call V) → List (Option ℕ) → Ticket → Option (Call V)
waiting_among waiting tickets ticket = if is_live tickets ticket then find (has_number ticket.number) waiting else None
