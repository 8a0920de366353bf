-- SPDX-License-Identifier: MIT
-- The table of calls, as a map from tickets, and as one from keys (this project's own).
use Rattle.std.specs.Prelude.{ℕ, ◌≡◌, ◌≢◌, ◌==◌, ◌<◌, ◌≤◌, List, map, Option, Some, None, is_some, IfSome, IsSomeAnd, option_map, if◌then◌else◌}
use Rattle.slab.specs.Slab.{Slab, get, slab_len}
use Rattle.po_calls.specs.declared.ticket.Ticket.{Ticket}
use Rattle.po_calls.specs.declared.call.Call.{Call}
use Rattle.po_calls.specs.declared.kept.Kept.{Kept}
use Rattle.po_calls.specs.declared.end.End.{End}
use Rattle.po_calls.specs.declared.end.CallStatus.{CallStatus}
use Rattle.po_calls.specs.declared.end.CallStatus.TheVariants.{Unknown, Waiting, Ended}

-- The calls by their keys, and the greatest number of all calls put so far, if there is one (this project's own).
pub record CallTable (V : Type 0) : Type 0 where
  pub calls : Slab (Kept V)
  pub last : Option ℕ

-- The number is above those of all calls put so far; `last` is the greatest of these (this project's own).
abbrev pub IsAbove : Option ℕ → ℕ → Type 0
IsAbove last n = IfSome last (λ most. most < n)

-- A call was put with this number or a greater one; the greatest is `last` (this project's own).
abbrev pub IsReached : Option ℕ → ℕ → Type 0
IsReached last n = IsSomeAnd last (λ most. n ≤ most)

module _ {V : Type 0} where
  -- The number of the call that is kept at each key, if there is one (this project's own).
  abbrev pub numbers_of : CallTable V → List (Option ℕ)
  numbers_of table = map (option_map (λ k. k.call.number)) table.calls.slots

  -- What is found, if it is of the call with this number (this project's own).
  abbrev pub with_number : ℕ → Option (Kept V) → Option (Kept V)
  with_number n None = None
  with_number n (Some k) = if k.call.number == n then Some k else None

  -- What the table keeps for a ticket (this project's own).
  abbrev pub kept : CallTable V → Ticket → Option (Kept V)
  kept table ticket = with_number ticket.number (get table.calls ticket.key)

  -- The status of a kept call, by its end, if it has ended (this project's own).
  abbrev pub status_with_end : Option (End V) → CallStatus V
  status_with_end None = Waiting
  status_with_end (Some end) = Ended end

  -- The status of a call, by what is kept of it (this project's own).
  abbrev pub status_of : Option (Kept V) → CallStatus V
  status_of None = Unknown
  status_of (Some k) = status_with_end k.end

  -- The call, if it waits (this project's own).
  abbrev pub waiting_call : Option (Kept V) → Option (Call V)
  waiting_call None = None
  waiting_call (Some k) = if is_some k.end then None else Some k.call

  -- The end, if there is one (this project's own).
  abbrev pub end_of : Option (Kept V) → Option (End V)
  end_of None = None
  end_of (Some k) = k.end

  -- The ticket has `now`, and every other ticket keeps what it had (this project's own).
  pub record Sets (old new : CallTable V) (ticket : Ticket) (now : Option (Kept V)) : Type 0 where
    pub changed : kept new ticket ≡ now
    pub others : (other : Ticket) → other ≢ ticket → kept new other ≡ kept old other

  -- The number of calls, the room, the next key and the greatest number put stay (this project's own).
  pub record KeepsRoom (old new : CallTable V) : Type 0 where
    pub len : slab_len new.calls ≡ slab_len old.calls
    pub capacity : new.calls.capacity ≡ old.calls.capacity
    pub vacant_key : new.calls.vacant_key ≡ old.calls.vacant_key
    pub last : new.last ≡ old.last

  -- The number of each kept call was reached (this project's own).
  abbrev pub AreReached : CallTable V → Type 0
  AreReached table = (key : ℕ) (k : Kept V) → get table.calls key ≡ Some k → IsReached table.last k.call.number

  -- The ticket is of no call in the table, and of none put later, since its number was reached (this project's own).
  pub record IsSpent (table : CallTable V) (ticket : Ticket) : Type 0 where
    pub unknown : kept table ticket ≡ None
    pub reached : IsReached table.last ticket.number

  -- Spent tickets stay spent (this project's own).
  abbrev pub KeepsSpent : CallTable V → CallTable V → Type 0
  KeepsSpent old new = (ticket : Ticket) → IsSpent old ticket → IsSpent new ticket
