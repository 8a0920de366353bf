-- SPDX-License-Identifier: MIT
-- The tickets that a script keeps, and that calls which have ended are collected.
use Rattle.std.specs.Prelude.{ℕ, ◌≡◌, ◌≢◌, ◌<◌, nat_eq, List, All, Option, Some, IsSome, find}
use Rattle.std.specs.HashMap.{get, spare}
use Rattle.po_calls.specs.declared.ticket.Ticket.{Ticket}
use Rattle.po_engine.specs.Ending.{has_ended}
use Rattle.po_core.specs.View.{View, ended_now}
use Rattle.po_core.specs.Tickets.{CoreView}
use Rattle.po_engine.specs.Tickets.{number_at}
use Rattle.po_script.specs.declared.tickets.Tickets.{Tickets}

-- the key that is kept for call n
abbrev pub key_of : Tickets → ℕ → Option ℕ
key_of tickets n = get nat_eq tickets.keys n

-- the ticket of call n with this key
abbrev pub ticket_of : ℕ → ℕ → Ticket
ticket_of n key = record { key = key; number = n }

-- There is room for one more ticket.
abbrev pub HasRoom : Tickets → Type 0
HasRoom tickets = 0 < spare tickets.keys

-- The kept tickets are those of the uncollected calls.
pub record Knows (core : List (Option ℕ)) (tickets : Tickets) : Type 0 where
  -- each ticket of an uncollected call is kept
  pub kept : (key n : ℕ) → number_at core key ≡ Some n → key_of tickets n ≡ Some key
  -- and no other is
  pub live : (key n : ℕ) → key_of tickets n ≡ Some key → number_at core key ≡ Some n

-- No ticket is of call n: if it was issued, it is collected.
abbrev pub IsCollected : List (Option ℕ) → ℕ → Type 0
IsCollected core n = (key : ℕ) → number_at core key ≢ Some n

module _ {S V : Type 0} where
  -- Call n has ended.
  abbrev pub HasEnded : View S V → ℕ → Type 0
  HasEnded view n = IsSome (find (has_ended n) view.state.ended)

  -- Each call that the latest command ended is collected.
  abbrev pub AreCollected : CoreView S V → Type 0
  AreCollected core = All (λ x. IsCollected core.tickets x.number) (ended_now core.object)
