-- SPDX-License-Identifier: MIT
-- How an event is handed to a record (this project's own).
use Rattle.std.specs.Prelude.{ℕ, Bool, ◌≡◌, ◌+◌, ◌≤◌, ◌<◌, List, [], true, ◌∷◌, ◌++◌, length, Option, Some, None}
use Rattle.po_unit.specs.Meaning.{Meaning}
use Rattle.po_calls.specs.declared.ticket.Ticket.{Ticket}
use Rattle.po_history.specs.declared.event.Event.{Event}
use Rattle.po_engine.specs.ObjectState.{ObjectState}
use Rattle.po_engine.specs.Step.{step, Needs}
use Rattle.po_engine.specs.Pick.{owed}
use Rattle.po_engine.specs.StateView.{StateView}
use Rattle.po_core.specs.Setup.{Setup}
use Rattle.po_core.specs.Base.{Base, is_ran}
use Rattle.po_core.specs.Public.{NamesPublic}
use Rattle.po_core.specs.History.{IsHistory}

-- What a record has to know about a state.
pub record Known (S V : Type 0) : Type 0 where
  pub state : ObjectState S V
  -- the key of each call's ticket, by the call's number minus the first one
  pub keys : List ℕ
  -- the number of the first call
  pub first : ℕ
  -- whether all memory was taken when the object was made
  pub is_fixed : Bool

abbrev pub known_of : {S V : Type 0} → StateView S V → Known S V
known_of s = record { state = s.state; keys = s.keys; first = s.first; is_fixed = s.is_fixed }

-- how many calls were issued: one if there is a ticket, else none
abbrev pub calls_of : Option Ticket → ℕ
calls_of None = 0
calls_of (Some ticket) = 1

-- the keys of all calls, after one more
abbrev pub keys_on : List ℕ → Option Ticket → List ℕ
keys_on keys None = keys
keys_on keys (Some ticket) = keys ++ ticket.key ∷ []

-- After this history, the event leads from the state p to the state r. Of the calls that the command ended, `noted` had ended
-- before the event.
pub record Follows {S V : Type 0} (m : Meaning S V) (setup : Setup S) (b : Base S V) (events : List (Event V)) (p r : StateView S V) (event : Event V) (noted : ℕ) (ticket : Option Ticket) : Type 0 where
  pub history : IsHistory m setup b p.state events
  pub need : Needs m p.state event
  pub named : NamesPublic setup.shape event
  pub is : r.state ≡ step m setup.max_queue p.state event
  pub serving : r.serving ≡ None
  pub keys : r.keys ≡ keys_on p.keys ticket
  pub first : r.first ≡ p.first
  pub fixed : r.is_fixed ≡ p.is_fixed
  pub next : r.state.next ≡ p.state.next + calls_of ticket
  pub so_far : r.before + noted ≡ length p.state.ended
  -- the event of a procedure has a place that fits 64 bits
  pub spent : is_ran event ≡ true → b.place + length events < 18_446_744_073_709_551_615

-- For some object and some states of it, the event is one that follows, and the record has room for it. Then it may be added.
pub record MayPush {S V : Type 0} (m : Meaning S V) (IsOf : Setup S → Known S V → ℕ → ℕ → Type 0) (b : Setup S → Base S V) (events : List (Event V)) (event : Event V) : Type 0 where
  pub setup : Setup S
  pub from : StateView S V
  pub to : StateView S V
  pub room : ℕ
  pub noted : ℕ
  pub ticket : Option Ticket
  pub has : IsOf setup (known_of from) (room + 1) (calls_of ticket)
  pub follows : Follows m setup (b setup) events from to event noted ticket

-- The last event was added, and the record isn't yet that of the state after it.
pub record IsPushed {S V : Type 0} (IsOf : Known S V → ℕ → ℕ → Type 0) (m : Meaning S V) (setup : Setup S) (b : Base S V) (events : List (Event V)) (r : StateView S V) (noted : ℕ) (ticket : Option Ticket) : Type 0 where
  pub event : Event V
  pub before : List (Event V)
  pub is : events ≡ before ++ event ∷ []
  pub from : StateView S V
  pub room : ℕ
  pub has : IsOf (known_of from) room (calls_of ticket)
  pub follows : Follows m setup b before from r event noted ticket
  pub fits : owed m r.state ≤ room

-- The event has led to the state r. The record has room for it, and is still that of the state before it.
pub record MayNote {S V : Type 0} (IsOf : Known S V → ℕ → ℕ → Type 0) (m : Meaning S V) (setup : Setup S) (b : Base S V) (events : List (Event V)) (r : StateView S V) (event : Event V) (noted : ℕ) (ticket : Option Ticket) : Type 0 where
  pub from : StateView S V
  pub room : ℕ
  pub has : IsOf (known_of from) (room + 1) (calls_of ticket)
  pub follows : Follows m setup b events from r event noted ticket
  pub fits : owed m r.state ≤ room
