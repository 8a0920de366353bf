-- SPDX-License-Identifier: MIT
-- What contracts see of the calls of a driven object with their history, and what always holds of them (this project's own).
use Rattle.std.specs.Prelude.{ℕ, ◌≡◌, ◌<◌, ◌+◌, List, [], ◌∷◌, ◌++◌, length, Bool, true, None, All, count_by}
use Rattle.po_calls.specs.declared.end.End.{End}
use Rattle.po_calls.specs.declared.ticket.Ticket.{Ticket}
use Rattle.po_engine.specs.declared.arriving.Arriving.{Arriving}
use Rattle.po_engine.specs.Driving.{counted, new_call}
use Rattle.po_engine.specs.Step.{end_call}
use Rattle.po_engine.specs.Ending.{has_ended}
use Rattle.po_engine.specs.Tickets.{is_live, uncollected}
use Rattle.po_engine.specs.Arrival.{Increases}
use Rattle.po_engine.specs.ObjectState.{opening_state}
use Rattle.po_engine.specs.StateView.{StateView}
use Rattle.po_driven.specs.Happening.{Driving, arrives, opening, replay}
use Rattle.po_driven.specs.OnePlace.{HasTickets, IsInOnePlace, IsLedTo}
use Rattle.po_driven.specs.declared.happening.Happening.{Happening}

pub record DrivenCallsView : Type 0 where
  -- the calls, their tickets, and the call in service, whose body the client runs
  pub object : StateView ℕ ℕ
  -- how many arrivals there have been, requeues included
  pub place : ℕ
  -- what has happened: known to proofs alone
  pub happened : List Happening

-- The calls of a newly made object: for this number of entries, with memory for this number of calls, and whether that number
-- is fixed.
abbrev pub opening_calls : ℕ → ℕ → Bool → DrivenCallsView
opening_calls entries most is_fixed = record {
  object = record {
    state = opening_state entries 1;
    places = [];
    serving = None;
    tickets = [];
    keys = [];
    first = 1;
    capacity = most;
    is_fixed = is_fixed;
    before = 0;
  };
  place = 0;
  happened = [];
}

-- the calls that all that has happened leads to
abbrev pub led_by : DrivenCallsView → Driving
led_by t = replay (opening t.object.state.unit) t.happened

-- What always holds of the calls of a driven object.
pub record IsTraced (t : DrivenCallsView) : Type 0 where
  -- what has happened leads to them
  pub leads : IsLedTo (led_by t) t.object
  -- each accepted call is in one place: queued, in service, ended, or requeued elsewhere
  pub placed : IsInOnePlace (led_by t)
  -- those that are queued or in service have a ticket, and no other has one
  pub tickets : HasTickets t.object
  -- The places kept for the queued calls rise, and are below the present one, as the engine requires. That the
  -- queues are in order of arrival (9.5.3, D.4) follows not from these two but from `leads`: a call that is queued goes after the
  -- others.
  pub rises : Increases t.object.places
  pub later : All (λ k. k < t.place) t.object.places
  -- the present place is the number of arrivals so far
  pub place : t.place ≡ count_by arrives t.happened

-- A call may be accepted that ends at once: no body runs, and a number and a place are left.
pub record MayPass (t : DrivenCallsView) : Type 0 where
  pub idle : t.object.serving ≡ None
  pub number : t.object.state.next < 18_446_744_073_709_551_615
  pub place : t.place < 340_282_366_920_938_463_463_374_607_431_768_211_455

-- One more call on this entry may be accepted: it may pass, there is memory for it, its command has begun, and the entry exists.
pub record IsReady (t : DrivenCallsView) (e : ℕ) : Type 0 where
  pub passes : MayPass t
  pub room : uncollected t.object.tickets < t.object.capacity
  pub begun : t.object.before ≡ length t.object.state.ended
  pub entry : e < t.object.state.unit

-- The calls after one more was accepted and has ended in this way, and this has happened. It took no room, and no ticket is left.
abbrev pub passed : DrivenCallsView → Arriving ℕ → End ℕ → List Happening → DrivenCallsView
passed t a end hs = record {
  object = record t.object {
    state = end_call (counted t.object.state) (new_call t.object.state.next a) end;
    before = length t.object.state.ended + 1;
    keys = t.object.keys ++ 0 ∷ [];
  };
  place = t.place + 1;
  happened = t.happened ++ hs;
}

-- the same after a call that its body requeued within the object: it arrived twice
abbrev pub passed_twice : DrivenCallsView → Arriving ℕ → End ℕ → List Happening → DrivenCallsView
passed_twice t a end hs = record (passed t a end hs) { place = t.place + 2 }

-- Whether the memory is fixed never changes. If it is fixed, the number of calls that it is for never changes either.
pub record KeepsRoom (old new : StateView ℕ ℕ) : Type 0 where
  pub fixed : new.is_fixed ≡ old.is_fixed
  pub capacity : old.is_fixed ≡ true → new.capacity ≡ old.capacity

-- A live ticket stays live until its call has ended or was requeued elsewhere: the engine counts both as ended. No call that has
-- ended comes back.
pub record KeepsTickets (old new : StateView ℕ ℕ) : Type 0 where
  pub live : (ticket : Ticket) → is_live old.tickets ticket ≡ true → count_by (has_ended ticket.number) new.state.ended ≡ 0 → is_live new.tickets ticket ≡ true
  pub left : (n : ℕ) → count_by (has_ended n) new.state.ended ≡ 0 → count_by (has_ended n) old.state.ended ≡ 0
