-- SPDX-License-Identifier: MIT
-- What contracts see of a protected object: what it was made with, its history since the base, and its present state.
use Rattle.std.specs.Prelude.{ℕ, ◌≡◌, ◌+◌, List, [], ◌&&◌, nat_lt, nat_le, count_by, length, drop, if◌then◌else◌, Option}
use Rattle.po_unit.specs.Meaning.{Meaning}
use Rattle.po_engine.specs.declared.ended.Ended.{Ended}
use Rattle.po_history.specs.declared.event.Event.{Event}
use Rattle.po_core.specs.Setup.{Setup}
use Rattle.po_engine.specs.WaitingCalls.{has_number}
use Rattle.po_engine.specs.ObjectState.{ObjectState, opening_state}
use Rattle.po_engine.specs.Step.{replay, IsLegal}
use Rattle.po_engine.specs.Ending.{has_ended}
use Rattle.po_core.specs.Base.{Base, opening_base, state_at}
use Rattle.po_core.specs.Public.{AllPublic}
use Rattle.po_engine.specs.Pick.{last_from}

pub record View (S V : Type 0) : Type 0 where
  pub setup : Setup S
  -- what the history replays from
  pub base : Base S V
  -- the events since the base
  pub events : List (Event V)
  pub state : ObjectState S V
  -- how many calls had ended before the last command that wasn't refused
  pub ended_before : ℕ

module _ {S V : Type 0} where
  -- an object that was just made
  abbrev pub opening_view : Setup S → View S V
  opening_view setup = record {
    setup = setup;
    base = opening_base setup.opening setup.first_number setup.first_place;
    events = [];
    state = opening_state setup.opening setup.first_number;
    ended_before = 0;
  }

  -- the state that the history replays from
  abbrev pub base_state : View S V → ObjectState S V
  base_state view = state_at view.base view.state.ended

  -- the entry that was served last
  abbrev pub last_served : View S V → Option ℕ
  last_served view = last_from view.base.last view.events

  -- the place of the next event in the whole history, counted from the place of the first
  abbrev pub next_place : View S V → ℕ
  next_place view = view.base.place + length view.events

  -- the calls that the last command ended, in the order in which they ended
  abbrev pub ended_now : View S V → List (Ended V)
  ended_now view = drop view.ended_before view.state.ended

  -- the calls that these events end, event by event
  abbrev pub newly_ended : Meaning S V → Option ℕ → ObjectState S V → List (Event V) → List (Ended V)
  newly_ended m limit s events = drop (length s.ended) (replay m limit s events).ended

  -- The history replays, from the base, as serial protected actions of one thread, and leads to the present state (9.5.1).
  -- Each call that it issues names a public entry.
  pub record Replays (m : Meaning S V) (view : View S V) : Type 0 where
    pub legal : IsLegal m view.setup.max_queue (base_state view) view.events
    pub leads : replay m view.setup.max_queue (base_state view) view.events ≡ view.state
    pub public : AllPublic view.setup.shape view.events

  -- Each call that was issued, from the first number on, is in exactly one place: once among the waiting calls, or once
  -- among the ended ones. No other number is in either.
  abbrev pub IsInOnePlace : ℕ → ObjectState S V → Type 0
  IsInOnePlace first s =
      (n : ℕ) → count_by (has_number n) s.waiting + count_by (has_ended n) s.ended ≡ (if nat_le first n && nat_lt n s.next then 1 else 0)
