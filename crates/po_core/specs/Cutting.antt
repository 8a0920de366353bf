-- SPDX-License-Identifier: MIT
-- How the history is cut: its events are handed out as a volume, and the present picture becomes the base (this project's own).
use Rattle.std.specs.Prelude.{ℕ, ◌≡◌, ◌+◌, List, [], map, length, count_by, All, None}
use Rattle.po_unit.specs.Meaning.{Meaning}
use Rattle.po_history.specs.declared.event.Event.{Event}
use Rattle.po_history.specs.Histories.{VolumeView, RunOn, joined}
use Rattle.po_core.specs.Setup.{Setup}
use Rattle.po_engine.specs.ObjectState.{ObjectState, opening_state}
use Rattle.po_engine.specs.Step.{replay, IsLegal}
use Rattle.po_engine.specs.Arrival.{arrivals}
use Rattle.po_engine.specs.Pick.{last_from}
use Rattle.po_core.specs.Public.{AllPublic}
use Rattle.po_core.specs.Base.{Base, is_ran}
use Rattle.po_core.specs.Arrival.{arrival}
use Rattle.po_core.specs.View.{View, base_state, last_served, next_place}

module _ {S V : Type 0} where
  -- the present picture as a base: each waiting call keeps the place at which it arrived, and places go on from there
  abbrev pub present_base : Meaning S V → View S V → Base S V
  present_base m view = record {
    unit = view.state.unit;
    waiting = view.state.waiting;
    arrivals = map (λ x. arrival m view x.number) view.state.waiting;
    ended = length view.state.ended;
    next = view.state.next;
    clock = view.state.clock;
    finalized = view.state.finalized;
    place = next_place view;
    ran = view.base.ran + count_by is_ran view.events;
    last = last_served view;
  }

  -- the object after a cut: only the beginning of its history changes
  abbrev pub cut : Meaning S V → View S V → View S V
  cut m view = record view { base = present_base m view; events = [] }

  -- the volume that a cut hands out
  abbrev pub cut_off : View S V → VolumeView V
  cut_off view = record { first_place = view.base.place; events = view.events }

  -- The events replay from the one state to the other, as serial protected actions of one thread, and issue calls on
  -- public entries alone.
  pub record Leads (m : Meaning S V) (setup : Setup S) (events : List (Event V)) (from to : ObjectState S V) : Type 0 where
    pub legal : IsLegal m setup.max_queue from events
    pub to_there : replay m setup.max_queue from events ≡ to
    pub public : AllPublic setup.shape events

  -- the place at which the call with number n arrived on its queue, if these are the events since the opening of the object
  abbrev pub arrival_in : Meaning S V → Setup S → List (Event V) → ℕ → ℕ
  arrival_in m setup events n =
      arrivals m setup.max_queue (opening_state setup.opening setup.first_number) setup.first_place (λ k. 0) events n

  -- These volumes are the history before the base: they follow one another from the first place, and joined they replay from
  -- the opening of the object to the base.
  pub record AreVolumes (m : Meaning S V) (view : View S V) (volumes : List (VolumeView V)) : Type 0 where
    pub run_on : RunOn view.setup.first_place volumes view.base.place
    pub leads : Leads m view.setup (joined volumes) (opening_state view.setup.opening view.setup.first_number) (base_state view)
    -- each call that waited at the base has the place at which it arrived by them
    pub arrivals : view.base.arrivals ≡ map (λ x. arrival_in m view.setup (joined volumes) x.number) view.base.waiting
    -- the base has counted their procedures
    pub ran : view.base.ran ≡ count_by is_ran (joined volumes)
    -- and it knows the entry that they served last
    pub last : view.base.last ≡ last_from None (joined volumes)

  -- how many procedures have run, before the base and since
  abbrev pub procedures_run : View S V → ℕ
  procedures_run view = view.base.ran + count_by is_ran view.events

  -- Each waiting call keeps the place at which it arrived.
  abbrev pub KeepsArrivals : Meaning S V → View S V → View S V → Type 0
  KeepsArrivals m old new =
      All (λ x. arrival m new x.number ≡ arrival m old x.number) old.state.waiting

  -- The volumes before the base stay the same.
  abbrev pub KeepsVolumes : Meaning S V → View S V → View S V → Type 0
  KeepsVolumes m old new = (volumes : List (VolumeView V)) → AreVolumes m old volumes → AreVolumes m new volumes
