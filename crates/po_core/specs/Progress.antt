-- SPDX-License-Identifier: MIT
-- How far a protected action has come, for the contracts inside this crate.
use Rattle.std.specs.Prelude.{◌≡◌, ◌+◌, ◌≤◌, List, [], ◌∷◌, ◌++◌, length}
use Rattle.po_unit.specs.Meaning.{Meaning}
use Rattle.po_history.specs.declared.event.Event.{Event}
use Rattle.po_engine.specs.Step.{step, replay}
use Rattle.po_engine.specs.Pick.{ArePicks, weight}
use Rattle.po_core.specs.View.{View, last_served}

module _ {S V : Type 0} where
  -- It is the same object under the same command.
  pub record IsSameCommand (old new : View S V) : Type 0 where
    pub setup : new.setup ≡ old.setup
    pub base : new.base ≡ old.base
    pub ended_before : new.ended_before ≡ old.ended_before

  -- One event happens.
  pub record Happens (m : Meaning S V) (old new : View S V) (event : Event V) : Type 0 where
    pub events : new.events ≡ old.events ++ event ∷ []
    pub state : new.state ≡ step m old.setup.max_queue old.state event

  -- A command's own event happens.
  pub record Begins (m : Meaning S V) (old new : View S V) (own : Event V) : Type 0 where
    pub happens : Happens m old new own
    pub setup : new.setup ≡ old.setup
    pub base : new.base ≡ old.base
    pub ended_before : new.ended_before ≡ length old.state.ended

  -- Only inner events happen, each the one that comes next.
  pub record Settles (m : Meaning S V) (old new : View S V) : Type 0 where
    pub inner : List (Event V)
    pub events : new.events ≡ old.events ++ inner
    pub picks : ArePicks m old.setup.max_queue old.setup.order (last_served old) old.state inner
    pub bounded : length inner + weight m new.state ≤ weight m old.state
    pub state : new.state ≡ replay m old.setup.max_queue old.state inner
