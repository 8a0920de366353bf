-- SPDX-License-Identifier: MIT
-- The headline: what holds of a protected object whenever no protected action is underway on it.
use Rattle.std.specs.Prelude.{◌≡◌, ◌≤◌, ◌+◌, [], true, length}
use Rattle.po_unit.specs.Meaning.{Meaning}
use Rattle.po_unit.specs.Numbering.{entry_count}
use Rattle.po_engine.specs.ObjectState.{IsAtRest}
use Rattle.po_core.specs.Base.{opening_base}
use Rattle.po_core.specs.View.{View, Replays, IsInOnePlace, next_place}
use Rattle.po_core.specs.Cutting.{procedures_run}
use Rattle.po_core.specs.Arrival.{IsInOrderOfArrival}

-- The history replays as serial protected actions of one thread and leads to the present state, the queues are in order
-- of arrival, and each accepted call is in exactly one place. No call waits on a finalized object.
pub record IsSound {S V : Type 0} (m : Meaning S V) (view : View S V) : Type 0 where
  pub replays : Replays m view
  pub order : IsInOrderOfArrival m view
  pub placed : IsInOnePlace view.setup.first_number view.state
  pub low : view.setup.first_number ≤ view.state.next
  -- the calls that had ended at the base are among those that have ended by now
  pub based : view.base.ended ≤ length view.state.ended
  -- the base isn't before the place of the first event; one at that place is the opening
  pub begun : view.setup.first_place ≤ view.base.place
  pub opened : view.base.place ≡ view.setup.first_place → view.base ≡ opening_base view.setup.opening view.setup.first_number view.setup.first_place
  -- each call that was issued, and each procedure that ran, is an event
  pub counted : view.setup.first_place + view.state.next + procedures_run view ≤ view.setup.first_number + next_place view
  pub emptied : view.state.finalized ≡ true → view.state.waiting ≡ []
  -- the unit has as many entries as its shape declares
  pub shaped : m.entries view.state.unit ≡ entry_count view.setup.shape

-- Besides that, no queued call has an open or a faulting barrier, and no call that could be cancelled is due.
pub record Headline {S V : Type 0} (m : Meaning S V) (view : View S V) : Type 0 where
  pub sound : IsSound m view
  pub rest : IsAtRest m view.state
