-- SPDX-License-Identifier: MIT
-- What every history keeps, for the invariants of objects.
use Rattle.std.specs.Prelude.{◌≡◌, ◌<◌, ◌≤◌, List, [], length, true, All, ◌+◌}
use Rattle.po_unit.specs.Meaning.{Meaning}
use Rattle.po_unit.specs.Numbering.{entry_count}
use Rattle.po_history.specs.declared.event.Event.{Event}
use Rattle.po_engine.specs.declared.ended.Ended.{Ended}
use Rattle.po_engine.specs.ObjectState.{ObjectState}
use Rattle.po_engine.specs.Step.{replay, IsLegal}
use Rattle.po_core.specs.Base.{Base, opening_base, state_at, arrived}
use Rattle.po_core.specs.Public.{AllPublic}
use Rattle.po_core.specs.Setup.{Setup}
use Rattle.po_core.specs.View.{IsInOnePlace}
use Rattle.po_engine.specs.Arrival.{Rises}

-- A base is what some history led to: the unit has the entries of the shape, each call is in exactly one place, and the waiting
-- ones are on entries of the unit and in order of arrival. A base at the place of the first event is the opening.
pub record IsBase {S V : Type 0} (m : Meaning S V) (setup : Setup S) (b : Base S V) (ends : List (Ended V)) : Type 0 where
  pub shaped : m.entries b.unit ≡ entry_count setup.shape
  pub low : setup.first_number ≤ b.next
  pub placed : IsInOnePlace setup.first_number (state_at b ends)
  pub range : All (λ x. x.entry < m.entries b.unit) b.waiting
  pub rises : Rises (arrived b) b.waiting
  pub before : All (λ x. arrived b x.number < b.place) b.waiting
  pub emptied : b.finalized ≡ true → b.waiting ≡ []
  pub ended : b.ended ≤ length ends
  pub counted : setup.first_place + b.next + b.ran ≤ setup.first_number + b.place
  pub opened : b.place ≡ setup.first_place → b ≡ opening_base setup.opening setup.first_number setup.first_place

-- Legal events lead from the base to the state, and they issue calls on public entries alone.
pub record IsHistory {S V : Type 0} (m : Meaning S V) (setup : Setup S) (b : Base S V) (s : ObjectState S V) (events : List (Event V)) : Type 0 where
  pub base : IsBase m setup b s.ended
  pub legal : IsLegal m setup.max_queue (state_at b s.ended) events
  pub leads : replay m setup.max_queue (state_at b s.ended) events ≡ s
  pub public : AllPublic setup.shape events
