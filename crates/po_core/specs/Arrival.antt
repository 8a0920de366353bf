-- SPDX-License-Identifier: MIT
-- The order in which calls arrived on their queues, read off the history (9.5.3, D.4).
use Rattle.std.specs.Prelude.{ℕ}
use Rattle.po_unit.specs.Meaning.{Meaning}
use Rattle.po_engine.specs.Arrival.{Rises, arrivals}
use Rattle.po_core.specs.Base.{arrived}
use Rattle.po_core.specs.View.{View, base_state}

module _ {S V : Type 0} where
  -- the place in the whole history at which the call with number n arrived on its queue
  abbrev pub arrival : Meaning S V → View S V → ℕ → ℕ
  arrival m view n =
      arrivals m view.setup.max_queue (base_state view) view.base.place (arrived view.base) view.events n

  -- The waiting calls, and so those of each queue, are in order of arrival.
  abbrev pub IsInOrderOfArrival : Meaning S V → View S V → Type 0
  IsInOrderOfArrival m view = Rises (arrival m view) view.state.waiting
