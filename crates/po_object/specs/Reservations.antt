-- SPDX-License-Identifier: MIT
-- The room in memory that is reserved for the next call of each free pass (this project's own).
use Rattle.std.specs.Prelude.{ℕ, ◌≡◌, ◌≤◌, ◌+◌, Bool, true, false, Option, Some, None}
use Rattle.po_engine.specs.Tickets.{uncollected}
use Rattle.po_receipts.specs.declared.asked.Asked.{Asked}
use Rattle.po_core.specs.Tickets.{CoreView}

-- n places, if the number of calls is fixed
abbrev pub reserved : Bool → ℕ → Option ℕ
reserved false n = None
reserved true n = Some n

-- the places reserved for a pass: one, for its next call, if none is pending
abbrev pub reserved_for : {V : Type 0} → Bool → Option (Asked V) → Option ℕ
reserved_for bounded None = reserved bounded 1
reserved_for bounded (Some asked) = reserved bounded 0

-- If the number of calls is fixed, n more calls than the uncollected ones have a place.
abbrev pub HasRoomFor : {S V : Type 0} → CoreView S V → Option ℕ → Type 0
HasRoomFor core None = core.capacity ≡ None
HasRoomFor core (Some n) = (most : ℕ) × ((core.capacity ≡ Some most) × (uncollected core.tickets + n ≤ most))
