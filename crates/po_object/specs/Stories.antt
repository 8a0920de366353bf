-- SPDX-License-Identifier: MIT
-- What a ledger of calls says of the object that is opened with it (this project's own).
use Rattle.std.specs.Prelude.{ℕ, ◌≡◌, List, Option, Some}
use Rattle.po_unit.specs.Meaning.{Meaning}
use Rattle.po_calls.specs.declared.end.End.{End}
use Rattle.po_history.specs.declared.event.Event.{Event}
use Rattle.po_core.specs.Setup.{Setup}
use Rattle.po_receipts.specs.OneHistory.{end_in}

module _ {S V : Type 0} (m : Meaning S V) (setup : Setup S) where
  -- how the call with this number has ended by the end of these events, in an object with this setup, if it has
  abbrev pub ends_by : List (Event V) → ℕ → Option (End V)
  ends_by log number = end_in m setup log number

  -- The ledger says what the object is made with, and how calls end there.
  abbrev pub IsStory : Option (Setup S) → (List (Event V) → ℕ → Option (End V)) → Type 0
  IsStory made end_of = (made ≡ Some setup) × (end_of ≡ ends_by)
