-- SPDX-License-Identifier: MIT
-- How far the receipts of seats agree with the events read so far. Only the contracts of private functions speak of marks; no
-- public clause does.
use Rattle.std.specs.Prelude.{ℕ, ◌≡◌, ◌<◌, ◌+◌, List, map, take, length, slice_get, slice_index_or, Some}
use Rattle.po_history.specs.declared.event.Event.{Event}
use Rattle.po_engine.specs.declared.ended.Ended.{Ended}
use Rattle.po_receipts.specs.declared.mark.Mark.{Mark}
use Rattle.po_receipts.specs.declared.mark.Mark.TheVariants.{Follows, Differs}
use Rattle.po_receipts.specs.Passes.{PassView}
use Rattle.po_receipts.specs.Receipts.{receipts_due}
use Rattle.po_receipts.specs.Agreement.{IsFirstDifference}

-- The mark compares the filed items with those that are due so far: either the first filed ones are exactly those that are due,
-- or there is a first difference.
abbrev pub IsMark : {X : Type 0} → List X → List X → Mark → Type 0
IsMark filed due (Follows place) = (place ≡ length due) × (take place filed ≡ due)
IsMark filed due (Differs place) = (place < length due) × IsFirstDifference filed due place

module _ {V : Type 0} where
  -- Each mark is that of its seat; the first mark is that of the seat `first`.
  abbrev pub AreMarks : List (Ended V) → List (PassView V) → ℕ → List (Event V) → List Mark → Type 0
  AreMarks ended passes first seen marks =
      (i : ℕ) (pass : PassView V)
      → i < length marks
      → slice_get passes (first + i) ≡ Some pass
      → IsMark (map Some pass.receipts) (receipts_due ended seen (first + i)) (slice_index_or marks i (Follows 0))
