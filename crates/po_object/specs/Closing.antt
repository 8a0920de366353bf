-- SPDX-License-Identifier: MIT
-- What a closed object shows (this project's own).
use Rattle.std.specs.Prelude.{ℕ, ◌≡◌, ◌≤◌, List, All, length, slice_get, Some}
use mathlib.Core.List.{IsPrefix}
use Rattle.po_unit.specs.Meaning.{Meaning}
use Rattle.po_history.specs.declared.event.Event.{Event}
use Rattle.po_core.specs.Tickets.{CoreView}
use Rattle.po_receipts.specs.Agreement.{AllAgree}
use Rattle.po_receipts.specs.Passes.{PassView}
use Rattle.po_receipts.specs.Answers.{HasClosingTotals, HasNoOthers, NonePending}
use Rattle.po_receipts.specs.OneHistory.{IsWholeLog}

-- the core, the passes, and the whole history of the object from its opening on
pub record ClosedView (S V : Type 0) : Type 0 where
  pub core : CoreView S V
  pub passes : List (PassView V)
  pub log : List (Event V)

module _ {S V : Type 0} (m : Meaning S V) where
  -- The passes are at the places of their seats, and the closing totals are theirs. The log is the whole history, in which
  -- nobody else asked for a call or a procedure; each pass has seen a beginning of it. If no call is pending, the receipts of
  -- each seat are those that are due to it.
  pub record IsClosed (closed : ClosedView S V) : Type 0 where
    pub seats : length closed.passes ≤ 65_535
    pub at_seats : (s : ℕ) (pass : PassView V) → slice_get closed.passes s ≡ Some pass → pass.seat ≡ s
    pub totals : HasClosingTotals closed.core closed.passes
    pub whole : IsWholeLog m closed.core.object closed.log
    pub asked : HasNoOthers closed.log closed.passes
    pub seen : All (λ pass. IsPrefix pass.seen closed.log) closed.passes
    pub due : NonePending closed.passes → AllAgree closed.core.object.state.ended closed.log closed.passes
