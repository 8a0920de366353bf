-- SPDX-License-Identifier: MIT
-- What a fault of an opening hands back (this project's own).
use Rattle.std.specs.Prelude.{ℕ, ◌≡◌, ◌≢◌, List}
use Rattle.std.specs.declared.sync.ledger.Blank.{Blank}
use Rattle.po_log.specs.declared.log.Keeper.{Keeper}
use Rattle.po_history.specs.declared.event.Event.{Event}
use Rattle.po_core.specs.Tickets.{CoreView}
use Rattle.po_core.specs.View.{next_place}
use Rattle.po_receipts.specs.Passes.{PassView}
use Rattle.po_object.specs.Seats.{IsMissing}
use Rattle.po_object.specs.declared.error.OpenError.{OpenError}
use Rattle.po_object.specs.declared.error.OpenError.TheVariants.{NotFresh, OutOfMemory}
use Rattle.po_object.specs.declared.opening.Unopened.{Unopened}
use Rattle.po_object.specs.declared.opening.Unopened.TheVariants.{NotFresh as WasUsed, OutOfMemory as WithoutMemory}
use Rattle.po_object.specs.declared.error.CloseError.{CloseError}
use Rattle.po_object.specs.declared.error.CloseError.TheVariants.{PassMissing}

-- The core, the blanks and the keeper of the log are handed back. The fault is `NotFresh` exactly if the history has an event.
abbrev pub HandsBack : {U R V : Type 0} → CoreView U V → Blank → Blank → Keeper (Event V) → OpenError U R V → Type 0
HandsBack core calls procedures log (NotFresh c a b l) =
    (c ≡ core) × (a ≡ calls) × (b ≡ procedures) × (l ≡ log) × (next_place core.object ≢ core.object.setup.first_place)
HandsBack core calls procedures log (OutOfMemory c a b l) =
    (c ≡ core) × (a ≡ calls) × (b ≡ procedures) × (l ≡ log) × (next_place core.object ≡ core.object.setup.first_place)

-- This is why no object is opened over the core.
abbrev pub IsWhy : {S V : Type 0} → CoreView S V → Unopened → Type 0
IsWhy core WasUsed = next_place core.object ≢ core.object.setup.first_place
IsWhy core WithoutMemory = next_place core.object ≡ core.object.setup.first_place

-- The object is handed back with the same number of seats, which is all that contracts see of it, and so are the passes as they
-- were, with the lowest seat that doesn't have exactly one of them.
abbrev pub KeepsAll : {U C P F R Q S V : Type 0} → ℕ → List (PassView V) → CloseError U C P F R Q S V → Type 0
KeepsAll seats passes (PassMissing seat object back) = (object ≡ seats) × (back.items ≡ passes) × IsMissing seats passes seat
