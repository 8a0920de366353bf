-- SPDX-License-Identifier: MIT
-- What a pass knows of the history that its caller has seen: each receipt says what happened there (this project's own). A pass
-- doesn't know the unit of its object, so a function `end_of` says how a call has ended in a history.
use Rattle.std.specs.Prelude.{ℕ, ◌≡◌, List, [], ◌∷◌, ◌++◌, Option, Some, None}
use mathlib.Core.List.{IsPrefix}
use Rattle.po_calls.specs.declared.end.End.{End}
use Rattle.po_history.specs.declared.event.Event.{Event}
use Rattle.po_history.specs.declared.event.Event.TheVariants.{Issue, Procedure}
use Rattle.po_receipts.specs.declared.asked.Asked.{Asked}
use Rattle.po_receipts.specs.declared.receipt.Receipt.{Receipt}
use Rattle.po_receipts.specs.Passes.{PassView, IsTallied}

-- The event comes after the events `before`, and the events `after` include it.
pub record HappensBetween {V : Type 0} (event : Event V) (before after : List (Event V)) : Type 0 where
  pub here : List (Event V)
  pub later : IsPrefix before here
  pub within : IsPrefix (here ++ event ∷ []) after

module _ {V : Type 0} (seat : ℕ) where
  -- The seat issued the call that has no receipt yet, if there is one (9.5.3).
  abbrev pub IsAskedBetween : Option (Asked V) → List (Event V) → List (Event V) → Type 0
  IsAskedBetween None before after = IsPrefix before after
  IsAskedBetween (Some asked) before after =
      HappensBetween (Issue asked.ticket.number seat asked.entry asked.value asked.deadline) before after

module _ {V : Type 0} (seat : ℕ) (end_of : List (Event V) → ℕ → Option (End V)) where
  -- The receipt says what happened: the seat issued the call, and it has ended with this answer (9.5.3); or the procedure ran
  -- for the seat, and gave this reply (9.5.1).
  abbrev pub IsAnswerBetween : Receipt V → List (Event V) → List (Event V) → Type 0
  IsAnswerBetween (Receipt.Called number entry value deadline answer) before after =
      HappensBetween (Issue number seat entry value deadline) before after × (end_of after number ≡ Some answer)
  IsAnswerBetween (Receipt.Ran op value reply) before after = HappensBetween (Procedure seat op value reply) before after

  -- The receipts say what happened, one after another.
  abbrev pub AreAnswersBetween : List (Receipt V) → List (Event V) → List (Event V) → Type 0
  AreAnswersBetween [] before after = IsPrefix before after
  AreAnswersBetween (receipt ∷ receipts) before after =
      (here : List (Event V)) × (IsAnswerBetween receipt before here × AreAnswersBetween receipts here after)

-- In what its caller has seen, from the opening on, the receipts of the pass say what happened, and so does its pending call.
abbrev pub IsTold : {V : Type 0} → (List (Event V) → ℕ → Option (End V)) → PassView V → Type 0
IsTold {V} end_of pass =
    (here : List (Event V)) × (AreAnswersBetween pass.seat end_of pass.receipts [] here × IsAskedBetween pass.seat pass.pending here pass.seen)

-- The caller of the pass has seen a beginning of this log, the pass knows what happened in it, and its tallies count its
-- receipts.
abbrev pub IsToldOf : {V : Type 0} → (List (Event V) → ℕ → Option (End V)) → List (Event V) → PassView V → Type 0
IsToldOf end_of log pass = IsTallied pass × (IsTold end_of pass × IsPrefix pass.seen log)
