-- SPDX-License-Identifier: MIT
-- When the receipts of an object's passes agree with its history, and the first place at which they differ (this project's
-- own). The passes are in the order of their seats: the first is that of seat 0.
use Rattle.std.specs.Prelude.{ℕ, ◌≡◌, ◌≢◌, ◌<◌, ◌+◌, ◌==◌, List, [], ◌∷◌, ◌++◌, map, take, length, slice_get, Option, Some, None, if◌then◌else◌}
use Rattle.po_history.specs.declared.event.Event.{Event}
use Rattle.po_history.specs.Histories.{VolumeView, RunOn, joined}
use Rattle.po_engine.specs.declared.ended.Ended.{Ended}
use Rattle.po_core.specs.Tickets.{CoreView}
use Rattle.po_receipts.specs.declared.receipt.Receipt.{Receipt}
use Rattle.po_receipts.specs.declared.error.ReconcileError.{ReconcileError}
use Rattle.po_receipts.specs.declared.error.ReconcileError.TheVariants.{Gap, Mismatch}
use Rattle.po_receipts.specs.Passes.{PassView}
use Rattle.po_receipts.specs.Receipts.{receipts_due}

-- This is the first place at which the lists differ: they are the same before it, and there they have different items, or one
-- of them has ended.
pub record IsFirstDifference {X : Type 0} (xs ys : List X) (place : ℕ) : Type 0 where
  pub same_before : take place xs ≡ take place ys
  pub differ : slice_get xs place ≢ slice_get ys place

module _ {V : Type 0} where
  -- The receipts are exactly those that are due to the seat, in the same order.
  abbrev pub Agrees : List (Ended V) → List (Event V) → ℕ → List (Receipt V) → Type 0
  Agrees ended history seat receipts = map Some receipts ≡ receipts_due ended history seat

  -- Each seat below a limit agrees.
  abbrev pub AgreeBelow : List (Ended V) → List (Event V) → List (PassView V) → ℕ → Type 0
  AgreeBelow ended history passes limit =
      (seat : ℕ) (pass : PassView V) → seat < limit → slice_get passes seat ≡ Some pass → Agrees ended history seat pass.receipts

  -- Each seat agrees.
  abbrev pub AllAgree : List (Ended V) → List (Event V) → List (PassView V) → Type 0
  AllAgree ended history passes =
      (seat : ℕ) (pass : PassView V) → slice_get passes seat ≡ Some pass → Agrees ended history seat pass.receipts

  -- This is the lowest seat whose receipts differ from those that are due, and the first place at which they do.
  pub record IsMismatch (ended : List (Ended V)) (history : List (Event V)) (passes : List (PassView V)) (seat place : ℕ) : Type 0 where
    pub pass : PassView V
    pub of_seat : slice_get passes seat ≡ Some pass
    pub first : IsFirstDifference (map Some pass.receipts) (receipts_due ended history seat) place
    pub lowest : AgreeBelow ended history passes seat

  -- the first place at which the next volume should begin but doesn't; after the last volume, the base should begin
  abbrev pub gap : ℕ → List (VolumeView V) → ℕ → Option ℕ
  gap place [] base = if base == place then None else Some place
  gap place (volume ∷ volumes) base =
      if volume.first_place == place then gap (place + length volume.events) volumes base else Some place

module _ {S V : Type 0} where
  -- the whole history: the events of the volumes that were cut off, in their order, then those since the last cut
  abbrev pub history_of : CoreView S V → List (VolumeView V) → List (Event V)
  history_of core volumes = joined volumes ++ core.object.events

  -- The volumes run on from the first place of the history to the base, and the receipts of each seat are those that are due to
  -- it.
  pub record IsAgreed (core : CoreView S V) (passes : List (PassView V)) (volumes : List (VolumeView V)) : Type 0 where
    pub whole : RunOn core.object.setup.first_place volumes core.object.base.place
    pub agree : AllAgree core.object.state.ended (history_of core volumes) passes

  -- why they don't agree; a gap in the history is reported first
  abbrev pub IsFaultOf : CoreView S V → List (PassView V) → List (VolumeView V) → ReconcileError → Type 0
  IsFaultOf core passes volumes (Gap place) =
      gap core.object.setup.first_place volumes core.object.base.place ≡ Some place
  IsFaultOf core passes volumes (Mismatch seat place) =
      RunOn core.object.setup.first_place volumes core.object.base.place
      × IsMismatch core.object.state.ended (history_of core volumes) passes seat place
