-- SPDX-License-Identifier: MIT
-- What a pass shows: the calls and procedures of one seat, and the receipts that were filed for them (this project's own).
use Rattle.std.specs.Prelude.{ℕ, ◌≡◌, ◌+◌, Bool, true, false, List, [], Option, None, Some, count_by}
use Rattle.po_history.specs.declared.event.Event.{Event}
use Rattle.po_receipts.specs.declared.asked.Asked.{Asked}
use Rattle.po_receipts.specs.declared.receipt.Receipt.{Receipt}
use Rattle.po_receipts.specs.declared.receipt.Receipt.TheVariants.{Called, Ran}

-- A pass: its seat, how many calls and procedures were accepted from it, the call that has no receipt yet, the receipts in the
-- order in which they were filed, and the beginning of its object's history that its caller has seen.
pub record PassView (V : Type 0) : Type 0 where
  pub seat : ℕ
  pub calls : ℕ
  pub procedures : ℕ
  pub pending : Option (Asked V)
  pub receipts : List (Receipt V)
  pub seen : List (Event V)

-- a pass of this seat that hasn't been used
abbrev pub fresh : {V : Type 0} → ℕ → PassView V
fresh seat = record { seat = seat; calls = 0; procedures = 0; pending = None; receipts = []; seen = [] }

module _ {V : Type 0} where
  -- whether it is the receipt of a call
  abbrev pub is_call : Receipt V → Bool
  is_call (Called number entry value deadline answer) = true
  is_call (Ran op value reply) = false

  -- whether it is the receipt of a procedure
  abbrev pub is_procedure : Receipt V → Bool
  is_procedure (Called number entry value deadline answer) = false
  is_procedure (Ran op value reply) = true

  -- how many calls have no receipt yet
  abbrev pub unfiled : Option (Asked V) → ℕ
  unfiled None = 0
  unfiled (Some asked) = 1

  -- The tallies count the receipts of each kind, and the call that has none yet.
  pub record IsTallied (pass : PassView V) : Type 0 where
    pub calls : pass.calls ≡ count_by is_call pass.receipts + unfiled pass.pending
    pub procedures : pass.procedures ≡ count_by is_procedure pass.receipts
