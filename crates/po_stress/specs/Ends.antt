-- SPDX-License-Identifier: MIT
-- How many of the calls of receipts ended in each way (this project's own).
use Rattle.std.specs.Prelude.{ℕ, ◌≡◌, ◌+◌, Bool, false, List, [], All, None, count_by, sum_by}
use Rattle.po_receipts.specs.declared.receipt.Receipt.{Receipt}
use Rattle.po_receipts.specs.declared.receipt.Receipt.TheVariants.{Called, Ran}
use Rattle.po_receipts.specs.Passes.{PassView}
use Rattle.po_stress.specs.Counts.{ends_as}
use Rattle.po_stress.specs.declared.counting.Ending.{Ending}
use Rattle.po_stress.specs.declared.counting.Ending.TheVariants.{Done, GivenUp, Failed}
use Rattle.po_stress.specs.declared.ends.Ends.{Ends}

-- how many calls these are together
abbrev pub all_of : Ends → ℕ
all_of ends = ends.completed + ends.cancelled + ends.program_error

module _ {V : Type 0} where
  -- whether the receipt is of a call that ended in this way
  abbrev pub is_receipt_as : Ending → Receipt V → Bool
  is_receipt_as ending (Called number entry value deadline answer) = ends_as ending answer
  is_receipt_as ending (Ran op value reply) = false

  -- how many receipts are of calls that ended in this way
  abbrev pub filed_as : Ending → List (Receipt V) → ℕ
  filed_as ending receipts = count_by (is_receipt_as ending) receipts

  -- The numbers count the receipts, by how their calls ended.
  pub record AreEndsOf (receipts : List (Receipt V)) (ends : Ends) : Type 0 where
    pub completed : ends.completed ≡ filed_as Done receipts
    pub cancelled : ends.cancelled ≡ filed_as GivenUp receipts
    pub program_error : ends.program_error ≡ filed_as Failed receipts

  -- how many receipts of all these passes are of calls that ended in this way
  abbrev pub filed_by_all : Ending → List (PassView V) → ℕ
  filed_by_all ending passes = sum_by (λ pass. filed_as ending pass.receipts) passes

  -- The numbers count the receipts of all these passes.
  pub record AreEndsOfAll (passes : List (PassView V)) (ends : Ends) : Type 0 where
    pub completed : ends.completed ≡ filed_by_all Done passes
    pub cancelled : ends.cancelled ≡ filed_by_all GivenUp passes
    pub program_error : ends.program_error ≡ filed_by_all Failed passes

  -- how many calls these passes counted
  abbrev pub calls_of : List (PassView V) → ℕ
  calls_of passes = sum_by (λ pass. pass.calls) passes

  -- No pass has been used: it has no pending call and no receipt.
  abbrev pub AreUnused : List (PassView V) → Type 0
  AreUnused passes = All (λ pass. (pass.pending ≡ None) × (pass.receipts ≡ [])) passes
