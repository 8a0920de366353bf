-- SPDX-License-Identifier: MIT
-- What a report says of a closed object, and its line (this project's own).
use Rattle.std.specs.Prelude.{codes, ℕ, ◌≡◌, ◌↔◌, ◌+◌, ◌++◌, ◌∷◌, List, [], Option, count_by, flat_map, Result, Ok, Err, IsOk}
use Rattle.std.specs.Fmt.{decimal}
use Rattle.std.specs.Io.KnownBytes.{Appends}
use Rattle.po_core.specs.Base.{is_issue}
use Rattle.po_receipts.specs.Agreement.{IsAgreed, IsFaultOf}
use Rattle.po_receipts.specs.declared.comparison.Agreed.{Agreed}
use Rattle.po_receipts.specs.declared.error.ReconcileError.{ReconcileError}
use Rattle.po_receipts.specs.declared.error.ReconcileError.TheVariants.{Gap, Mismatch}
use Rattle.po_object.specs.Closing.{ClosedView}
use Rattle.po_stress.specs.Counts.{issues_ended}
use Rattle.po_stress.specs.Totals.{line_with}
use Rattle.po_stress.specs.declared.counting.Ending.TheVariants.{Done, GivenUp, Failed}
use Rattle.po_stress.specs.declared.report.Report.{Report}

-- The numbers count the calls that the closed object's history issues, and the verdict is that of the reconciliation without
-- volumes.
pub record IsReportOf {S V : Type 0} (closed : ClosedView S V) (report : Report) : Type 0 where
  pub issued : report.issued ≡ count_by is_issue closed.core.object.events
  pub completed : report.completed ≡ count_by (issues_ended Done closed.core.object.state.ended) closed.core.object.events
  pub cancelled : report.cancelled ≡ count_by (issues_ended GivenUp closed.core.object.state.ended) closed.core.object.events
  pub program_error : report.program_error ≡ count_by (issues_ended Failed closed.core.object.state.ended) closed.core.object.events
  pub agreed : IsOk report.verdict ↔ IsAgreed closed.core closed.passes []
  pub fault : (fault : ReconcileError) → (report.verdict ≡ Err fault) ↔ IsFaultOf closed.core closed.passes [] fault

-- `calls` calls were issued, and each of them ended in one of the three ways.
pub record AddUpTo (calls : ℕ) (r : Report) : Type 0 where
  pub issued : r.issued ≡ calls
  pub ended : r.completed + r.cancelled + r.program_error ≡ calls

-- the line of a run whose answers agree with the history
abbrev pub counts_line : Report → List ℕ
counts_line r =
    line_with (codes " agreed\n") (record { issued = r.issued; completed = r.completed; cancelled = r.cancelled; program_error = r.program_error })

-- the line of a run whose history has a gap at this place
abbrev pub gap_line : ℕ → List ℕ
gap_line place = flat_map (λ part. part) (codes "gap place " ∷ decimal place ∷ codes "\n" ∷ [])

-- the line of a run in which the receipts of this seat differ from the history, first at this place
abbrev pub mismatch_line : ℕ → ℕ → List ℕ
mismatch_line seat place =
    flat_map (λ part. part) (codes "mismatch seat " ∷ decimal seat ∷ codes " place " ∷ decimal place ∷ codes "\n" ∷ [])

-- the line of a run by its verdict, if `good` is the line when all agrees
abbrev pub verdict_line : List ℕ → Result Agreed ReconcileError → List ℕ
verdict_line good (Ok agreed) = good
verdict_line good (Err (Gap place)) = gap_line place
verdict_line good (Err (Mismatch seat place)) = mismatch_line seat place

-- the line of a report
abbrev pub line_of : Report → List ℕ
line_of r = verdict_line (counts_line r) r.verdict

-- Bytes from the front of the line were taken, and no others.
pub record TakesPart (old new : Option (List ℕ)) (line : List ℕ) : Type 0 where
  pub front : List ℕ
  pub back : List ℕ
  pub whole : line ≡ front ++ back
  pub taken : Appends old new front

-- the exit status of a verdict: 0 if all agrees, otherwise 3
abbrev pub status_of : Result Agreed ReconcileError → ℕ
status_of (Ok agreed) = 0
status_of (Err fault) = 3
