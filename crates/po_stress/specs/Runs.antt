-- SPDX-License-Identifier: MIT
-- What a report of a run says (this project's own).
use Rattle.std.specs.Prelude.{ℕ, ◌≡◌, ◌*◌, All, IsOk, length}
use Rattle.po_unit.specs.Meaning.{Meaning}
use Rattle.po_core.specs.Headline.{Headline}
use Rattle.po_core.specs.Setup.{Setup}
use Rattle.po_classic_units.specs.Buffer.{buffer_meaning, buffer_unit}
use Rattle.po_classic_units.specs.Allocator.{allocator_meaning, allocator_unit}
use Rattle.po_classic_units.specs.Meeting.{meeting_meaning, meeting_unit}
use Rattle.po_receipts.specs.Answers.{AnswersAreOwn, NonePending}
use Rattle.po_receipts.specs.OneHistory.{IsWholeHistory, state_after}
use Rattle.po_object.specs.Closing.{ClosedView, IsClosed}
use Rattle.po_stress.specs.Reports.{IsReportOf, AddUpTo}
use Rattle.po_stress.specs.Starts.{started_new}
use Rattle.po_stress.specs.declared.report.Report.{Report}
use Rattle.po_stress.specs.declared.unit.StressUnit.{StressUnit}
use Rattle.po_stress.specs.declared.unit.StressUnit.TheVariants.{Buffer, Allocator, Meeting, Race}

-- The report is on an object of a unit with this meaning that was set up with `setup`, had `threads` seats and was closed: its
-- history replays as serial protected actions of one thread, and as many calls were issued as the passes counted. Each thread's
-- pass counted all calls that the thread was to make. So if all answers agree with the history, the numbers add up to the calls
-- of all threads.
--
-- Whatever the verdict is, each thread was answered what the object's whole history gives to the thread's own calls, each once
-- and in the thread's order. No call was left without its answer, and this history is serial (9.5.1).
pub record IsRun {S V : Type 0} (m : Meaning S V) (setup : Setup S) (threads calls : ℕ) (report : Report) : Type 0 where
  pub closed : ClosedView S V
  pub made : closed.core.object.setup ≡ setup
  pub seats : length closed.passes ≡ threads
  pub tallies : All (λ pass. pass.calls ≡ calls) closed.passes
  pub totals : IsClosed m closed
  pub headline : Headline m closed.core.object
  pub pending : NonePending closed.passes
  pub own : AnswersAreOwn (state_after m closed.core.object.setup closed.log).ended closed.log closed.passes
  pub serial : IsWholeHistory m closed.core.object.setup closed.log
  pub told : IsReportOf closed report
  pub sums : IsOk report.verdict → AddUpTo (threads * calls) report

-- The report is on an object of the unit that had `threads` seats, each of which made `calls` calls, and was closed: a buffer
-- with room for 4 values, or for 2 in a race; an allocator with 3 pieces; a meeting of all threads.
abbrev pub IsRunOf : StressUnit → ℕ → ℕ → Report → Type 0
IsRunOf Buffer threads calls report = IsRun buffer_meaning (started_new buffer_unit 4) threads calls report
IsRunOf Race threads calls report = IsRun buffer_meaning (started_new buffer_unit 2) threads calls report
IsRunOf Allocator threads calls report = IsRun allocator_meaning (started_new allocator_unit 3) threads calls report
IsRunOf Meeting threads calls report = IsRun meeting_meaning (started_new meeting_unit threads) threads calls report
