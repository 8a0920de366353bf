-- SPDX-License-Identifier: MIT
-- What the totals of a run over an object with fixed memory say (this project's own).
use Rattle.std.specs.Prelude.{ℕ, ◌≡◌, ◌+◌, ◌*◌, All, count_by, length, true}
use Rattle.po_unit.specs.Meaning.{Meaning}
use Rattle.po_core.specs.Base.{is_issue}
use Rattle.po_core.specs.Headline.{Headline}
use Rattle.po_core.specs.Setup.{Setup}
use Rattle.po_classic_units.specs.Buffer.{buffer_meaning, buffer_unit}
use Rattle.po_classic_units.specs.Allocator.{allocator_meaning, allocator_unit}
use Rattle.po_classic_units.specs.Meeting.{meeting_meaning, meeting_unit}
use Rattle.po_receipts.specs.Answers.{AnswersAreOwn, NonePending}
use Rattle.po_receipts.specs.OneHistory.{IsWholeHistory, state_after}
use Rattle.po_object.specs.Closing.{ClosedView, IsClosed}
use Rattle.po_stress.specs.declared.counting.Ending.TheVariants.{Done, GivenUp, Failed}
use Rattle.po_stress.specs.declared.totals.Totals.{Totals}
use Rattle.po_stress.specs.declared.unit.StressUnit.{StressUnit}
use Rattle.po_stress.specs.declared.unit.StressUnit.TheVariants.{Buffer, Allocator, Meeting, Race}
use Rattle.po_stress.specs.Ends.{filed_by_all}
use Rattle.po_stress.specs.Starts.{started_new}
use Rattle.po_stress.specs.Totals.{agree}

-- As many calls were issued as the core's history issues. The other numbers count the receipts that were filed with the passes,
-- by how their calls ended. Only proofs know the history and the receipts.
pub record AreTotalsOf {S : Type 0} (closed : ClosedView S ℕ) (t : Totals) : Type 0 where
  pub issued : t.issued ≡ count_by is_issue closed.core.object.events
  pub completed : t.completed ≡ filed_by_all Done closed.passes
  pub cancelled : t.cancelled ≡ filed_by_all GivenUp closed.passes
  pub program_error : t.program_error ≡ filed_by_all Failed closed.passes

-- The totals are those of an object of a unit with this meaning that was set up with `setup`, had `threads` seats and was
-- closed: its history replays as serial protected actions of one thread, and as many calls were issued as the passes counted.
-- Each thread's pass counted all calls that the thread was to make. So all of them were issued, each of them ended in one of
-- the three ways, and the totals agree.
--
-- Each thread was answered what the object's whole history, which only proofs know, gives to the thread's own calls, each once
-- and in the thread's order. No call was left without its answer, and this history is serial (9.5.1).
pub record IsBoundedRun {S : Type 0} (m : Meaning S ℕ) (setup : Setup S) (threads calls : ℕ) (t : Totals) : Type 0 where
  pub closed : ClosedView S ℕ
  pub made : closed.core.object.setup ≡ setup
  pub seats : length closed.passes ≡ threads
  pub tallies : All (λ pass. pass.calls ≡ calls) closed.passes
  pub totals : IsClosed m closed
  pub headline : Headline m closed.core.object
  pub pending : NonePending closed.passes
  pub own : AnswersAreOwn (state_after m closed.core.object.setup closed.log).ended closed.log closed.passes
  pub serial : IsWholeHistory m closed.core.object.setup closed.log
  pub told : AreTotalsOf closed t
  pub issued : t.issued ≡ threads * calls
  pub sums : t.completed + t.cancelled + t.program_error ≡ threads * calls
  pub agreed : agree t ≡ true

-- The totals are those of an object of the unit that had `threads` seats, each of which made `calls` calls, and was closed. The
-- units are those that `IsRunOf` lists.
abbrev pub IsBoundedRunOf : StressUnit → ℕ → ℕ → Totals → Type 0
IsBoundedRunOf Buffer threads calls t = IsBoundedRun buffer_meaning (started_new buffer_unit 4) threads calls t
IsBoundedRunOf Race threads calls t = IsBoundedRun buffer_meaning (started_new buffer_unit 2) threads calls t
IsBoundedRunOf Allocator threads calls t = IsBoundedRun allocator_meaning (started_new allocator_unit 3) threads calls t
IsBoundedRunOf Meeting threads calls t = IsBoundedRun meeting_meaning (started_new meeting_unit threads) threads calls t
