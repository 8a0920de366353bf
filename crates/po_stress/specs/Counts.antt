-- SPDX-License-Identifier: MIT
-- The calls that a history issues, by how they ended (this project's own).
use Rattle.std.specs.Prelude.{Bool, true, false, List, Option, Some, None}
use Rattle.po_calls.specs.declared.end.End.{End}
use Rattle.po_calls.specs.declared.end.End.TheVariants.{Completed, Raised, Cancelled, ProgramError}
use Rattle.po_history.specs.declared.event.Event.{Event}
use Rattle.po_history.specs.declared.event.Event.TheVariants.{Issue}
use Rattle.po_engine.specs.declared.ended.Ended.{Ended}
use Rattle.po_receipts.specs.Receipts.{answer_of}
use Rattle.po_stress.specs.declared.counting.Ending.{Ending}
use Rattle.po_stress.specs.declared.counting.Ending.TheVariants.{Done, GivenUp, Failed}

module _ {V : Type 0} where
  -- The call ended in this way: its body completed or raised an exception; it was cancelled; Program_Error was raised at it.
  abbrev pub ends_as : Ending → End V → Bool
  ends_as Done (Completed v) = true
  ends_as Done (Raised k) = true
  ends_as GivenUp Cancelled = true
  ends_as Failed ProgramError = true
  ends_as ending other = false

  -- whether a call with this answer, if it has one, ended in this way
  abbrev pub is_answered_as : Ending → Option (End V) → Bool
  is_answered_as ending None = false
  is_answered_as ending (Some end) = ends_as ending end

  -- whether the event issues a call that ended in this way
  abbrev pub issues_ended : Ending → List (Ended V) → Event V → Bool
  issues_ended ending ended (Issue n owner e v deadline) = is_answered_as ending (answer_of ended n)
  issues_ended ending ended other = false
