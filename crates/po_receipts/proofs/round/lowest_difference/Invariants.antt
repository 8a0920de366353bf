use Rattle.std.proofs.Common.{◌+◌, List}
use Rattle.po_engine.specs.declared.ended.Ended.{Ended}
use Rattle.po_history.specs.declared.event.Event.{Event}
use Rattle.po_receipts.specs.Agreement.{AgreeBelow}
use Rattle.po_receipts.specs.Marks.{AreMarks}
use Rattle.po_receipts.proofs.round.lowest_difference.Given as goal

abbrev pub invariant-loop-i : goal.invariant-loop-i
invariant-loop-i g l = (ended : List (Ended _)) (history : List (Event _))
    → AreMarks ended l.passes l.first history l.marks
    → AgreeBelow ended history l.passes l.first
    → AgreeBelow ended history l.passes (l.first + l.i)
