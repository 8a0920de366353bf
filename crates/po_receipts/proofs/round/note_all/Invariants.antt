use Rattle.std.proofs.Common.{◌≡◌, ◌++◌, List, take, length}
use Rattle.po_history.specs.declared.event.Event.{Event}
use Rattle.po_receipts.specs.Marks.{AreMarks}
use Rattle.po_receipts.proofs.round.note_all.Given as goal

abbrev pub invariant-loop-event : goal.invariant-loop-event
invariant-loop-event g l = record {
  long : length l.marks ≡ length l.initial.marks;
  marked : (seen : List (Event _))
      → AreMarks l.core.object.state.ended l.passes l.first seen l.initial.marks
      → AreMarks l.core.object.state.ended l.passes l.first (seen ++ take l.event-index l.events) l.marks;
}
