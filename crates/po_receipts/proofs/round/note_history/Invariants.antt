use Rattle.std.proofs.Common.{◌≡◌, take, length}
use Rattle.po_history.specs.Histories.{joined}
use Rattle.po_receipts.specs.Marks.{AreMarks}
use Rattle.po_receipts.proofs.round.note_history.Given as goal

abbrev pub invariant-loop-volume : goal.invariant-loop-volume
invariant-loop-volume g l = record {
  long : length l.marks ≡ length l.initial.marks;
  marked : AreMarks l.core.object.state.ended l.passes l.first (joined (take l.volume-index l.volumes)) l.marks;
}
