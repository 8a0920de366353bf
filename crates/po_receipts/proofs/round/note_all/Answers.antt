use Rattle.std.proofs.Common.{take, sym, subst, ◌∙◌, ◌++◌}
use Rattle.po_receipts.specs.Marks.{AreMarks}
use Rattle.po_receipts.proofs.Rounds.{seen_more, seen_all}
use Rattle.po_receipts.proofs.round.note_all.Goals as goal

pub loop-event-preserved : goal.loop-event-preserved
loop-event-preserved g c =
    let inv = c.loop-event.invariant in
    let events = c.args.events.now in
    let i = c.loop-event.event-index in
    record {
      long = c.note.auto.marks ∙ inv.long;
      marked = λ seen are.
          subst (λ so_far. AreMarks c.args.core.now.object.state.ended c.args.passes.now c.args.first so_far c.note.new.marks)
          (sym (seen_more seen events i c.event-item.result c.loop-event-test.true c.event-item.is))
          (c.note.ensures (seen ++ take i events) (inv.marked seen are));
    }

pub returns : goal.returns
returns g c seen are =
    subst (λ so_far. AreMarks c.args.core.now.object.state.ended c.args.passes.now c.args.first so_far c.loop-event.marks)
    (seen_all seen c.args.events.now c.loop-event.event-index c.loop-event-test.false)
    (c.loop-event.invariant.marked seen are)
