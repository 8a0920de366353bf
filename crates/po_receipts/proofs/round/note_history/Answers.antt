use Rattle.std.proofs.Common.{take, sym, subst, ◌∙◌, ◌++◌}
use Rattle.std.proofs.lemmas.List.{take_all}
use Rattle.po_history.specs.Histories.{joined}
use Rattle.po_receipts.specs.Marks.{AreMarks}
use Rattle.po_receipts.proofs.Rounds.{joined_more}
use Rattle.po_receipts.proofs.round.note_history.Goals as goal

pub loop-volume-preserved : goal.loop-volume-preserved
loop-volume-preserved g c =
    let inv = c.loop-volume.invariant in
    let i = c.loop-volume.volume-index in
    let volumes = c.args.volumes.now in
    record {
      long = c.note_all.auto.marks ∙ inv.long;
      marked =
          subst (λ so_far. AreMarks c.args.core.now.object.state.ended c.args.passes.now c.args.first so_far c.note_all.new.marks)
          (sym (joined_more volumes i c.volume-item.result c.loop-volume-test.true c.volume-item.is))
          (subst (λ more. AreMarks c.args.core.now.object.state.ended c.args.passes.now c.args.first (joined (take i volumes) ++ more) c.note_all.new.marks)
          c.events.ensures
          (c.note_all.ensures (joined (take i volumes)) inv.marked));
    }

pub returns : goal.returns
returns g c =
    let inv = c.loop-volume.invariant in
    let volumes = c.args.volumes.now in
    let all = take_all c.loop-volume.volume-index volumes c.loop-volume-test.false in
    subst (λ more. AreMarks c.args.core.now.object.state.ended c.args.passes.now c.args.first (joined volumes ++ more) c.note_all-2.new.marks)
    c.events-2.ensures
    (subst (λ vs. AreMarks c.args.core.now.object.state.ended c.args.passes.now c.args.first (joined vs ++ c.events-2.result.now) c.note_all-2.new.marks)
    all
    (c.note_all-2.ensures (joined (take c.loop-volume.volume-index volumes)) inv.marked))
