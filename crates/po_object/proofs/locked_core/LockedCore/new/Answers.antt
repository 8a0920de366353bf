use Rattle.std.proofs.Common.{◌≡◌, ◌∙◌, sym, subst, arith, length, []}
use Rattle.po_receipts.specs.Answers.{AskedBySeats}
use Rattle.po_receipts.proofs.OneHistory.{none-listed}
use Rattle.po_core.specs.Cutting.{procedures_run}
use Rattle.po_object.proofs.LatestKept.{known-first}
use Rattle.po_object.proofs.Rooms.{none-open, room-first}
use Rattle.po_object.proofs.locked_core.LockedCore.new.Goals as goal

pub invariant_of-result : goal.invariant_of-result
invariant_of-result g c =
    let r = c.requires in
    let core = c.args.core in
    let view = core.object in
    let sound = c.headline.ensures.headline.sound in
    let next : view.state.next ≡ view.setup.first_number = omega (arith, sound.counted, sound.low, r.fresh) in
    let ran : procedures_run view ≡ 0 = omega (arith, sound.counted, sound.low, r.fresh) in
    let at : view.base.place ≡ view.setup.first_place = omega (arith, sound.begun, r.fresh) in
    let none : length view.events ≡ 0 = omega (arith, sound.begun, r.fresh) in
    record {
      counted = record { issued = omega (arith, next, r.totals.0); ran = ran ∙ sym r.totals.1 };
      parts = r.parts;
      amounts = r.amounts;
      shape = r.shape;
      latest = known-first _ _ core sound.placed next r.latest.1;
      bounded = r.bounded;
      room = room-first core c.args.reservations (r.bounded.0 ∙ (r.bounded.1 ∙ sym c.recall_kind.ensures)) (none-open core next c.headline.ensures.tickets) r.room;
      seats = r.seats;
      asked = subst (AskedBySeats (length c.args.latest)) (sym r.log) (λ i d lt. absurd (omega (arith, lt)));
      made = r.story.0;
      ends = r.story.1;
      log = ([], c.headline.ensures.uncut at, r.log ∙ sym (none-listed view.events none));
    }
