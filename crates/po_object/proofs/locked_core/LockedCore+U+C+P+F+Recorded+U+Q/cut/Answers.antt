use Rattle.std.proofs.Common.{length, ap, ◌∙◌, sym, subst, Some, ◌++◌, ◌∷◌, [], rules}
use Rattle.po_core.specs.Cutting.{AreVolumes}
use Rattle.po_receipts.proofs.OneHistory.{whole-cut, cut-on}
use Rattle.po_receipts.specs.Answers.{AskedBySeats}
use Rattle.po_receipts.specs.OneHistory.{IsWholeLog, end_in}
use Rattle.po_object.proofs.Asking.{asked-since, asked-of}
use Rattle.po_object.proofs.Counting.{counted-cut}
use Rattle.po_object.proofs.LatestKept.{known-same}
use Rattle.po_object.proofs.Rooms.{room-same}
use Rattle.po_object.proofs.Refusing.{cut-refused}
use Rattle.po_object.proofs.locked_core.LockedCore+U+C+P+F+Recorded+U+Q.cut.Goals as goal

pub invariant_of-self-2 : goal.invariant_of-self-2
invariant_of-self-2 g c =
    let old = c.self.inside.core in
    let new = c.cut.new.self in
    let k = c.in_ok-volume.ensures in
    record {
      counted = counted-cut g.U.Unit.meaning _ _ _ _ (ap (λ core. core.object) k.after) c.self.invariant.counted;
      parts = c.self.invariant.parts;
      amounts = c.self.invariant.amounts;
      shape = ap (λ core. core.object.setup.shape) k.after ∙ c.self.invariant.shape;
      latest = known-same g.U.Unit.meaning _ old new (ap (λ core. core.tickets) k.after) (ap (λ core. core.object.state) k.after) c.self.invariant.latest;
      bounded = c.self.invariant.bounded;
      room = room-same old new c.self.inside.reservations (ap (λ core. core.tickets) k.after) (ap (λ core. core.capacity) k.after) c.self.invariant.room;
      seats = c.self.invariant.seats;
      asked = subst (AskedBySeats (length c.self.inside.latest)) (sym c.show_to.ensures.same) c.self.invariant.asked;
      made = c.self.invariant.made ∙ sym (ap (λ core. Some core.object.setup) k.after);
      ends = c.self.invariant.ends ∙ sym (ap (λ core. end_in g.U.Unit.meaning core.object.setup) k.after);
      log = subst (IsWholeLog g.U.Unit.meaning new.object) (sym c.show_to.ensures.same) (whole-cut g.U.Unit.meaning old.object new.object c.self.inside.log (ap (λ core. core.object) k.after) (λ volumes are. subst (λ volume. AreVolumes g.U.Unit.meaning new.object (volumes ++ volume ∷ [])) k.volume (k.joins volumes are)) c.self.invariant.log);
    }

pub returns-clause-arrivals : goal.returns-clause-arrivals
returns-clause-arrivals g c = rw (← c.self.view_is) c.in_ok-volume.ensures.arrivals

pub returns-clause-joins : goal.returns-clause-joins
returns-clause-joins g c = rw (← c.self.view_is) c.in_ok-volume.ensures.joins

pub returns-clause-asked : goal.returns-clause-asked
returns-clause-asked g c =
    λ seats same. subst (λ volume. AskedBySeats seats volume.events) (sym c.in_ok-volume.ensures.volume) (asked-of g.C.Ledger.parts _ seats c.self.inside.core.object.events c.self.invariant.seats same (asked-since g.U.Unit.meaning _ c.self.inside.core.object c.self.inside.log c.self.invariant.log c.self.invariant.asked))

pub returns-clause-cut_off : goal.returns-clause-cut_off
returns-clause-cut_off g c =
    cut-on g.U.Unit.meaning _ c.self.inside.core.object c.in_ok-volume.volume _ c.self.inside.log _ c.self.invariant.made c.headline.ensures.headline c.self.invariant.log c.show_to.ensures.later c.show_to.ensures.all c.in_ok-volume.ensures.volume

pub returns-in_err-volume-clause-refused_at : goal.returns-in_err-volume-clause-refused_at
returns-in_err-volume-clause-refused_at g c =
    let held = cut-refused g.U.Unit.meaning _ c.self.inside.core.object _ c.self.inside.log _ c.self.invariant.made c.headline.ensures.headline c.self.invariant.log c.show_to.ensures.later c.show_to.ensures.all c.in_err-volume.field-0.0 c.in_err-volume.ensures.refused in
    search (rules, held)
