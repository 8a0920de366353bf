use Rattle.std.proofs.Common.{◌∙◌, ap, sym, ◌≡◌, ◌++◌, Some, subst}
use Rattle.std.specs.Prelude.{find}
use Rattle.po_engine.specs.WaitingCalls.{is_of}
use Rattle.po_receipts.specs.OneHistory.{IsWholeLog, end_in}
use Rattle.po_receipts.proofs.OneHistory.{whole-on, follows, found-number, aborted-on}
use Rattle.po_object.proofs.Asking.{asked-on, asked-attempt_of}
use Rattle.po_object.proofs.Counting.{counted-attempt_of, attempt-shape}
use Rattle.po_object.proofs.LatestKept.{known-attempt_of, cancels}
use Rattle.po_object.proofs.Rooms.{room-same}
use mathlib.Core.List.{IsPrefix}
use Rattle.po_receipts.proofs.OneHistory.{placed-on}
use Rattle.po_object.proofs.Refusing.{none-queued, unqueued}
use Rattle.po_object.proofs.locked_core.LockedCore.cancel_seat.Goals as goal

pub returns-in_err-aborted-clause-refused : goal.returns-in_err-aborted-clause-refused
returns-in_err-aborted-clause-refused g c =
    let w = c.waiting_ticket_of.ensures in
    let none = cancels c.self.inside.core c.in-Some.ticket _ (is_of c.args.seat) c.headline.ensures.headline.sound.placed (rw (c.in-Some.is) at w.live) (rw (c.in-Some.is) at w.number) in
    let some = c.in_err-aborted.ensures.refused in
    let bad = sym none ∙ some in
    absurd (let r : ⊥ = cc in r)

pub invariant_of-self-2 : goal.invariant_of-self-2
invariant_of-self-2 g c =
    let old = c.self.inside.core in
    let new = c.cancel.new.self in
    let k = c.in_ok-aborted.ensures in
    let f = c.go_on.ensures in
    let goes : old.object.events ++ f.followed.0 ≡ new.object.events = ap (λ core. core.object.events ++ f.followed.0) (sym c.of-before.ensures) ∙ f.followed.1 in
    let went : c.go_on.new.log ≡ c.self.inside.log ++ f.followed.0 = f.followed.2 ∙ ap (λ log. log ++ f.followed.0) c.show_to.ensures.same in
    record {
      counted = counted-attempt_of g.U.Unit.meaning _ _ _ _ _ _ k.action c.self.invariant.counted;
      parts = c.self.invariant.parts;
      amounts = c.self.invariant.amounts;
      shape = attempt-shape g.U.Unit.meaning _ _ _ _ k.action ∙ c.self.invariant.shape;
      latest = known-attempt_of g.U.Unit.meaning _ old new (ap (λ core. core.tickets) k.after) _ k.action c.self.invariant.latest;
      bounded = c.self.invariant.bounded;
      room = room-same old new c.self.inside.reservations (ap (λ core. core.tickets) k.after) (ap (λ core. core.capacity) k.after) c.self.invariant.room;
      seats = c.self.invariant.seats;
      asked = asked-on g.U.Unit.meaning _ old.object new.object c.self.inside.log f.followed.0 _ c.self.invariant.log (asked-attempt_of g.U.Unit.meaning _ _ _ _ _ k.action) goes went c.self.invariant.asked;
      made = c.self.invariant.made ∙ sym (ap Some (follows g.U.Unit.meaning old.object new.object _ k.action).1);
      ends = c.self.invariant.ends ∙ sym (ap (end_in g.U.Unit.meaning) (follows g.U.Unit.meaning old.object new.object _ k.action).1);
      log = subst (IsWholeLog g.U.Unit.meaning new.object) (sym went) (whole-on g.U.Unit.meaning old.object new.object c.self.inside.log f.followed.0 k.volumes c.self.invariant.log goes);
    }

pub go_on-requires : goal.go_on-requires
go_on-requires g c =
    let old = c.self.inside.core in
    let new = c.cancel.new.self in
    let k = c.in_ok-aborted.ensures in
    let goes = (follows g.U.Unit.meaning old.object new.object _ k.action).0 in
    record {
      goes_on = subst (λ core. IsPrefix core.object.events new.object.events) (sym c.of-before.ensures) goes;
      placed = placed-on g.U.Unit.meaning old.object new.object _ c.self.inside.log _ (ap (λ core. core.object) c.of-before.ensures) c.show_to.ensures.same k.volumes c.self.invariant.log goes;
    }

pub returns-clause-aborted : goal.returns-clause-aborted
returns-clause-aborted g c =
    let m = g.U.Unit.meaning in
    let old = c.self.inside.core in
    let new = c.cancel.new.self in
    let k = c.in_ok-aborted.ensures in
    let f = c.go_on.ensures in
    let goes : old.object.events ++ f.followed.0 ≡ new.object.events = ap (λ core. core.object.events ++ f.followed.0) (sym c.of-before.ensures) ∙ f.followed.1 in
    let went : c.go_on.new.log ≡ c.self.inside.log ++ f.followed.0 = f.followed.2 ∙ ap (λ log. log ++ f.followed.0) c.show_to.ensures.same in
    let numbers = rw (c.in-Some.is) at c.waiting_ticket_of.ensures.number in
    let found = found-number m old.object new.object c.in-Some.ticket.number c.in_ok-aborted.aborted (find (is_of c.args.seat) old.object.state.waiting) numbers k.answer k.action in
    aborted-on m _ old.object new.object c.args.seat _ _ c.self.inside.log f.followed.0 _ c.self.invariant.made found c.headline.ensures.headline c.headline-2.ensures.headline k.volumes c.self.invariant.log c.show_to.ensures.later goes (f.all ∙ went)

pub returns-in_default-clause-refused_at : goal.returns-in_default-clause-refused_at
returns-in_default-clause-refused_at g c =
    let none = unqueued (λ x. x.number) (find (is_of c.args.seat) c.self.inside.core.object.state.waiting) (rw (c.in_default.is) at c.waiting_ticket_of.ensures.number) in
    none-queued g.U.Unit.meaning _ c.self.inside.core.object _ c.self.inside.log _ c.self.invariant.made c.headline.ensures.headline c.self.invariant.log c.show_to.ensures.later c.show_to.ensures.all c.args.seat none

pub returns-in_err-aborted-clause-refused_at : goal.returns-in_err-aborted-clause-refused_at
returns-in_err-aborted-clause-refused_at g c =
    let w = c.waiting_ticket_of.ensures in
    let none = cancels c.self.inside.core c.in-Some.ticket _ (is_of c.args.seat) c.headline.ensures.headline.sound.placed (rw (c.in-Some.is) at w.live) (rw (c.in-Some.is) at w.number) in
    let some = c.in_err-aborted.ensures.refused in
    let bad = sym none ∙ some in
    absurd (let r : ⊥ = cc in r)
