use Rattle.std.proofs.Common.{ap, ◌∙◌, ◌≤◌, subst, sym, ◌≡◌, ◌++◌, Some, rules}
use Rattle.po_receipts.specs.OneHistory.{IsWholeLog, end_in}
use Rattle.po_receipts.proofs.OneHistory.{whole-on, ticked-on}
use Rattle.po_object.proofs.Asking.{asked-on, asked-action}
use Rattle.po_object.proofs.Clock.{clock-tick}
use Rattle.po_object.proofs.Counting.{counted-tick}
use Rattle.po_object.proofs.LatestKept.{known-action}
use Rattle.po_object.proofs.Rooms.{room-same}
use mathlib.Core.List.{IsPrefix}
use Rattle.po_receipts.proofs.OneHistory.{placed-on}
use Rattle.po_object.proofs.Refusing.{tick-refused-at}
use Rattle.po_object.proofs.Refused.{tick-refused-of}
use Rattle.po_object.proofs.locked_core.LockedCore.tick.Goals as goal

pub invariant_of-self-2 : goal.invariant_of-self-2
invariant_of-self-2 g c =
    let old = c.self.inside.core in
    let new = c.tick.new.self in
    let k = c.in_ok-clock.ensures in
    let f = c.go_on.ensures in
    let goes : old.object.events ++ f.followed.0 ≡ new.object.events = ap (λ core. core.object.events ++ f.followed.0) (sym c.of-before.ensures) ∙ f.followed.1 in
    let went : c.go_on.new.log ≡ c.self.inside.log ++ f.followed.0 = f.followed.2 ∙ ap (λ log. log ++ f.followed.0) c.show_to.ensures.same in
    record {
      counted = counted-tick g.U.Unit.meaning _ _ _ _ _ k.action c.self.invariant.counted;
      parts = c.self.invariant.parts;
      amounts = c.self.invariant.amounts;
      shape = ap (λ made. made.shape) k.action.setup ∙ c.self.invariant.shape;
      latest = known-action g.U.Unit.meaning _ old new (ap (λ core. core.tickets) k.after) _ k.action tt tt c.self.invariant.latest;
      bounded = c.self.invariant.bounded;
      room = room-same old new c.self.inside.reservations (ap (λ core. core.tickets) k.after) (ap (λ core. core.capacity) k.after) c.self.invariant.room;
      seats = c.self.invariant.seats;
      asked = asked-on g.U.Unit.meaning _ old.object new.object c.self.inside.log f.followed.0 _ c.self.invariant.log (asked-action g.U.Unit.meaning _ _ _ _ k.action tt) goes went c.self.invariant.asked;
      made = c.self.invariant.made ∙ sym (ap Some k.action.setup);
      ends = c.self.invariant.ends ∙ sym (ap (end_in g.U.Unit.meaning) k.action.setup);
      log = subst (IsWholeLog g.U.Unit.meaning new.object) (sym went) (whole-on g.U.Unit.meaning old.object new.object c.self.inside.log f.followed.0 k.volumes c.self.invariant.log goes);
    }

pub returns-clause-raised : goal.returns-clause-raised
returns-clause-raised g c =
    subst (λ clock. c.args.t ≤ clock) (sym c.in_ok-clock.ensures.clock) (clock-tick g.U.Unit.meaning _ _ _ c.in_ok-clock.ensures.action)

pub go_on-requires : goal.go_on-requires
go_on-requires g c =
    let old = c.self.inside.core in
    let new = c.tick.new.self in
    let k = c.in_ok-clock.ensures in
    let goes : IsPrefix old.object.events new.object.events = (_, sym k.action.events) in
    record {
      goes_on = subst (λ core. IsPrefix core.object.events new.object.events) (sym c.of-before.ensures) goes;
      placed = placed-on g.U.Unit.meaning old.object new.object _ c.self.inside.log _ (ap (λ core. core.object) c.of-before.ensures) c.show_to.ensures.same k.volumes c.self.invariant.log goes;
    }

pub returns-clause-ticked : goal.returns-clause-ticked
returns-clause-ticked g c =
    let old = c.self.inside.core in
    let new = c.tick.new.self in
    let k = c.in_ok-clock.ensures in
    let f = c.go_on.ensures in
    let goes : old.object.events ++ f.followed.0 ≡ new.object.events = ap (λ core. core.object.events ++ f.followed.0) (sym c.of-before.ensures) ∙ f.followed.1 in
    let went : c.go_on.new.log ≡ c.self.inside.log ++ f.followed.0 = f.followed.2 ∙ ap (λ log. log ++ f.followed.0) c.show_to.ensures.same in
    ticked-on g.U.Unit.meaning _ old.object new.object _ _ _ c.self.inside.log f.followed.0 _ c.self.invariant.made k.action c.headline-2.ensures.headline k.volumes c.self.invariant.log c.show_to.ensures.later goes (f.all ∙ went) k.clock

pub returns-in_err-clock-clause-refused_at : goal.returns-in_err-clock-clause-refused_at
returns-in_err-clock-clause-refused_at g c =
    let held = tick-refused-at g.U.Unit.meaning _ c.self.inside.core.object _ c.self.inside.log _ c.self.invariant.made c.headline.ensures.headline c.self.invariant.log c.show_to.ensures.later c.show_to.ensures.all g.R.Record.is_bounded c.in_err-clock.field-0.0 (tick-refused-of c.self.inside.core g.R.Record.is_bounded c.recall_kind.ensures _ c.in_err-clock.ensures.refused) in
    search (rules, held)
