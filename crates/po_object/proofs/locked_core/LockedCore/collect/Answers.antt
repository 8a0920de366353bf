use Rattle.std.proofs.Common.{sym, subst, ◌∙◌, ap, length, Some}
use Rattle.po_receipts.specs.OneHistory.{IsWholeLog, end_in}
use Rattle.po_receipts.proofs.OneHistory.{ended-on, answered}
use Rattle.po_object.specs.Counted.{IsCounted}
use Rattle.po_receipts.specs.Answers.{AskedBySeats}
use Rattle.po_object.proofs.LatestKept.{known-collected, ended-ticket}
use Rattle.po_object.proofs.Rooms.{gives-free, room-collected}
use Rattle.std.proofs.Common.{rules, arith, None}
use Rattle.std.proofs.lemmas.Grind.{common_steps}
use mathlib.Core.List.{IsPrefix}
use Rattle.po_receipts.proofs.OneHistory.{ends-on}
use Rattle.po_receipts.proofs.Told.{Told, told-ended}
use Rattle.po_object.proofs.locked_core.LockedCore.collect.Goals as goal

pub invariant_of-self-2 : goal.invariant_of-self-2
invariant_of-self-2 g c =
    let old = c.self.inside.core in
    let new = c.collect.new.self in
    let ticket = c.in_ok-asked.asked.ticket in
    let k = c.in_ok-end.ensures in
    record {
      counted = subst (λ view. IsCounted view c.self.inside.calls.total c.self.inside.procedures.total) (sym k.object) c.self.invariant.counted;
      parts = c.self.invariant.parts;
      amounts = c.self.invariant.amounts;
      shape = ap (λ view. view.setup.shape) k.object ∙ c.self.invariant.shape;
      latest = known-collected _ _ old new ticket c.in_ok-end.end k.object k.end k.taken c.headline.ensures.headline.sound.placed c.self.invariant.latest;
      bounded = (gives-free c.self.inside.reservations c.give.new.self c.give.ensures.total ∙ c.self.invariant.bounded.0, c.self.invariant.bounded.1);
      room = room-collected old new ticket c.self.inside.reservations c.give.new.self c.give.ensures.total k.capacity (ended-ticket old ticket c.in_ok-end.end k.end) k.taken c.self.invariant.room;
      seats = c.self.invariant.seats;
      asked = subst (AskedBySeats (length c.self.inside.latest)) (sym c.show_to.ensures.same) c.self.invariant.asked;
      made = c.self.invariant.made ∙ sym (ap (λ view. Some view.setup) k.object);
      ends = c.self.invariant.ends ∙ sym (ap (λ view. end_in g.U.Unit.meaning view.setup) k.object);
      log = subst (λ view. IsWholeLog g.U.Unit.meaning view c.show_to.new.self) (sym k.object) (subst (IsWholeLog g.U.Unit.meaning old.object) (sym c.show_to.ensures.same) c.self.invariant.log);
    }

pub returns-clause-ended : goal.returns-clause-ended
returns-clause-ended g c =
    let m = g.U.Unit.meaning in
    let old = c.self.inside.core in
    let k = c.in_ok-end.ensures in
    rw (← c.pass.view_is, c.in_ok-asked.was) (ended-on m _ old.object c.in_ok-asked.asked.ticket.number c.in_ok-end.end _ c.self.inside.log _ c.self.invariant.made c.headline.ensures.headline c.self.invariant.log c.show_to.ensures.later c.show_to.ensures.all (answered _ _ _ c.in_ok-end.end (sym k.end)))

pub invariant_of-pass : goal.invariant_of-pass
invariant_of-pass g c =
    let old = c.self.inside.core in
    let asked = c.in_ok-asked.asked in
    let end = c.in_ok-end.end in
    let k = c.in_ok-end.ensures in
    let ended = ends-on g.U.Unit.meaning g.C.CallLedger.end_of old.object asked.ticket.number end c.self.inside.log c.show_to.new.front c.self.invariant.ends c.headline.ensures.headline c.self.invariant.log c.show_to.ensures.all (answered _ _ _ end (sym k.end)) in
    let later = subst (IsPrefix c.pass.inside.front) (sym c.show_to.ensures.all) c.show_to.ensures.later in
    let told = told-ended c.pass.inside.seat g.C.CallLedger.end_of c.pass.inside.pending asked (g.Q.Receipts.items c.pass.inside.receipts) end c.pass.inside.front c.show_to.new.front c.in_ok-asked.was c.pass.invariant.told later ended in
    record {
      tallied = grind (arith, common_steps);
      told = subst (λ receipts. Told c.pass.inside.seat g.C.CallLedger.end_of None receipts c.show_to.new.front) (sym c.file.ensures) told;
      parts = c.pass.invariant.parts;
      amounts = c.pass.invariant.amounts;
      room = λ none. absurd cc;
      reservation = search rules;
      seat = c.pass.invariant.seat;
    }
