use Rattle.std.proofs.Common.{rules, sym, ◌≡◌, ◌⊎◌, inl, Some, ◌∙◌, ap, ◌+◌, arith, ◌++◌, ◌∷◌, [], subst}
use Rattle.po_core.specs.Refusals.{procedure_refusal}
use Rattle.po_receipts.specs.OneHistory.{IsWholeLog, end_in}
use Rattle.po_receipts.proofs.OneHistory.{whole-on, found-on}
use Rattle.po_object.specs.Refused.{IsOutOfMemory}
use Rattle.po_object.proofs.Asking.{asked-on, asked-action}
use Rattle.po_object.proofs.Counting.{counted-ran}
use Rattle.po_object.proofs.LatestKept.{known-action}
use Rattle.po_object.proofs.Refused.{refused-either, out-of-memory}
use Rattle.po_object.proofs.Rooms.{room-same}
use Rattle.std.proofs.lemmas.Grind.{common_steps}
use Rattle.po_receipts.specs.declared.receipt.Receipt.TheVariants.{Ran}
use Rattle.po_receipts.proofs.OneHistory.{stands-on}
use Rattle.po_receipts.proofs.Told.{Told, told-ran}
use mathlib.Core.List.{IsPrefix}
use Rattle.po_receipts.proofs.OneHistory.{placed-on}
use Rattle.po_object.proofs.Refusing.{run-refused}
use Rattle.po_object.proofs.locked_core.LockedCore.procedure.Goals as goal

pub invariant_of-self-2 : goal.invariant_of-self-2
invariant_of-self-2 g c =
    let old = c.self.inside.core in
    let new = c.procedure.new.self in
    let k = c.in_ok-reply.ensures in
    let f = c.go_on.ensures in
    let goes : old.object.events ++ f.followed.0 ≡ new.object.events = ap (λ core. core.object.events ++ f.followed.0) (sym c.of-before.ensures) ∙ f.followed.1 in
    let went : c.go_on.new.log ≡ c.self.inside.log ++ f.followed.0 = f.followed.2 ∙ ap (λ log. log ++ f.followed.0) c.show_to.ensures.same in
    record {
      counted = counted-ran g.U.Unit.meaning _ _ _ _ _ _ _ _ _ k.action (c.add.ensures.total ∙ ap (λ n. n + 1) c.audit.ensures.total) c.self.invariant.counted;
      parts = c.self.invariant.parts;
      amounts = c.self.invariant.amounts;
      shape = ap (λ made. made.shape) k.action.setup ∙ c.self.invariant.shape;
      latest = known-action g.U.Unit.meaning _ old new (ap (λ core. core.tickets) k.after) _ k.action tt tt c.self.invariant.latest;
      bounded = c.self.invariant.bounded;
      room = room-same old new c.self.inside.reservations (ap (λ core. core.tickets) k.after) (ap (λ core. core.capacity) k.after) c.self.invariant.room;
      seats = c.self.invariant.seats;
      asked = asked-on g.U.Unit.meaning _ old.object new.object c.self.inside.log f.followed.0 _ c.self.invariant.log (asked-action g.U.Unit.meaning _ _ _ _ k.action (omega (arith, c.pass.invariant.seat, c.self.invariant.seats))) goes went c.self.invariant.asked;
      made = c.self.invariant.made ∙ sym (ap Some k.action.setup);
      ends = c.self.invariant.ends ∙ sym (ap (end_in g.U.Unit.meaning) k.action.setup);
      log = subst (IsWholeLog g.U.Unit.meaning new.object) (sym went) (whole-on g.U.Unit.meaning old.object new.object c.self.inside.log f.followed.0 k.volumes c.self.invariant.log goes);
    }

pub returns-in_err-make_room-clause-refused : goal.returns-in_err-make_room-clause-refused
returns-in_err-make_room-clause-refused g c =
    let none = out-of-memory g.R.Record.is_bounded (sym c.self.invariant.bounded.1 ∙ c.in_err-make_room.ensures.refused) in
    search (rules, none)

pub returns-in_err-reply-clause-refused : goal.returns-in_err-reply-clause-refused
returns-in_err-reply-clause-refused g c =
    let either : IsOutOfMemory g.R.Record.is_bounded c.in_err-reply.field-0.0 ⊎ (procedure_refusal g.U.Unit.meaning c.args.self.now.object c.args.op ≡ Some c.in_err-reply.field-0.0) =
    rw (← c.self.view_is) (refused-either c.self.inside.core c.self.inside.reservations g.Q.Receipts.is_bounded g.R.Record.is_bounded c.self.invariant.bounded.0 c.self.invariant.bounded.1 c.self.invariant.room _ _ c.in_err-reply.ensures.refused) in
    search (rules, either)

pub go_on-requires : goal.go_on-requires
go_on-requires g c =
    let old = c.self.inside.core in
    let new = c.procedure.new.self in
    let k = c.in_ok-reply.ensures in
    let goes : IsPrefix old.object.events new.object.events = (_, sym k.action.events) in
    record {
      goes_on = subst (λ core. IsPrefix core.object.events new.object.events) (sym c.of-before.ensures) goes;
      placed = placed-on g.U.Unit.meaning old.object new.object _ c.self.inside.log _ (ap (λ core. core.object) c.of-before.ensures) c.show_to.ensures.same k.volumes c.self.invariant.log goes;
    }

pub returns-clause-ran : goal.returns-clause-ran
returns-clause-ran g c =
    let old = c.self.inside.core in
    let new = c.procedure.new.self in
    let k = c.in_ok-reply.ensures in
    let f = c.go_on.ensures in
    let goes : old.object.events ++ f.followed.0 ≡ new.object.events = ap (λ core. core.object.events ++ f.followed.0) (sym c.of-before.ensures) ∙ f.followed.1 in
    let went : c.go_on.new.log ≡ c.self.inside.log ++ f.followed.0 = f.followed.2 ∙ ap (λ log. log ++ f.followed.0) c.show_to.ensures.same in
    rw (← c.pass.view_is) (found-on g.U.Unit.meaning _ old.object new.object _ _ c.self.inside.log f.followed.0 _ c.self.invariant.made k.action c.headline-2.ensures.headline k.volumes c.self.invariant.log c.show_to.ensures.later goes (f.all ∙ went))

pub invariant_of-pass-2 : goal.invariant_of-pass-2
invariant_of-pass-2 g c =
    let m = g.U.Unit.meaning in
    let old = c.self.inside.core in
    let new = c.procedure.new.self in
    let k = c.in_ok-reply.ensures in
    let f = c.go_on.ensures in
    let goes : old.object.events ++ f.followed.0 ≡ new.object.events = ap (λ core. core.object.events ++ f.followed.0) (sym c.of-before.ensures) ∙ f.followed.1 in
    let went : c.go_on.new.log ≡ c.self.inside.log ++ f.followed.0 = f.followed.2 ∙ ap (λ log. log ++ f.followed.0) c.show_to.ensures.same in
    let stands = stands-on m old.object new.object _ _ c.self.inside.log f.followed.0 _ k.action c.headline-2.ensures.headline k.volumes c.self.invariant.log c.show_to.ensures.later goes (f.all ∙ went) in
    let none = ap (λ p. p.pending) c.pass.view_is ∙ c.requires in
    let told = told-ran c.pass.inside.seat g.C.CallLedger.end_of c.pass.inside.pending (g.Q.Receipts.items c.pass.inside.receipts) c.args.op c.args.value c.in_ok-reply.reply c.pass.inside.front c.go_on.new.front none c.pass.invariant.told stands.happens in
    let filed : g.Q.Receipts.items c.file.new.self ≡ g.Q.Receipts.items c.pass.inside.receipts ++ Ran c.args.op c.args.value c.in_ok-reply.reply ∷ [] = c.file.ensures ∙ ap (λ receipts. receipts ++ Ran c.args.op c.args.value c.in_ok-reply.reply ∷ []) c.make_room.ensures.same in
    record {
      tallied = grind (arith, common_steps);
      told = subst (λ receipts. Told c.pass.inside.seat g.C.CallLedger.end_of c.pass.inside.pending receipts c.go_on.new.front) (sym filed) told;
      parts = grind (arith, common_steps);
      amounts = grind (arith, common_steps);
      room = search rules;
      reservation = search rules;
      seat = c.pass.invariant.seat;
    }

pub returns-in_err-make_room-clause-refused_at : goal.returns-in_err-make_room-clause-refused_at
returns-in_err-make_room-clause-refused_at g c =
    let none = out-of-memory g.R.Record.is_bounded (sym c.self.invariant.bounded.1 ∙ c.in_err-make_room.ensures.refused) in
    let held = run-refused g.U.Unit.meaning _ c.self.inside.core.object _ c.self.inside.log _ c.self.invariant.made c.headline.ensures.headline c.self.invariant.log c.show_to.ensures.later c.show_to.ensures.all g.R.Record.is_bounded c.args.op _ (inl none) in
    rw (← c.pass.view_is) (search (rules, held))

pub returns-in_err-reply-clause-refused_at : goal.returns-in_err-reply-clause-refused_at
returns-in_err-reply-clause-refused_at g c =
    let either = refused-either c.self.inside.core c.self.inside.reservations g.Q.Receipts.is_bounded g.R.Record.is_bounded c.self.invariant.bounded.0 c.self.invariant.bounded.1 c.self.invariant.room _ _ c.in_err-reply.ensures.refused in
    let held = run-refused g.U.Unit.meaning _ c.self.inside.core.object _ c.self.inside.log _ c.self.invariant.made c.headline.ensures.headline c.self.invariant.log c.show_to.ensures.later c.show_to.ensures.all g.R.Record.is_bounded c.args.op _ either in
    rw (← c.pass.view_is) (search (rules, held))
