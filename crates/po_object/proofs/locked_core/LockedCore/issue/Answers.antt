use Rattle.std.proofs.Common.{rules, sym, ◌≡◌, ◌⊎◌, inl, Some, ◌∙◌, ◌+◌, ◌<◌, ap, length, arith, ◌++◌, subst, ℕ, List}
use Rattle.std.proofs.lemmas.List.{length-set}
use Rattle.po_core.specs.Refusals.{issue_refusal}
use Rattle.po_unit.specs.declared.decl.Decl.{Decl}
use Rattle.po_history.specs.declared.event.Event.TheVariants.{Issue}
use Rattle.po_core.specs.Commands.{entry_of}
use Rattle.po_core.specs.ProtectedAction.{IsProtectedAction}
use Rattle.po_receipts.specs.OneHistory.{IsWholeLog, end_in}
use Rattle.po_receipts.proofs.OneHistory.{whole-on, found-on}
use Rattle.po_object.specs.Refused.{IsOutOfMemory}
use Rattle.po_object.proofs.Asking.{asked-on, asked-action, asked-of}
use Rattle.po_object.proofs.Counting.{counted-issue}
use Rattle.po_object.proofs.LatestKept.{known-issue}
use Rattle.po_object.proofs.Rooms.{stays-free, room-issued}
use Rattle.po_object.proofs.Refused.{call-refused, call-allowed, out-of-memory}
use Rattle.std.proofs.lemmas.Grind.{common_steps}
use Rattle.po_receipts.specs.declared.asked.Asked.{Asked}
use Rattle.po_receipts.proofs.OneHistory.{stands-on}
use Rattle.po_receipts.proofs.Told.{Told, told-asked}
use mathlib.Core.List.{IsPrefix}
use Rattle.po_receipts.proofs.OneHistory.{placed-on}
use Rattle.po_object.proofs.Refusing.{issue-refused}
use Rattle.po_object.proofs.locked_core.LockedCore.issue.Goals as goal

pub invariant_of-self-2 : goal.invariant_of-self-2
invariant_of-self-2 g c =
    let old = c.self.inside.core in
    let new = c.issue.new.self in
    let latest = c.self.inside.latest in
    let k = c.in_ok-ticket.ensures in
    let taken = sym c.audit.ensures.same.0 ∙ c.take.ensures.total in
    let ticket = c.in_ok-ticket.ticket in
    let inside : c.pass.inside.seat < length latest = omega (arith, c.pass.invariant.seat, c.self.invariant.seats) in
    let seats : length c.note.new.self + 1 ≡ g.C.Ledger.parts = ap (λ calls. length calls + 1) c.note.ensures ∙ simp length-set c.self.invariant.seats in
    let f = c.go_on.ensures in
    let goes : old.object.events ++ f.followed.0 ≡ new.object.events = ap (λ core. core.object.events ++ f.followed.0) (sym c.of-before.ensures) ∙ f.followed.1 in
    let went : c.go_on.new.log ≡ c.self.inside.log ++ f.followed.0 = f.followed.2 ∙ ap (λ log. log ++ f.followed.0) c.show_to.ensures.same in
    record {
      counted = counted-issue g.U.Unit.meaning _ _ _ _ _ _ _ _ _ _ k.action (c.add.ensures.total ∙ ap (λ n. n + 1) c.audit-2.ensures.total) c.self.invariant.counted;
      parts = c.self.invariant.parts;
      amounts = c.self.invariant.amounts;
      shape = ap (λ made. made.shape) k.action.setup ∙ c.self.invariant.shape;
      latest = known-issue latest c.pass.inside.seat ticket c.is_idle-idle.result inside old new c.self.invariant.latest g.U.Unit.meaning _ _ _ _ _ c.note.ensures k.action k.number c.headline.ensures.headline.sound.placed c.is_idle-idle.ensures.none k.key k.ticket;
      bounded = (stays-free c.self.inside.reservations c.take.new.self taken ∙ c.self.invariant.bounded.0, c.self.invariant.bounded.1);
      room = room-issued old new ticket c.self.inside.reservations c.take.new.self taken k.capacity k.key k.ticket c.self.invariant.room;
      seats = seats;
      asked = asked-of g.C.Ledger.parts (length latest) (length c.note.new.self) _ c.self.invariant.seats (sym seats) (asked-on g.U.Unit.meaning (length latest) old.object new.object c.self.inside.log f.followed.0 _ c.self.invariant.log (asked-action g.U.Unit.meaning (length latest) _ _ _ k.action inside) goes went c.self.invariant.asked);
      made = c.self.invariant.made ∙ sym (ap Some k.action.setup);
      ends = c.self.invariant.ends ∙ sym (ap (end_in g.U.Unit.meaning) k.action.setup);
      log = subst (IsWholeLog g.U.Unit.meaning new.object) (sym went) (whole-on g.U.Unit.meaning old.object new.object c.self.inside.log f.followed.0 k.volumes c.self.invariant.log goes);
    }

pub returns-in_err-make_room-clause-refused : goal.returns-in_err-make_room-clause-refused
returns-in_err-make_room-clause-refused g c =
    let none = out-of-memory g.R.Record.is_bounded (sym c.self.invariant.bounded.1 ∙ c.in_err-make_room.ensures.refused) in
    search (rules, none)

pub returns-in_err-ticket-clause-refused : goal.returns-in_err-ticket-clause-refused
returns-in_err-ticket-clause-refused g c =
    let either : IsOutOfMemory g.R.Record.is_bounded c.in_err-ticket.field-0.0 ⊎ (issue_refusal c.args.self.now.object c.args.entry ≡ Some c.in_err-ticket.field-0.0) =
    rw (← c.self.view_is) (call-refused c.self.inside.core c.self.inside.reservations g.Q.Receipts.is_bounded g.R.Record.is_bounded c.self.invariant.bounded.0 c.self.invariant.bounded.1 c.self.invariant.room c.audit.ensures.some _ _ c.in_err-ticket.ensures.refused) in
    search (rules, either)

pub returns-clause-allowed : goal.returns-clause-allowed
returns-clause-allowed g c = rw (← c.self.view_is) (call-allowed c.self.inside.core _ c.in_ok-ticket.ensures.allowed)

pub returns-clause-volumes : goal.returns-clause-volumes
returns-clause-volumes g c = rw (← c.self.view_is) c.in_ok-ticket.ensures.volumes

pub go_on-requires : goal.go_on-requires
go_on-requires g c =
    let old = c.self.inside.core in
    let new = c.issue.new.self in
    let k = c.in_ok-ticket.ensures in
    let goes : IsPrefix old.object.events new.object.events = (_, sym k.action.events) in
    record {
      goes_on = subst (λ core. IsPrefix core.object.events new.object.events) (sym c.of-before.ensures) goes;
      placed = placed-on g.U.Unit.meaning old.object new.object _ c.self.inside.log _ (ap (λ core. core.object) c.of-before.ensures) c.show_to.ensures.same k.volumes c.self.invariant.log goes;
    }

pub returns-clause-issued : goal.returns-clause-issued
returns-clause-issued g c =
    let old = c.self.inside.core in
    let new = c.issue.new.self in
    let k = c.in_ok-ticket.ensures in
    let f = c.go_on.ensures in
    let goes : old.object.events ++ f.followed.0 ≡ new.object.events = ap (λ core. core.object.events ++ f.followed.0) (sym c.of-before.ensures) ∙ f.followed.1 in
    let went : c.go_on.new.log ≡ c.self.inside.log ++ f.followed.0 = f.followed.2 ∙ ap (λ log. log ++ f.followed.0) c.show_to.ensures.same in
    let m = g.U.Unit.meaning in
    let number = k.number in
    let shape = c.self.invariant.shape in
    let own = λ (t : ℕ × List Decl). IsProtectedAction m old.object new.object (Issue t.0 c.pass.inside.seat (entry_of t.1 c.args.entry) c.args.value c.args.deadline) in
    let action = subst own (λ i. (sym number i, shape i)) k.action in
    rw (← c.pass.view_is) (found-on g.U.Unit.meaning _ old.object new.object _ _ c.self.inside.log f.followed.0 _ c.self.invariant.made action c.headline-2.ensures.headline k.volumes c.self.invariant.log c.show_to.ensures.later goes (f.all ∙ went))

pub invariant_of-pass-2 : goal.invariant_of-pass-2
invariant_of-pass-2 g c =
    let m = g.U.Unit.meaning in
    let old = c.self.inside.core in
    let new = c.issue.new.self in
    let k = c.in_ok-ticket.ensures in
    let f = c.go_on.ensures in
    let goes : old.object.events ++ f.followed.0 ≡ new.object.events = ap (λ core. core.object.events ++ f.followed.0) (sym c.of-before.ensures) ∙ f.followed.1 in
    let went : c.go_on.new.log ≡ c.self.inside.log ++ f.followed.0 = f.followed.2 ∙ ap (λ log. log ++ f.followed.0) c.show_to.ensures.same in
    let own = λ (t : ℕ × ℕ). IsProtectedAction m old.object new.object (Issue t.0 c.pass.inside.seat t.1 c.args.value c.args.deadline) in
    let entry = c.number_of-number.ensures in
    let number = k.number in
    let action = subst own (λ i. (sym number i, sym entry i)) k.action in
    let stands = stands-on m old.object new.object _ _ c.self.inside.log f.followed.0 _ action c.headline-2.ensures.headline k.volumes c.self.invariant.log c.show_to.ensures.later goes (f.all ∙ went) in
    let asked : Asked g.row.U-Value.Denot = record { ticket = c.in_ok-ticket.ticket; entry = c.number_of-number.result; value = c.args.value; deadline = c.args.deadline } in
    let none = ap (λ p. p.pending) c.pass.view_is ∙ c.requires in
    let told = told-asked c.pass.inside.seat g.C.CallLedger.end_of c.pass.inside.pending asked (g.Q.Receipts.items c.pass.inside.receipts) c.pass.inside.front c.go_on.new.front none c.pass.invariant.told stands.happens in
    record {
      tallied = search rules;
      told = subst (λ receipts. Told c.pass.inside.seat g.C.CallLedger.end_of (Some asked) receipts c.go_on.new.front) (sym c.make_room.ensures.same) told;
      parts = grind (arith, common_steps);
      amounts = grind (arith, common_steps);
      room = search rules;
      reservation = search rules;
      seat = c.pass.invariant.seat;
    }

pub returns-in_err-make_room-clause-refused_at : goal.returns-in_err-make_room-clause-refused_at
returns-in_err-make_room-clause-refused_at g c =
    let none = out-of-memory g.R.Record.is_bounded (sym c.self.invariant.bounded.1 ∙ c.in_err-make_room.ensures.refused) in
    let held = issue-refused g.U.Unit.meaning _ c.self.inside.core.object _ c.self.inside.log _ c.self.invariant.made c.headline.ensures.headline c.self.invariant.log c.show_to.ensures.later c.show_to.ensures.all g.R.Record.is_bounded c.args.entry _ (inl none) in
    rw (← c.pass.view_is) (search (rules, held))

pub returns-in_err-ticket-clause-refused_at : goal.returns-in_err-ticket-clause-refused_at
returns-in_err-ticket-clause-refused_at g c =
    let either = call-refused c.self.inside.core c.self.inside.reservations g.Q.Receipts.is_bounded g.R.Record.is_bounded c.self.invariant.bounded.0 c.self.invariant.bounded.1 c.self.invariant.room c.audit.ensures.some _ _ c.in_err-ticket.ensures.refused in
    let held = issue-refused g.U.Unit.meaning _ c.self.inside.core.object _ c.self.inside.log _ c.self.invariant.made c.headline.ensures.headline c.self.invariant.log c.show_to.ensures.later c.show_to.ensures.all g.R.Record.is_bounded c.args.entry _ either in
    rw (← c.pass.view_is) (search (rules, held))
