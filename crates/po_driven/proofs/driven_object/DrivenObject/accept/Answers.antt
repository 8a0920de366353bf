use Rattle.std.proofs.Common.{ap, refl, subst}
use Rattle.po_driven.specs.DrivenView.{DrivenView, KeepsSetup}
use Rattle.po_driven.proofs.Setups.{setup_then}
use Rattle.po_driven.proofs.driven_object.DrivenObject.accept.Goals as goal

pub returns-in-Open-clause-setup : goal.returns-in-Open-clause-setup
returns-in-Open-clause-setup c =
    let i = c.self.inside in let k = c.make_room.ensures in let new = c.accept_open-action.new.self in
    let v : DrivenView = record { calls = i.calls; limits = i.limits.items; phase = i.phase; closed = i.closed.items } in
    let m : DrivenView = record { calls = c.make_room.new.self; limits = i.limits.items; phase = i.phase; closed = i.closed.items } in
    let made : KeepsSetup v m = record { entries = ap (λ t. t.object.state.unit) k.same; limits = refl; room = k.room_kept; tickets = k.tickets_kept } in
    subst (λ d. KeepsSetup d new) c.self.view_is (setup_then v m new made c.accept_open-action.ensures.setup)

pub returns-in-Closed-clause-setup : goal.returns-in-Closed-clause-setup
returns-in-Closed-clause-setup c =
    let i = c.self.inside in let k = c.make_room.ensures in let new = c.accept_closed-action.new.self in
    let v : DrivenView = record { calls = i.calls; limits = i.limits.items; phase = i.phase; closed = i.closed.items } in
    let m : DrivenView = record { calls = c.make_room.new.self; limits = i.limits.items; phase = i.phase; closed = i.closed.items } in
    let made : KeepsSetup v m = record { entries = ap (λ t. t.object.state.unit) k.same; limits = refl; room = k.room_kept; tickets = k.tickets_kept } in
    subst (λ d. KeepsSetup d new) c.self.view_is (setup_then v m new made c.accept_closed-action.ensures.setup)

pub returns-in-Raised-clause-setup : goal.returns-in-Raised-clause-setup
returns-in-Raised-clause-setup c =
    let i = c.self.inside in let k = c.make_room.ensures in let new = c.accept_raised-action.new.self in
    let v : DrivenView = record { calls = i.calls; limits = i.limits.items; phase = i.phase; closed = i.closed.items } in
    let m : DrivenView = record { calls = c.make_room.new.self; limits = i.limits.items; phase = i.phase; closed = i.closed.items } in
    let made : KeepsSetup v m = record { entries = ap (λ t. t.object.state.unit) k.same; limits = refl; room = k.room_kept; tickets = k.tickets_kept } in
    subst (λ d. KeepsSetup d new) c.self.view_is (setup_then v m new made c.accept_raised-action.ensures.setup)
