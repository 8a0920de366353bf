use Rattle.std.proofs.Common.{◌∙◌, ◌++◌, ◌∷◌, [], ap, sym, refl}
use Rattle.po_engine.specs.Driving.{counted, new_call}
use Rattle.po_engine.specs.Step.{enter}
use Rattle.po_driven.specs.DrivenCallsView.{KeepsRoom}
use Rattle.po_driven.specs.declared.happening.Happening.TheVariants.{Arrived}
use Rattle.po_driven.proofs.Alone.{waits_between}
use Rattle.po_driven.proofs.Tickets.{kept_then, same_tickets}
use Rattle.po_driven.proofs.driven_object.DrivenObject.wait.Goals as goal

pub returns-clause-waits : goal.returns-clause-waits
returns-clause-waits c =
    let d = c.args.self.now in let a = c.args.arriving in let i = c.self.inside in let k = c.in-Some.ensures in
    let alone = c.arrives_alone.ensures.yes c.if-not-arrives_alone.false in
    let roomy = c.make_room.ensures.same in
    let set = c.self.view_is in
    let state = k.state
    ∙ ap (λ t. enter c.longest-longest.result (counted t.object.state) (new_call t.object.state.next a)) roomy
    ∙ ap (λ v. enter c.longest-longest.result (counted v.calls.object.state) (new_call v.calls.object.state.next a)) set
    ∙ ap (λ l. enter l (counted d.calls.object.state) (new_call d.calls.object.state.next a)) c.longest-longest.ensures in
    let unit = k.unit ∙ ap (λ t. t.object.state.unit) roomy ∙ ap (λ v. v.calls.object.state.unit) set in
    let noted = k.happened ∙ ap (λ t. t.happened ++ Arrived a c.longest-longest.result ∷ []) roomy
    ∙ ap (λ v. v.calls.happened ++ Arrived a c.longest-longest.result ∷ []) set
    ∙ ap (λ l. d.calls.happened ++ Arrived a l ∷ []) c.longest-longest.ensures in
    let room : KeepsRoom d.calls.object c.accept_closed.new.self.object = record {
      fixed = k.room_kept.fixed ∙ c.make_room.ensures.room_kept.fixed ∙ ap (λ v. v.calls.object.is_fixed) set;
      capacity = λ fixed.
          let was = ap (λ v. v.calls.object.is_fixed) set ∙ fixed in
          k.room_kept.capacity (c.make_room.ensures.room_kept.fixed ∙ was) ∙ c.make_room.ensures.room_kept.capacity was ∙ ap (λ v. v.calls.object.capacity) set;
    } in
    let made = c.make_room.new.self.object in
    let tickets = kept_then d.calls.object made c.accept_closed.new.self.object
    (same_tickets d.calls.object made (ap (λ t. t.object.tickets) roomy ∙ ap (λ v. v.calls.object.tickets) set) (ap (λ t. t.object.state.ended) roomy ∙ ap (λ v. v.calls.object.state.ended) set)) k.tickets_kept in
    let number = k.number ∙ ap (λ t. t.object.state.next) roomy ∙ ap (λ v. v.calls.object.state.next) set in
    let limits = ap (λ v. v.limits) set in
    let resting = ap (λ v. v.phase) set ∙ alone.may.accepts.resting in
    let closed = c.then-self-inside.ensures ∙ ap (λ l. l ++ a.entry ∷ []) c.new.ensures in
    record {
      kept = λ no. absurd (cc);
      setup = record { entries = unit; limits = limits; room = room; tickets = tickets };
      accepted = λ arrives it few. refl;
      alone = λ yes. alone;
      stays = λ yes. sym c.is_due.ensures ∙ c.if-is_due.false;
      through = λ yes. waits_between d _ a alone _ c.recall_invariant.ensures c.recall_invariant-2.ensures limits resting closed state unit k.serving noted room tickets refl number k.live k.found k.queued;
    }
