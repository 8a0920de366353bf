use Rattle.std.proofs.Common.{◌≡◌, ◌+◌, ◌<◌, ◌∙◌, Some, ap, sym, subst, refl, count_by, true, ℕ, length, not, arith}
use Rattle.std.specs.Prelude.{IsSome}
use Rattle.std.specs.List.{All, find}
use Rattle.po_unit.specs.declared.outcome.Outcome.TheVariants.{Requeue}
use Rattle.po_engine.specs.Arrival.{Increases}
use Rattle.po_engine.specs.Ending.{has_ended}
use Rattle.po_engine.specs.ObjectState.{ObjectState}
use Rattle.po_engine.specs.Step.{is_full}
use Rattle.po_engine.specs.Tickets.{is_live, uncollected}
use Rattle.po_engine.specs.WaitingCalls.{has_number, is_on}
use Rattle.po_engine.proofs.Absent.{eq_self}
use Rattle.po_driven.specs.DrivenCallsView.{DrivenCallsView, KeepsTickets}
use Rattle.po_driven.specs.OnePlace.{calls_in_service}
use Rattle.po_driven.specs.declared.happening.Happening.TheVariants.{Requeued}
use Rattle.po_driven.proofs.Held.{collected, concluded_is, entered_len, entered_unit, full_ended, full_len}
use Rattle.po_driven.proofs.Leads.{requeued}
use Rattle.po_driven.proofs.Spots.{entered, same_calls}
use Rattle.po_driven.proofs.Tickets.{kept_then, one_collected, one_entered}
use Rattle.po_driven.proofs.Traces.{again_if, below_next, full_of, moved_on, room_of, traced_on}
use Rattle.po_driven.proofs.driven_calls.DrivenCalls.move_to.Goals as goal

pub invariant_of-self : goal.invariant_of-self
invariant_of-self c =
    let i = c.self.inside in let s = i.state in let x = c.args.call in let longest = c.args.longest in
    let n = c.conclude-is_queued.new.self in let q = c.collect.new.self in
    let e = c.conclude-is_queued.ensures in let k = c.collect.ensures in
    let ticket = c.ticket_in_service-ticket.result in
    let y = record x { entry = c.args.target; without_abort = not c.args.with_abort } in
    let serving = subst (λ v. v.object.serving ≡ Some x) (sym c.self.view_is) c.requires.serving in
    let again = e.queued ∙ again_if longest s.state x c.args.target c.args.with_abort c.requires.kept in
    let full = full_of c.conclude-is_queued.result (is_full longest (count_by (is_on c.args.target) s.state.waiting)) again c.if-not-is_queued.true in
    let moved = ap (λ v. v.state) e.state ∙ concluded_is longest s.state x c.args.target c.args.with_abort c.requires.kept in
    let live = subst (λ v. is_live v.tickets ticket ≡ true) (sym e.state) c.ticket_in_service-ticket.ensures.live in
    let over = subst (λ (v : ObjectState ℕ ℕ). IsSome (find (has_ended ticket.number) v.ended)) (sym moved) (full_ended longest s.state y ticket.number (sym c.ticket_in_service-ticket.ensures.number) full) in
    let old : DrivenCallsView = record { object = s; place = i.place; happened = i.happened.items } in
    let new : DrivenCallsView = record { object = q; place = i.place + 1; happened = c.then-self-inside.result.items } in
    let o = Requeue c.args.target c.args.with_abort x.value in
    let goes = requeued s q x o longest serving (ap (λ v. v.state) k.rest ∙ ap (λ v. v.state) e.state) (ap (λ v. v.serving) k.rest ∙ ap (λ v. v.serving) e.state) in
    traced_on old new (Requeued o longest) c.self.invariant (ap (λ v. v.state.unit) k.rest ∙ ap (λ (v : ObjectState ℕ ℕ). v.unit) moved ∙ entered_unit longest s.state y) c.then-self-inside.ensures (omega arith) goes
    (λ p. same_calls n q (ap (λ v. v.state) k.rest) (ap (λ v. v.serving) k.rest) (entered s n longest x y serving refl moved (ap (λ v. v.serving) e.state) p))
    (omega (
      arith,
      c.self.invariant.tickets,
      collected n.state.waiting n.state.ended n.tickets q.tickets ticket c.collect.result live over k.end k.taken,
      ap (λ v. uncollected v.tickets) e.state,
      ap calls_in_service serving,
      ap (λ v. length v.state.waiting) k.rest,
      ap (λ (v : ObjectState ℕ ℕ). length v.waiting) moved,
      full_len longest s.state y full,
      ap (λ v. calls_in_service v.serving) k.rest,
      ap (λ v. calls_in_service v.serving) e.state,
    ))
    (λ r. subst (λ v. Increases v.places) (sym k.rest) (e.rises r))
    (subst (λ v. All (λ j. j < i.place + 1) v.places) (sym k.rest) (below_next i.place n.places e.within))

pub invariant_of-self-else-not-is_queued : goal.invariant_of-self-else-not-is_queued
invariant_of-self-else-not-is_queued c =
    let i = c.self.inside in let s = i.state in let x = c.args.call in let longest = c.args.longest in
    let n = c.conclude-is_queued.new.self in let e = c.conclude-is_queued.ensures in
    let y = record x { entry = c.args.target; without_abort = not c.args.with_abort } in
    let serving = subst (λ v. v.object.serving ≡ Some x) (sym c.self.view_is) c.requires.serving in
    let again = e.queued ∙ again_if longest s.state x c.args.target c.args.with_abort c.requires.kept in
    let room = room_of c.conclude-is_queued.result (is_full longest (count_by (is_on c.args.target) s.state.waiting)) again c.if-not-is_queued.false in
    let moved = ap (λ v. v.state) e.state ∙ concluded_is longest s.state x c.args.target c.args.with_abort c.requires.kept in
    let old : DrivenCallsView = record { object = s; place = i.place; happened = i.happened.items } in
    let new : DrivenCallsView = record { object = n; place = i.place + 1; happened = c.then-self-inside.result.items } in
    let o = Requeue c.args.target c.args.with_abort x.value in
    let goes = requeued s n x o longest serving (ap (λ v. v.state) e.state) (ap (λ v. v.serving) e.state) in
    traced_on old new (Requeued o longest) c.self.invariant (ap (λ (v : ObjectState ℕ ℕ). v.unit) moved ∙ entered_unit longest s.state y) c.then-self-inside.ensures (omega arith) goes
    (λ p. entered s n longest x y serving refl moved (ap (λ v. v.serving) e.state) p)
    (omega (
      arith,
      c.self.invariant.tickets,
      ap (λ v. uncollected v.tickets) e.state,
      ap calls_in_service serving,
      ap (λ (v : ObjectState ℕ ℕ). length v.waiting) moved,
      entered_len longest s.state y room,
      ap (λ v. calls_in_service v.serving) e.state,
    ))
    e.rises
    (below_next i.place n.places e.within)

pub returns-clause-queued : goal.returns-clause-queued
returns-clause-queued c =
    let s = c.self.inside.state.state in let t = c.args.target in let e = c.conclude-is_queued.ensures in
    let again = e.queued ∙ again_if c.args.longest s c.args.call t c.args.with_abort c.requires.kept in
    let room = room_of c.conclude-is_queued.result (is_full c.args.longest (count_by (is_on t) s.waiting)) again c.if-not-is_queued.false in
    subst (λ v. IsSome (find (is_on t) v.state.waiting)) (sym e.state) (moved_on (is_on t) c.args.longest s c.args.call t c.args.with_abort (eq_self t) room c.requires.kept)

pub returns-clause-found : goal.returns-clause-found
returns-clause-found c =
    let s = c.self.inside.state.state in let t = c.args.target in let e = c.conclude-is_queued.ensures in let n = c.ticket_in_service-ticket.result.number in
    let again = e.queued ∙ again_if c.args.longest s c.args.call t c.args.with_abort c.requires.kept in
    let room = room_of c.conclude-is_queued.result (is_full c.args.longest (count_by (is_on t) s.waiting)) again c.if-not-is_queued.false in
    let own = subst (λ k. has_number k c.args.call ≡ true) (sym c.ticket_in_service-ticket.ensures.number) (eq_self c.args.call.number) in
    subst (λ v. IsSome (find (has_number n) v.state.waiting)) (sym e.state) (moved_on (has_number n) c.args.longest s c.args.call t c.args.with_abort own room c.requires.kept)

pub returns-then-not-is_queued-clause-tickets_kept : goal.returns-then-not-is_queued-clause-tickets_kept
returns-then-not-is_queued-clause-tickets_kept c =
    let s = c.self.inside.state in let x = c.args.call in let longest = c.args.longest in
    let n = c.conclude-is_queued.new.self in let q = c.collect.new.self in
    let e = c.conclude-is_queued.ensures in let k = c.collect.ensures in let ticket = c.ticket_in_service-ticket.result in
    let y = record x { entry = c.args.target; without_abort = not c.args.with_abort } in
    let again = e.queued ∙ again_if longest s.state x c.args.target c.args.with_abort c.requires.kept in
    let full = full_of c.conclude-is_queued.result (is_full longest (count_by (is_on c.args.target) s.state.waiting)) again c.if-not-is_queued.true in
    let moved = ap (λ v. v.state) e.state ∙ concluded_is longest s.state x c.args.target c.args.with_abort c.requires.kept in
    let live = subst (λ v. is_live v.tickets ticket ≡ true) (sym e.state) c.ticket_in_service-ticket.ensures.live in
    let over = subst (λ (v : ObjectState ℕ ℕ). IsSome (find (has_ended ticket.number) v.ended)) (sym moved) (full_ended longest s.state y ticket.number (sym c.ticket_in_service-ticket.ensures.number) full) in
    subst (λ v. KeepsTickets v.object q) c.self.view_is
    (kept_then s n q (one_entered s n longest y (ap (λ v. v.tickets) e.state) moved) (one_collected n q ticket c.collect.result live over k.taken k.left (ap (λ v. v.state.ended) k.rest)))

pub returns-clause-tickets_kept : goal.returns-clause-tickets_kept
returns-clause-tickets_kept c =
    let s = c.self.inside.state in let x = c.args.call in let longest = c.args.longest in let n = c.conclude-is_queued.new.self in
    let e = c.conclude-is_queued.ensures in
    let y = record x { entry = c.args.target; without_abort = not c.args.with_abort } in
    let moved = ap (λ v. v.state) e.state ∙ concluded_is longest s.state x c.args.target c.args.with_abort c.requires.kept in
    subst (λ v. KeepsTickets v.object n) c.self.view_is (one_entered s n longest y (ap (λ v. v.tickets) e.state) moved)
