use Rattle.std.proofs.Common.{◌≡◌, ◌+◌, ◌<◌, ◌==◌, ◌∙◌, None, Some, ap, ap₂, sym, subst, refl, true, count_by, length, arith}
use Rattle.std.specs.Prelude.{IsSome}
use Rattle.std.specs.List.{All, find}
use Rattle.po_engine.specs.Arrival.{Increases}
use Rattle.po_engine.specs.Ending.{has_ended}
use Rattle.po_engine.specs.Step.{enter, is_full}
use Rattle.po_engine.specs.Tickets.{is_live, uncollected}
use Rattle.po_engine.specs.WaitingCalls.{has_number, is_on}
use Rattle.po_engine.proofs.Absent.{eq_self}
use Rattle.po_engine.proofs.TicketCounts.{one-more}
use Rattle.po_driven.specs.DrivenCallsView.{DrivenCallsView, KeepsTickets}
use Rattle.po_driven.specs.OnePlace.{calls_in_service}
use Rattle.po_driven.specs.declared.happening.Happening.TheVariants.{Arrived}
use Rattle.po_driven.proofs.Held.{collected, entered_len, entered_unit, full_ended, full_len, live_set}
use Rattle.po_driven.proofs.Leads.{arrived}
use Rattle.po_driven.proofs.Spots.{begun, entered, same_calls}
use Rattle.po_driven.proofs.Tickets.{kept_then, one_collected, one_entered, one_given}
use Rattle.po_driven.proofs.Traces.{below_next, full_of, queued_on, room_of, traced_on}
use Rattle.po_driven.proofs.driven_calls.DrivenCalls.accept_closed.Goals as goal

pub invariant_of-self : goal.invariant_of-self
invariant_of-self c =
    let i = c.self.inside in let s = i.state in let a = c.args.arriving in let longest = c.args.longest in
    let m = c.take_in.new.self in let n = c.enter-is_queued.new.self in let q = c.collect.new.self in
    let t = c.take_in.ensures in let e = c.enter-is_queued.ensures in let k = c.collect.ensures in
    let x = c.take_in.result.0 in let ticket = c.take_in.result.1 in
    let idle = subst (λ v. v.object.serving ≡ None) (sym c.self.view_is) c.requires.passes.idle in
    let serving = ap (λ v. v.serving) t.state in
    let full = full_of c.enter-is_queued.result (is_full longest (count_by (is_on x.entry) m.state.waiting)) e.queued c.if-not-is_queued.true in
    let live = subst (λ v. is_live v.tickets ticket ≡ true) (sym e.state) (live_set s.tickets m.tickets ticket t.ticket) in
    let over = subst (λ v. IsSome (find (has_ended ticket.number) v.state.ended)) (sym e.state) (full_ended longest m.state x ticket.number (ap (λ y. y.number) t.call ∙ sym t.number) full) in
    let into = ap (λ v. v.state) e.state ∙ ap₂ (λ v y. enter longest v.state y) t.state t.call in
    let old : DrivenCallsView = record { object = s; place = i.place; happened = i.happened.items } in
    let new : DrivenCallsView = record { object = q; place = i.place + 1; happened = c.then-self-inside.result.items } in
    let goes = arrived s q a longest (ap (λ v. v.state) k.rest ∙ into) (ap (λ v. v.serving) k.rest ∙ ap (λ v. v.serving) e.state) in
    traced_on old new (Arrived a longest) c.self.invariant (ap (λ v. v.state.unit) k.rest ∙ ap (λ v. v.state.unit) e.state ∙ entered_unit longest m.state x ∙ ap (λ v. v.state.unit) t.state) c.then-self-inside.ensures (omega arith) goes
    (λ p. same_calls n q (ap (λ v. v.state) k.rest) (ap (λ v. v.serving) k.rest)
    (entered m n longest x x serving refl (ap (λ v. v.state) e.state) (ap (λ v. v.serving) e.state)
    (begun s m x idle (ap (λ y. y.number) t.call) (ap (λ v. v.state) t.state) serving p)))
    (omega (
      arith,
      c.self.invariant.tickets,
      one-more s.tickets m.tickets ticket.key ticket.number t.key t.ticket,
      collected n.state.waiting n.state.ended n.tickets q.tickets ticket c.collect.result live over k.end k.taken,
      ap (λ v. uncollected v.tickets) e.state,
      ap calls_in_service idle,
      ap (λ v. length v.state.waiting) k.rest,
      ap (λ v. length v.state.waiting) e.state,
      full_len longest m.state x full,
      ap (λ v. length v.state.waiting) t.state,
      ap (λ v. calls_in_service v.serving) k.rest,
      ap (λ v. calls_in_service v.serving) e.state,
    ))
    (λ r. subst (λ v. Increases v.places) (sym k.rest) (e.rises (subst (λ v. Increases v.places) (sym t.state) r)))
    (subst (λ v. All (λ j. j < i.place + 1) v.places) (sym k.rest) (below_next i.place n.places e.within))

pub invariant_of-self-else-not-is_queued : goal.invariant_of-self-else-not-is_queued
invariant_of-self-else-not-is_queued c =
    let i = c.self.inside in let s = i.state in let a = c.args.arriving in let longest = c.args.longest in
    let m = c.take_in.new.self in let n = c.enter-is_queued.new.self in
    let t = c.take_in.ensures in let e = c.enter-is_queued.ensures in
    let x = c.take_in.result.0 in let ticket = c.take_in.result.1 in
    let idle = subst (λ v. v.object.serving ≡ None) (sym c.self.view_is) c.requires.passes.idle in
    let serving = ap (λ v. v.serving) t.state in
    let room = room_of c.enter-is_queued.result (is_full longest (count_by (is_on x.entry) m.state.waiting)) e.queued c.if-not-is_queued.false in
    let into = ap (λ v. v.state) e.state ∙ ap₂ (λ v y. enter longest v.state y) t.state t.call in
    let old : DrivenCallsView = record { object = s; place = i.place; happened = i.happened.items } in
    let new : DrivenCallsView = record { object = n; place = i.place + 1; happened = c.then-self-inside.result.items } in
    let goes = arrived s n a longest into (ap (λ v. v.serving) e.state) in
    traced_on old new (Arrived a longest) c.self.invariant (ap (λ v. v.state.unit) e.state ∙ entered_unit longest m.state x ∙ ap (λ v. v.state.unit) t.state) c.then-self-inside.ensures (omega arith) goes
    (λ p. entered m n longest x x serving refl (ap (λ v. v.state) e.state) (ap (λ v. v.serving) e.state)
    (begun s m x idle (ap (λ y. y.number) t.call) (ap (λ v. v.state) t.state) serving p))
    (omega (
      arith,
      c.self.invariant.tickets,
      one-more s.tickets m.tickets ticket.key ticket.number t.key t.ticket,
      ap (λ v. uncollected v.tickets) e.state,
      ap calls_in_service idle,
      ap (λ v. length v.state.waiting) e.state,
      entered_len longest m.state x room,
      ap (λ v. length v.state.waiting) t.state,
      ap (λ v. calls_in_service v.serving) e.state,
    ))
    (λ r. e.rises (subst (λ v. Increases v.places) (sym t.state) r))
    (below_next i.place n.places e.within)

pub returns-clause-queued : goal.returns-clause-queued
returns-clause-queued c =
    let m = c.take_in.new.self in let e = c.enter-is_queued.ensures in let x = c.take_in.result.0 in let a = c.args.arriving in
    let room = room_of c.enter-is_queued.result (is_full c.args.longest (count_by (is_on x.entry) m.state.waiting)) e.queued c.if-not-is_queued.false in
    subst (λ v. IsSome (find (is_on a.entry) v.state.waiting)) (sym e.state)
    (queued_on (is_on a.entry) c.args.longest m.state x (ap (λ y. is_on a.entry y) c.take_in.ensures.call ∙ eq_self a.entry) room)

pub returns-clause-found : goal.returns-clause-found
returns-clause-found c =
    let m = c.take_in.new.self in let t = c.take_in.ensures in let e = c.enter-is_queued.ensures in let x = c.take_in.result.0 in let n = c.take_in.result.1.number in
    let room = room_of c.enter-is_queued.result (is_full c.args.longest (count_by (is_on x.entry) m.state.waiting)) e.queued c.if-not-is_queued.false in
    let own = ap (has_number n) t.call ∙ subst (λ k. (c.self.inside.state.state.next == k) ≡ true) (sym t.number) (eq_self c.self.inside.state.state.next) in
    subst (λ v. IsSome (find (has_number n) v.state.waiting)) (sym e.state) (queued_on (has_number n) c.args.longest m.state x own room)

pub returns-then-not-is_queued-clause-tickets_kept : goal.returns-then-not-is_queued-clause-tickets_kept
returns-then-not-is_queued-clause-tickets_kept c =
    let s = c.self.inside.state in let longest = c.args.longest in
    let m = c.take_in.new.self in let n = c.enter-is_queued.new.self in let q = c.collect.new.self in
    let t = c.take_in.ensures in let e = c.enter-is_queued.ensures in let k = c.collect.ensures in
    let x = c.take_in.result.0 in let ticket = c.take_in.result.1 in
    let full = full_of c.enter-is_queued.result (is_full longest (count_by (is_on x.entry) m.state.waiting)) e.queued c.if-not-is_queued.true in
    let live = subst (λ v. is_live v.tickets ticket ≡ true) (sym e.state) (live_set s.tickets m.tickets ticket t.ticket) in
    let over = subst (λ v. IsSome (find (has_ended ticket.number) v.state.ended)) (sym e.state) (full_ended longest m.state x ticket.number (ap (λ y. y.number) t.call ∙ sym t.number) full) in
    subst (λ v. KeepsTickets v.object q) c.self.view_is
    (kept_then s m q (one_given s m ticket.key (Some ticket.number) t.key t.ticket (ap (λ v. v.state.ended) t.state))
    (kept_then m n q (one_entered m n longest x (ap (λ v. v.tickets) e.state) (ap (λ v. v.state) e.state))
    (one_collected n q ticket c.collect.result live over k.taken k.left (ap (λ v. v.state.ended) k.rest))))

pub returns-clause-tickets_kept : goal.returns-clause-tickets_kept
returns-clause-tickets_kept c =
    let s = c.self.inside.state in let m = c.take_in.new.self in let n = c.enter-is_queued.new.self in
    let t = c.take_in.ensures in let e = c.enter-is_queued.ensures in let ticket = c.take_in.result.1 in
    subst (λ v. KeepsTickets v.object n) c.self.view_is
    (kept_then s m n (one_given s m ticket.key (Some ticket.number) t.key t.ticket (ap (λ v. v.state.ended) t.state))
    (one_entered m n c.args.longest c.take_in.result.0 (ap (λ v. v.tickets) e.state) (ap (λ v. v.state) e.state)))
