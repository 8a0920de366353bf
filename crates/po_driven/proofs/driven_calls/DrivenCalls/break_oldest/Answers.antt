use Rattle.std.proofs.Common.{◌≡◌, ◌∙◌, ◌<◌, None, ap, sym, subst, true, arith}
use Rattle.std.specs.List.{All}
use Rattle.po_calls.specs.declared.end.End.TheVariants.{ProgramError}
use Rattle.po_engine.specs.Arrival.{Increases}
use Rattle.po_engine.specs.Step.{end_call}
use Rattle.po_engine.proofs.Oldest.{oldest_is, oldest_left}
use Rattle.po_driven.specs.Happening.{end_oldest}
use Rattle.po_driven.specs.OnePlace.{HasTickets, calls_in_service}
use Rattle.po_driven.proofs.Held.{length_taken}
use Rattle.po_driven.proofs.Leads.{broken}
use Rattle.po_driven.proofs.Left.{all_left, rises_left}
use Rattle.po_driven.proofs.Spots.{took}
use Rattle.po_driven.proofs.Tickets.{kept_then, same_tickets}
use Rattle.po_driven.proofs.Traces.{traced_on}
use Rattle.po_driven.specs.declared.happening.Happening.TheVariants.{Broken}
use Rattle.po_driven.specs.DrivenCallsView.{DrivenCallsView, KeepsTickets}
use Rattle.po_driven.proofs.driven_calls.DrivenCalls.break_oldest.Goals as goal

pub invariant_of-self-2 : goal.invariant_of-self-2
invariant_of-self-2 c =
    let i = c.self.inside in let s = i.state in
    let old : DrivenCallsView = record { object = s; place = i.place; happened = i.happened.items } in
    let t = c.take_oldest.ensures in let f = c.finish.ensures in let m = c.take_oldest.new.self in
    let idle = subst (λ v. v.object.serving ≡ None) (sym c.self.view_is) c.requires in
    let found = sym c.in_ok-call.was ∙ t.found in
    let new : DrivenCallsView = record { object = c.finish.new.state; place = i.place; happened = c.then-self-inside.result.items } in
    let took_out = ap (λ v. v.state) t.state ∙ ap (λ xs. record s.state { waiting = xs }) (oldest_left s.state.waiting) in
    let first = oldest_is s.state.waiting ∙ sym t.found in
    let goes = broken s c.finish.new.state (ap (λ v. v.state) f.state ∙ ap (λ v. end_call v.state c.in_ok-call.call ProgramError) t.state ∙ ap (end_oldest s.state) found) (ap (λ v. v.serving) f.state) in
    traced_on old new Broken c.self.invariant (ap (λ v. v.state.unit) f.state ∙ ap (λ v. v.state.unit) t.state) c.then-self-inside.ensures (omega arith) goes
    (λ p. f.placed (took s m (λ x. true) c.take_oldest.result idle first took_out (ap (λ v. v.serving) t.state) p))
    (f.tickets (subst HasTickets (sym t.state) (omega (arith, c.self.invariant.tickets, ap calls_in_service idle, length_taken (λ x. true) s.state.waiting c.take_oldest.result first))))
    (λ r. subst (λ v. Increases v.places) (sym (f.state)) (subst (λ v. Increases v.places) (sym t.state) (rises_left s.places r)))
    (subst (λ v. All (λ j. j < i.place) v.places) (sym f.state) (subst (λ v. All (λ j. j < i.place) v.places) (sym t.state) (all_left (λ j. j < i.place) s.places c.self.invariant.later)))

pub returns-clause-tickets_kept : goal.returns-clause-tickets_kept
returns-clause-tickets_kept c =
    let s = c.self.inside.state in let m = c.take_oldest.new.self in let n = c.finish.new.state in let t = c.take_oldest.ensures in
    subst (λ v. KeepsTickets v.object n) c.self.view_is (kept_then s m n (same_tickets s m (ap (λ v. v.tickets) t.state) (ap (λ v. v.state.ended) t.state)) c.finish.ensures.tickets_kept)
