use Rattle.std.proofs.Common.{ap, sym, subst, ◌∙◌}
use Rattle.po_engine.specs.WaitingCalls.{has_number}
use Rattle.po_engine.specs.Arrival.{AreAt, Increases}
use Rattle.po_engine.specs.StateView.{state_with_calls}
use Rattle.po_engine.proofs.Owing.{paid}
use Rattle.po_engine.proofs.PlaceSteps.{at_without, All-places, increases_without}
use Rattle.std.specs.List.{All}
use Rattle.std.proofs.Common.{◌<◌}
use Rattle.po_engine.proofs.state.State.cancel.Goals as goal

pub overflow_sub-self : goal.overflow_sub-self
overflow_sub-self g c =
    let i = c.self.inside in
    (paid g.U.Unit.meaning (state_with_calls i.unit i.calls i.finalized) (has_number c.args.ticket.number) c.in-Some.call c.take_ticket.new.self.waiting i.owed c.events_owed.result (sym c.take_ticket.ensures.found ∙ c.in-Some.is) (ap (λ v. v.waiting) c.take_ticket.ensures.taken) c.self.invariant.owed c.events_owed.ensures.owed c.self.invariant.ranks).enough

pub invariant_of-self : goal.invariant_of-self
invariant_of-self g c =
    let i = c.self.inside in
    let after = paid g.U.Unit.meaning (state_with_calls i.unit i.calls i.finalized) (has_number c.args.ticket.number) c.in-Some.call c.take_ticket.new.self.waiting i.owed c.events_owed.result (sym c.take_ticket.ensures.found ∙ c.in-Some.is) (ap (λ v. v.waiting) c.take_ticket.ensures.taken) c.self.invariant.owed c.events_owed.ensures.owed c.self.invariant.ranks in
    record {
      total = ap (λ v. v.total) c.take_ticket.ensures.taken ∙ c.self.invariant.total;
      owed = after.owed;
      ranks = after.ranks;
    }

pub returns-in-Some-clause-places : goal.returns-in-Some-clause-places
returns-in-Some-clause-places g c = λ f at.
    let i = c.self.inside in
    let before = subst (λ v. AreAt f v.state.waiting v.places) (sym c.self.view_is) at in
    let taken = subst (λ v. AreAt f v.waiting v.places) (sym c.take_ticket.ensures.taken) (at_without f (has_number c.args.ticket.number) i.calls.waiting i.calls.places before) in
    subst (λ v. AreAt f v.state.waiting v.places) (sym c.end_call.ensures) taken

pub returns-in_default-clause-places : goal.returns-in_default-clause-places
returns-in_default-clause-places g c = λ f at.
    let i = c.self.inside in
    let before = subst (λ v. AreAt f v.state.waiting v.places) (sym c.self.view_is) at in
    subst (λ v. AreAt f v.waiting v.places) (sym c.take_ticket.ensures.taken) (at_without f (has_number c.args.ticket.number) i.calls.waiting i.calls.places before)

pub returns-in-Some-clause-kept : goal.returns-in-Some-clause-kept
returns-in-Some-clause-kept g c = λ k low.
    let i = c.self.inside in
    let before = subst (λ v. All (λ j. j < k) v.places) (sym c.self.view_is) low in
    let taken = subst (λ v. All (λ j. j < k) v.places) (sym c.take_ticket.ensures.taken) (All-places (λ j. j < k) (has_number c.args.ticket.number) i.calls.waiting i.calls.places before) in
    subst (λ v. All (λ j. j < k) v.places) (sym c.end_call.ensures) taken

pub returns-in_default-clause-kept : goal.returns-in_default-clause-kept
returns-in_default-clause-kept g c = λ k low.
    let i = c.self.inside in
    let before = subst (λ v. All (λ j. j < k) v.places) (sym c.self.view_is) low in
    subst (λ v. All (λ j. j < k) v.places) (sym c.take_ticket.ensures.taken) (All-places (λ j. j < k) (has_number c.args.ticket.number) i.calls.waiting i.calls.places before)

pub returns-in-Some-clause-rises : goal.returns-in-Some-clause-rises
returns-in-Some-clause-rises g c = λ h.
    let i = c.self.inside in
    let before = subst (λ v. Increases v.places) (sym c.self.view_is) h in
    let taken = subst (λ v. Increases v.places) (sym c.take_ticket.ensures.taken) (increases_without (has_number c.args.ticket.number) i.calls.waiting i.calls.places before) in
    subst (λ v. Increases v.places) (sym c.end_call.ensures) taken

pub returns-in_default-clause-rises : goal.returns-in_default-clause-rises
returns-in_default-clause-rises g c = λ h.
    let i = c.self.inside in
    let before = subst (λ v. Increases v.places) (sym c.self.view_is) h in
    subst (λ v. Increases v.places) (sym c.take_ticket.ensures.taken) (increases_without (has_number c.args.ticket.number) i.calls.waiting i.calls.places before)
