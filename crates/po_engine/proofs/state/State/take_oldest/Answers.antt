use Rattle.std.proofs.Common.{◌+◌, ap, sym, subst, ◌∙◌, true, if◌then◌else◌}
use Rattle.std.specs.List.{sum_by}
use Rattle.po_engine.specs.StateView.{AreLow, state_with_calls}
use Rattle.po_engine.proofs.Owing.{owes, paid}
use Rattle.po_engine.proofs.Oldest.{oldest_found, oldest_left, none_left}
use Rattle.po_engine.proofs.state.State.take_oldest.Goals as goal

pub invariant_of-self : goal.invariant_of-self
invariant_of-self g c =
    let i = c.self.inside in
    let m = g.U.Unit.meaning in
    let waiting = ap (λ v. v.waiting) c.take_oldest.ensures.taken in
    let kept = waiting ∙ none_left i.calls.waiting (sym c.take_oldest.ensures.found ∙ c.in_err-call.was) in
    record {
      total = ap (λ v. v.total) c.take_oldest.ensures.taken ∙ c.self.invariant.total;
      owed = c.self.invariant.owed ∙ ap (λ xs. sum_by (owes m) xs + (if i.finalized then 0 else 1)) (sym kept);
      ranks = subst (AreLow m) (sym kept) c.self.invariant.ranks;
    }

pub overflow_sub-self : goal.overflow_sub-self
overflow_sub-self g c =
    let i = c.self.inside in
    let found = oldest_found i.calls.waiting c.in_ok-call.call (sym c.take_oldest.ensures.found ∙ c.in_ok-call.was) in
    let left = ap (λ v. v.waiting) c.take_oldest.ensures.taken ∙ oldest_left i.calls.waiting in
    (paid g.U.Unit.meaning (state_with_calls i.unit i.calls i.finalized) (λ x. true) c.in_ok-call.call c.take_oldest.new.self.waiting i.owed c.events_owed.result found left c.self.invariant.owed c.events_owed.ensures.owed c.self.invariant.ranks).enough

pub invariant_of-self-2 : goal.invariant_of-self-2
invariant_of-self-2 g c =
    let i = c.self.inside in
    let found = oldest_found i.calls.waiting c.in_ok-call.call (sym c.take_oldest.ensures.found ∙ c.in_ok-call.was) in
    let left = ap (λ v. v.waiting) c.take_oldest.ensures.taken ∙ oldest_left i.calls.waiting in
    let after = paid g.U.Unit.meaning (state_with_calls i.unit i.calls i.finalized) (λ x. true) c.in_ok-call.call c.take_oldest.new.self.waiting i.owed c.events_owed.result found left c.self.invariant.owed c.events_owed.ensures.owed c.self.invariant.ranks in
    record {
      total = ap (λ v. v.total) c.take_oldest.ensures.taken ∙ c.self.invariant.total;
      owed = after.owed;
      ranks = after.ranks;
    }
