use Rattle.std.proofs.Common.{◌+◌, ap, sym, subst, ◌∙◌, if◌then◌else◌}
use Rattle.std.specs.List.{sum_by}
use Rattle.po_engine.specs.WaitingCalls.{is_on}
use Rattle.po_engine.specs.StateView.{AreLow}
use Rattle.po_engine.specs.StateView.{state_with_calls}
use Rattle.po_engine.proofs.Lists.{without_none}
use Rattle.po_engine.proofs.Owing.{owes, paid}
use Rattle.po_engine.proofs.state.State.take_on.Goals as goal

pub invariant_of-self : goal.invariant_of-self
invariant_of-self g c =
    let i = c.self.inside in
    let m = g.U.Unit.meaning in
    let waiting = ap (λ v. v.waiting) c.take_on.ensures.taken in
    let kept = waiting ∙ without_none (is_on c.args.e) i.calls.waiting (sym c.take_on.ensures.found ∙ c.in_err-call.was) in
    record {
      total = ap (λ v. v.total) c.take_on.ensures.taken ∙ c.self.invariant.total;
      owed = c.self.invariant.owed ∙ ap (λ xs. sum_by (owes m) xs + (if i.finalized then 0 else 1)) (sym kept);
      ranks = subst (AreLow m) (sym kept) c.self.invariant.ranks;
    }

pub overflow_sub-self : goal.overflow_sub-self
overflow_sub-self g c =
    let i = c.self.inside in
    (paid g.U.Unit.meaning (state_with_calls i.unit i.calls i.finalized) (is_on c.args.e) c.in_ok-call.call c.take_on.new.self.waiting i.owed c.events_owed.result (sym c.take_on.ensures.found ∙ c.in_ok-call.was) (ap (λ v. v.waiting) c.take_on.ensures.taken) c.self.invariant.owed c.events_owed.ensures.owed c.self.invariant.ranks).enough

pub invariant_of-self-2 : goal.invariant_of-self-2
invariant_of-self-2 g c =
    let i = c.self.inside in
    let after = paid g.U.Unit.meaning (state_with_calls i.unit i.calls i.finalized) (is_on c.args.e) c.in_ok-call.call c.take_on.new.self.waiting i.owed c.events_owed.result (sym c.take_on.ensures.found ∙ c.in_ok-call.was) (ap (λ v. v.waiting) c.take_on.ensures.taken) c.self.invariant.owed c.events_owed.ensures.owed c.self.invariant.ranks in
    record {
      total = ap (λ v. v.total) c.take_on.ensures.taken ∙ c.self.invariant.total;
      owed = after.owed;
      ranks = after.ranks;
    }
