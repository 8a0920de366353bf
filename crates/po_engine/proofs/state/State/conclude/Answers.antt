use Rattle.std.proofs.Common.{◌≡◌, ◌∙◌, ap, count_by, None, sym, subst, refl, not, false, ◌&&◌, if◌then◌else◌}
use Rattle.po_calls.specs.declared.end.End.TheVariants.{Cancelled}
use Rattle.po_engine.specs.StateView.{state_with_calls}
use Rattle.po_engine.specs.Step.{conclude, enter, end_call, is_full, is_queued_again}
use Rattle.po_engine.specs.WaitingCalls.{is_on}
use Rattle.po_engine.proofs.state.State.conclude.Goals as goal
use Rattle.po_engine.proofs.state.State.conclude.Goals.{else-with_abort-via-then-with_abort+else-call, else-with_abort-via-else-with_abort}

pub returns-else-with_abort-clause-state : goal.returns-else-with_abort-clause-state
returns-else-with_abort-clause-state g c =
    let i = c.self.inside in
    let x = c.args.call in
    let q = c.in-Requeue in
    let after = c.enter.new.self in
    let s = state_with_calls i.unit i.calls i.finalized in
    let y = record x { entry = q.target; value = q.value; without_abort = not q.with_abort } in
    let stays : (q.with_abort && x.aborted) ≡ false = elim c.else-with_abort.branch [
      | else-with_abort-via-then-with_abort+else-call w ↦ rw (w.if-with_abort.true, w.if-call.false) refl
      | else-with_abort-via-else-with_abort w ↦ rw w.if-with_abort.false refl
    ] in
    let entered = subst (λ k. after ≡ record { state = enter c.args.queueing.max_length (state_with_calls i.unit k i.finalized) c.requeue-moved.result; places = after.places; serving = None; tickets = k.tickets; capacity = k.capacity; is_fixed = k.is_fixed; before = k.ended_before; keys = k.keys; first = k.first }) c.requeue-moved.ensures.after c.enter.ensures.state in
    let moved = subst (λ z. after ≡ record { state = enter c.args.queueing.max_length s z; places = after.places; serving = None; tickets = i.calls.tickets; capacity = i.calls.capacity; is_fixed = i.calls.is_fixed; before = i.calls.ended_before; keys = i.calls.keys; first = i.calls.first }) c.requeue-moved.ensures.call entered in
    let concluded = subst (λ b. after ≡ record { state = if b then end_call s x Cancelled else enter c.args.queueing.max_length s y; places = after.places; serving = None; tickets = i.calls.tickets; capacity = i.calls.capacity; is_fixed = i.calls.is_fixed; before = i.calls.ended_before; keys = i.calls.keys; first = i.calls.first }) (sym stays) moved in
    let by_outcome = subst (λ o. after ≡ record { state = conclude c.args.queueing.max_length s x o; places = after.places; serving = None; tickets = i.calls.tickets; capacity = i.calls.capacity; is_fixed = i.calls.is_fixed; before = i.calls.ended_before; keys = i.calls.keys; first = i.calls.first }) (sym q.is) concluded in
    subst (λ v. after ≡ record { state = conclude c.args.queueing.max_length v.state x c.args.outcome; places = after.places; serving = None; tickets = v.tickets; capacity = v.capacity; is_fixed = v.is_fixed; before = v.before; keys = v.keys; first = v.first }) c.self.view_is by_outcome

pub returns-else-with_abort-clause-queued : goal.returns-else-with_abort-clause-queued
returns-else-with_abort-clause-queued g c =
    let i = c.self.inside in
    let x = c.args.call in
    let q = c.in-Requeue in
    let limit = c.args.queueing.max_length in
    let s = state_with_calls i.unit i.calls i.finalized in
    let stays : (q.with_abort && x.aborted) ≡ false = elim c.else-with_abort.branch [
      | else-with_abort-via-then-with_abort+else-call w ↦ rw (w.if-with_abort.true, w.if-call.false) refl
      | else-with_abort-via-else-with_abort w ↦ rw w.if-with_abort.false refl
    ] in
    c.enter.ensures.queued
    ∙ ap (λ k. not (is_full limit (count_by (is_on c.requeue-moved.result.entry) k.waiting))) c.requeue-moved.ensures.after
    ∙ ap (λ y. not (is_full limit (count_by (is_on y.entry) i.calls.waiting))) c.requeue-moved.ensures.call
    ∙ ap (λ b. not b && not (is_full limit (count_by (is_on q.target) i.calls.waiting))) (sym stays)
    ∙ ap (λ o. is_queued_again limit s x o) (sym q.is)
    ∙ ap (λ v. is_queued_again limit v.state x c.args.outcome) c.self.view_is
