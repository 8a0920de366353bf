-- What happens leads to the engine's calls: each part of a step does the same, whatever calls have left.
use Rattle.std.proofs.Common.{ℕ, ◌≡◌, ◌∙◌, List, [], ◌∷◌, ◌++◌, map, Bool, true, false, not, ◌&&◌, cond, if◌then◌else◌, Option, Some, None, ap, refl, sym, subst, arith}
use Rattle.std.specs.List.{find, slice_get}
use Rattle.std.specs.Option.{option_map}
use Rattle.po_unit.specs.declared.outcome.Outcome.{Outcome}
use Rattle.po_unit.specs.declared.outcome.Outcome.TheVariants.{Complete, Raise, Requeue}
use Rattle.po_calls.specs.declared.call.Call.{Call}
use Rattle.po_calls.specs.declared.end.End.{End}
use Rattle.po_calls.specs.declared.end.End.TheVariants.{Cancelled as IsCancelled, Completed, ProgramError, Raised}
use Rattle.po_engine.specs.declared.ended.Ended.{Ended}
use Rattle.po_engine.specs.Ending.{ended_as}
use Rattle.po_engine.specs.WaitingCalls.{has_number, is_on, mark}
use Rattle.std.specs.List.{count_by}
use Rattle.po_engine.specs.Driving.{counted, new_call}
use Rattle.po_engine.specs.ObjectState.{ObjectState}
use Rattle.po_engine.specs.StateView.{StateView}
use Rattle.po_engine.specs.Step.{attempt_cancel, cancel, end_call, enter, is_full, conclude, queue, take_out}
use Rattle.po_engine.specs.declared.arriving.Arriving.{Arriving}
use Rattle.po_engine.proofs.Sums.{sum_by-push}
use Rattle.po_driven.specs.Happening.{Driving, after_end, after_leaving, after_requeue, end_oldest, happen, make_due}
use Rattle.po_driven.specs.OnePlace.{HaveLeft, IsLedTo}
use Rattle.po_driven.specs.declared.happening.Happening.TheVariants.{Arrived, Broken, Cancelled, Due, Ended as HasEnded, Finalized, Marked, Requeued, RequeuedElsewhere, Selected, Served}

abbrev S : Type 0
S = ObjectState ℕ ℕ

abbrev Calls : Type 0
Calls = List (Call ℕ)

-- The engine's state is this one, except for the calls that have left it.
record Follows (t s : S) (elsewhere : Calls) : Type 0 where
  state : t ≡ record s { ended = t.ended }
  left : HaveLeft t.ended s.ended elsewhere

left_ended : (left ended : List (Ended ℕ)) (elsewhere : Calls) (x : Ended ℕ) → HaveLeft left ended elsewhere → HaveLeft (left ++ x ∷ []) (ended ++ x ∷ []) elsewhere
left_ended left ended elsewhere x h = λ p. omega (arith, h p, sum_by-push (λ y. cond (p y) 1 0) left x, sum_by-push (λ y. cond (p y) 1 0) ended x)

left_elsewhere : (left ended : List (Ended ℕ)) (elsewhere : Calls) (x : Call ℕ) → HaveLeft left ended elsewhere → HaveLeft (left ++ ended_as (Completed x.value) x ∷ []) ended (elsewhere ++ x ∷ [])
left_elsewhere left ended elsewhere x h = λ p.
    omega (arith, h p, sum_by-push (λ y. cond (p y) 1 0) left (ended_as (Completed x.value) x), sum_by-push (λ y. cond (p (ended_as (Completed y.value) y)) 1 0) elsewhere x)

module _ (elsewhere : Calls) (left : List (Ended ℕ)) where
  abbrev with_left : S → S
  with_left s = record s { ended = left }

  same_left : (s : S) → HaveLeft left s.ended elsewhere → Follows (with_left s) s elsewhere
  same_left s h = record { state = refl; left = h }

  end_left : (s : S) (x : Call ℕ) (end : End ℕ) → HaveLeft left s.ended elsewhere → Follows (end_call (with_left s) x end) (end_call s x end) elsewhere
  end_left s x end h = record { state = refl; left = left_ended left s.ended elsewhere (ended_as end x) h }

  enter_if : (b : Bool) (s : S) (x : Call ℕ) → HaveLeft left s.ended elsewhere
      → Follows (if b then end_call (with_left s) x ProgramError else queue (with_left s) x) (if b then end_call s x ProgramError else queue s x) elsewhere
  enter_if true s x h = end_left s x ProgramError h
  enter_if false s x h = record { state = refl; left = h }

  enter_left : (limit : Option ℕ) (s : S) (x : Call ℕ) → HaveLeft left s.ended elsewhere → Follows (enter limit (with_left s) x) (enter limit s x) elsewhere
  enter_left limit s x h = enter_if (is_full limit (count_by (is_on x.entry) s.waiting)) s x h

  requeue_if : (b : Bool) (limit : Option ℕ) (s : S) (x y : Call ℕ) → HaveLeft left s.ended elsewhere
      → Follows (if b then end_call (with_left s) x IsCancelled else enter limit (with_left s) y) (if b then end_call s x IsCancelled else enter limit s y) elsewhere
  requeue_if true limit s x y h = end_left s x IsCancelled h
  requeue_if false limit s x y h = enter_left limit s y h

  conclude_left : (limit : Option ℕ) (s : S) (x : Call ℕ) (o : Outcome ℕ) → HaveLeft left s.ended elsewhere → Follows (conclude limit (with_left s) x o) (conclude limit s x o) elsewhere
  conclude_left limit s x (Complete v) h = end_left s x (Completed v) h
  conclude_left limit s x (Raise k) h = end_left s x (Raised k) h
  conclude_left limit s x (Requeue target with_abort v) h = requeue_if (with_abort && x.aborted) limit s x (record x { entry = target; value = v; without_abort = not with_abort }) h

  cancel_left : (s : S) (n : ℕ) (o : Option (Call ℕ)) → HaveLeft left s.ended elsewhere → Follows (cancel (with_left s) n o) (cancel s n o) elsewhere
  cancel_left s n None h = same_left s h
  cancel_left s n (Some x) h = end_left (take_out s (has_number n)) x IsCancelled h

  attempt_if : (b : Bool) (s : S) (n : ℕ) (x : Call ℕ) → HaveLeft left s.ended elsewhere
      → Follows (if b then record (with_left s) { waiting = map (mark n) s.waiting } else cancel (with_left s) n (Some x)) (if b then record s { waiting = map (mark n) s.waiting } else cancel s n (Some x)) elsewhere
  attempt_if true s n x h = record { state = refl; left = h }
  attempt_if false s n x h = cancel_left s n (Some x) h

  attempt_left : (s : S) (n : ℕ) (o : Option (Call ℕ)) → HaveLeft left s.ended elsewhere → Follows (attempt_cancel (with_left s) n o) (attempt_cancel s n o) elsewhere
  attempt_left s n None h = same_left s h
  attempt_left s n (Some x) h = attempt_if x.without_abort s n x h

  oldest_left : (s : S) (o : Option (Call ℕ)) → HaveLeft left s.ended elsewhere → Follows (end_oldest (with_left s) o) (end_oldest s o) elsewhere
  oldest_left s None h = same_left s h
  oldest_left s (Some x) h = record { state = refl; left = left_ended left s.ended elsewhere (ended_as ProgramError x) h }

module _ (o n : StateView ℕ ℕ) where
  -- if a part of a step leads from these calls to those, it leads from what had happened to what has happened then
  led : (d : Driving) (word : S → S) (serving : Option (Call ℕ)) → IsLedTo d o → n.state ≡ word o.state → n.serving ≡ serving
      → ((left : List (Ended ℕ)) → HaveLeft left d.state.ended d.elsewhere → Follows (word (record d.state { ended = left })) (word d.state) d.elsewhere)
      → IsLedTo (record d { state = word d.state; serving = serving }) n
  led d word serving l is held k =
      let f = subst (λ s. Follows s (word d.state) d.elsewhere) (sym (is ∙ ap word l.state)) (k o.state.ended l.left) in
      record { state = f.state; serving = held; left = f.left }

  pub served : (a : Arriving ℕ) → n.state ≡ counted o.state → n.serving ≡ Some (new_call o.state.next a) → (d : Driving) → IsLedTo d o → IsLedTo (happen (Served a) d) n
  served a is held d l =
      led d (λ s. counted s) (Some (new_call d.state.next a)) l is (held ∙ ap (λ s. Some (new_call s.next a)) l.state) (λ left h. same_left d.elsewhere left (counted d.state) h)

  pub arrived : (a : Arriving ℕ) (limit : Option ℕ) → n.state ≡ enter limit (counted o.state) (new_call o.state.next a) → n.serving ≡ None → (d : Driving) → IsLedTo d o → IsLedTo (happen (Arrived a limit) d) n
  arrived a limit is held d l =
      led d (λ s. enter limit (counted s) (new_call s.next a)) None l is held (λ left h. enter_left d.elsewhere left limit (counted d.state) (new_call d.state.next a) h)

  pub selected : (e : ℕ) → n.state ≡ take_out o.state (is_on e) → n.serving ≡ find (is_on e) o.state.waiting → (d : Driving) → IsLedTo d o → IsLedTo (happen (Selected e) d) n
  selected e is held d l =
      led d (λ s. take_out s (is_on e)) (find (is_on e) d.state.waiting) l is (held ∙ ap (λ s. find (is_on e) s.waiting) l.state) (λ left h. record { state = refl; left = h })

  pub ended : (x : Call ℕ) (end : End ℕ) → o.serving ≡ Some x → n.state ≡ end_call o.state x end → n.serving ≡ None → (d : Driving) → IsLedTo d o → IsLedTo (happen (HasEnded end) d) n
  ended x end in_service is held d l =
      subst (λ v. IsLedTo (after_end d v end) n) (sym (sym l.serving ∙ in_service)) (led d (λ s. end_call s x end) None l is held (λ left h. end_left d.elsewhere left d.state x end h))

  pub gone_elsewhere : (x : Call ℕ) → o.serving ≡ Some x → n.state ≡ end_call o.state x (Completed x.value) → n.serving ≡ None → (d : Driving) → IsLedTo d o → IsLedTo (happen RequeuedElsewhere d) n
  gone_elsewhere x in_service is held d l =
      let after = is ∙ ap (λ s. end_call s x (Completed x.value)) l.state in
      let left = ap (λ s. s.ended) is in
      subst (λ v. IsLedTo (after_leaving d v) n) (sym (sym l.serving ∙ in_service)) (record {
        state = after ∙ ap (λ ended. record d.state { ended = ended }) (sym left);
        serving = held;
        left = subst (λ ended. HaveLeft ended d.state.ended (d.elsewhere ++ x ∷ [])) (sym left) (left_elsewhere o.state.ended d.state.ended d.elsewhere x l.left);
      })

  pub due : (x : Call ℕ) → o.serving ≡ Some x → n.state ≡ o.state → n.serving ≡ Some (make_due x) → (d : Driving) → IsLedTo d o → IsLedTo (happen Due d) n
  due x in_service is held d l =
      led d (λ s. s) (option_map make_due d.serving) l is (held ∙ sym (ap (option_map make_due) (sym l.serving ∙ in_service))) (λ left h. same_left d.elsewhere left d.state h)

  pub requeued : (x : Call ℕ) (outcome : Outcome ℕ) (limit : Option ℕ) → o.serving ≡ Some x → n.state ≡ conclude limit o.state x outcome → n.serving ≡ None → (d : Driving) → IsLedTo d o → IsLedTo (happen (Requeued outcome limit) d) n
  requeued x outcome limit in_service is held d l =
      subst (λ v. IsLedTo (after_requeue d v outcome limit) n) (sym (sym l.serving ∙ in_service)) (led d (λ s. conclude limit s x outcome) None l is held (λ left h. conclude_left d.elsewhere left limit d.state x outcome h))

  pub broken : n.state ≡ end_oldest o.state (slice_get o.state.waiting 0) → n.serving ≡ None → (d : Driving) → IsLedTo d o → IsLedTo (happen Broken d) n
  broken is held d l =
      led d (λ s. end_oldest s (slice_get s.waiting 0)) None l is held (λ left h. oldest_left d.elsewhere left d.state (slice_get d.state.waiting 0) h)

  pub cancelled : (k : ℕ) → n.state ≡ cancel o.state k (find (has_number k) o.state.waiting) → n.serving ≡ None → (d : Driving) → IsLedTo d o → IsLedTo (happen (Cancelled k) d) n
  cancelled k is held d l =
      led d (λ s. cancel s k (find (has_number k) s.waiting)) None l is held (λ left h. cancel_left d.elsewhere left d.state k (find (has_number k) d.state.waiting) h)

  pub marked : (k : ℕ) → n.state ≡ attempt_cancel o.state k (find (has_number k) o.state.waiting) → n.serving ≡ None → (d : Driving) → IsLedTo d o → IsLedTo (happen (Marked k) d) n
  marked k is held d l =
      led d (λ s. attempt_cancel s k (find (has_number k) s.waiting)) None l is held (λ left h. attempt_left d.elsewhere left d.state k (find (has_number k) d.state.waiting) h)

  pub finalized : n.state ≡ record o.state { finalized = true } → n.serving ≡ o.serving → (d : Driving) → IsLedTo d o → IsLedTo (happen Finalized d) n
  finalized is held d l =
      led d (λ s. record s { finalized = true }) d.serving l is (held ∙ l.serving) (λ left h. record { state = refl; left = h })
