-- Operations on an object leave its facts as they are.
use Rattle.std.proofs.Common.{◌≡◌, ℕ, ◌+◌, Bool, true, false, cond, ◌&&◌, List, [], ◌∷◌, Option, Some, None, Result, Ok, Err, refl, sym, subst, ◌∙◌}
use Rattle.std.specs.Prelude.{find}
use Rattle.po_unit.specs.Meaning.{Meaning, IsLawful, SameNumbers}
use Rattle.po_unit.specs.declared.outcome.Outcome.{Outcome}
use Rattle.po_unit.specs.declared.outcome.Outcome.TheVariants.{Complete, Raise, Requeue}
use Rattle.po_calls.specs.declared.call.Call.{Call}
use Rattle.po_calls.specs.declared.end.End.TheVariants.{Cancelled, ProgramError}
use Rattle.po_history.specs.declared.event.Event.{Event}
use Rattle.po_history.specs.declared.event.Event.TheVariants.{Issue, Procedure as ProcedureEvent, Cancel, Tick, Finalize as FinalizeEvent, Serve, Break, Expire}
use Rattle.po_engine.specs.WaitingCalls.{is_on, has_number, mark}
use Rattle.std.specs.Prelude.{map, not, count_by}
use Rattle.po_core.specs.declared.refusal.Refusal.{Refusal}
use Rattle.po_engine.specs.ObjectState.{ObjectState, counts_in, barrier_in}
use Rattle.po_core.specs.ProtectedAction.{inner_events, begun, after_action, after_attempt_of, without_event}
use Rattle.po_engine.specs.Step.{is_full, end_call, queue, enter, conclude, run_body, arrive, take_out, serve, cancel, attempt_cancel, step, replay}
use Rattle.po_core.specs.View.{View}
use Rattle.po_language.specs.declared.command.Operation.{Operation}
use Rattle.po_language.specs.declared.command.Operation.TheVariants.{Call as CallEntry, Procedure, Function, Cancel as CancelCall, Tick as MoveClock, Finalize, Show}
use Rattle.po_script.specs.Facts.{Facts, AreFacts}
use Rattle.po_script.specs.Operations.{refusal_of, done, view_by, after_operation}

module _ {S : Type 0} (m : Meaning S ℕ) (law : IsLawful m) where
  -- the unit has the same number of entries, procedures and functions in both states
  abbrev Same : ObjectState S ℕ → ObjectState S ℕ → Type 0
  Same s t = SameNumbers m s.unit t.unit

  same : (s t : ObjectState S ℕ) → t.unit ≡ s.unit → Same s t
  same s t is = subst (λ u. SameNumbers m s.unit u) (sym is) (record { entries = refl; procedures = refl; functions = refl })

  same_if : (b : Bool) (s t r : ObjectState S ℕ) → t.unit ≡ s.unit → r.unit ≡ s.unit → (cond b t r).unit ≡ s.unit
  same_if true s t r e f = e
  same_if false s t r e f = f

  module _ (limit : Option ℕ) where
    enter_unit : (s : ObjectState S ℕ) (x : Call ℕ) → (enter limit s x).unit ≡ s.unit
    enter_unit s x = same_if (is_full limit (count_by (is_on x.entry) s.waiting)) s (end_call s x ProgramError) (queue s x) refl refl

    conclude_unit : (s : ObjectState S ℕ) (x : Call ℕ) (o : Outcome ℕ) → (conclude limit s x o).unit ≡ s.unit
    conclude_unit s x (Complete v) = refl
    conclude_unit s x (Raise k) = refl
    conclude_unit s x (Requeue target with_abort v) =
        let y : Call ℕ = record x { entry = target; value = v; without_abort = not with_abort } in
        same_if (with_abort && x.aborted) s (end_call s x Cancelled) (enter limit s y) refl (enter_unit s y)

    body_same : (s : ObjectState S ℕ) (x : Call ℕ) → Same s (run_body m limit s x)
    body_same s x =
        let c = counts_in m s in
        let r = m.body s.unit x.entry x.value c in
        subst (λ u. SameNumbers m s.unit u) (sym (conclude_unit (record s { unit = r.0 }) x r.1)) (law.body_numbers s.unit x.entry x.value c)

    arrive_same : (s : ObjectState S ℕ) (x : Call ℕ) (barrier : Result Bool ℕ) → Same s (arrive m limit s x barrier)
    arrive_same s x (Ok true) = body_same s x
    arrive_same s x (Ok false) = same s (enter limit s x) (enter_unit s x)
    arrive_same s x (Err k) = same s s refl

    serve_same : (s : ObjectState S ℕ) (e : ℕ) (found : Option (Call ℕ)) → Same s (serve m limit s e found)
    serve_same s e None = same s s refl
    serve_same s e (Some x) = body_same (take_out s (is_on e)) x

    cancel_unit : (s : ObjectState S ℕ) (n : ℕ) (found : Option (Call ℕ)) → (cancel s n found).unit ≡ s.unit
    cancel_unit s n None = refl
    cancel_unit s n (Some x) = refl

    attempt_unit : (s : ObjectState S ℕ) (n : ℕ) (found : Option (Call ℕ)) → (attempt_cancel s n found).unit ≡ s.unit
    attempt_unit s n None = refl
    attempt_unit s n (Some x) = same_if x.without_abort s (record s { waiting = map (mark n) s.waiting }) (cancel s n (Some x)) refl refl

    step_same : (s : ObjectState S ℕ) (event : Event ℕ) → Same s (step m limit s event)
    step_same s (Issue n owner e v deadline) =
        arrive_same (record s { next = s.next + 1 }) (record { number = n; owner = owner; entry = e; value = v; without_abort = false; aborted = false; deadline = deadline }) (barrier_in m s e)
    step_same s (ProcedureEvent owner op v reply) = law.procedure_numbers s.unit op v (counts_in m s)
    step_same s (Cancel n) = same s (step m limit s (Cancel n)) (attempt_unit s n (find (has_number n) s.waiting))
    step_same s (Tick t) = same s s refl
    step_same s FinalizeEvent = same s s refl
    step_same s (Serve e) = serve_same s e (find (is_on e) s.waiting)
    step_same s (Break e) = same s s refl
    step_same s (Expire n) = same s (step m limit s (Expire n)) (cancel_unit s n (find (has_number n) s.waiting))

    replay_same : (s : ObjectState S ℕ) (events : List (Event ℕ)) → Same s (replay m limit s events)
    replay_same s [] = same s s refl
    replay_same s (event ∷ events) =
        let first = step_same s event in
        let later = replay_same (step m limit s event) events in
        record { entries = later.entries ∙ first.entries; procedures = later.procedures ∙ first.procedures; functions = later.functions ∙ first.functions }

  module _ (facts : Facts) where
    action_facts : (view : View S ℕ) (own : Event ℕ) → AreFacts m facts view → AreFacts m facts (after_action m view own)
    action_facts view own are =
        let moved = replay_same view.setup.max_queue view.state (own ∷ inner_events m (begun m view own)) in
        record { shape = are.shape; procedures = moved.procedures ∙ are.procedures; functions = moved.functions ∙ are.functions }

    attempt_if : (b : Bool) (view : View S ℕ) (n : ℕ) → AreFacts m facts view → AreFacts m facts (cond b (without_event view) (after_action m view (Cancel n)))
    attempt_if true view n are = record { shape = are.shape; procedures = are.procedures; functions = are.functions }
    attempt_if false view n are = action_facts view (Cancel n) are

    attempt_facts : (view : View S ℕ) (n : ℕ) (found : Option (Call ℕ)) → AreFacts m facts view → AreFacts m facts (after_attempt_of m view n found)
    attempt_facts view n None are = are
    attempt_facts view n (Some x) are = attempt_if (x.without_abort && x.aborted) view n are

    done_facts : (view : View S ℕ) (operation : Operation) → AreFacts m facts view → AreFacts m facts (done m view operation)
    done_facts view (CallEntry entry value deadline) are = action_facts view _ are
    done_facts view (Procedure op value) are = action_facts view _ are
    done_facts view (Function op value) are = are
    done_facts view (CancelCall n) are = attempt_facts view n (find (has_number n) view.state.waiting) are
    done_facts view (MoveClock time) are = action_facts view _ are
    done_facts view Finalize are = action_facts view _ are
    done_facts view Show are = are

    by_facts : (refusal : Option Refusal) (old new : View S ℕ) → AreFacts m facts old → AreFacts m facts new → AreFacts m facts (view_by refusal old new)
    by_facts None old new was is = is
    by_facts (Some r) old new was is = was

    -- an operation leaves the facts of its object as they are
    pub kept_facts : (view : View S ℕ) (operation : Operation) → AreFacts m facts view → AreFacts m facts (after_operation m view operation)
    kept_facts view operation are = by_facts (refusal_of m view operation) view (done m view operation) are (done_facts view operation are)
