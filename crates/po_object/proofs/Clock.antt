-- The clock of an object never falls, so a tick raises it at least to the time that it names.
use Rattle.std.proofs.Common.{◌≡◌, ℕ, ◌+◌, ◌≤◌, List, [], ◌∷◌, refl, ap, arith, Bool, true, false, not, ◌&&◌, Option, Some, None, Result, Ok, Err, if◌then◌else◌, map}
use Rattle.std.specs.List.{count_by, find}
use Rattle.po_unit.specs.Meaning.{Meaning}
use Rattle.po_unit.specs.declared.outcome.Outcome.{Outcome}
use Rattle.po_unit.specs.declared.outcome.Outcome.TheVariants.{Complete, Raise, Requeue}
use Rattle.po_calls.specs.declared.call.Call.{Call}
use Rattle.po_calls.specs.declared.end.End.TheVariants.{Cancelled, ProgramError}
use Rattle.po_history.specs.declared.event.Event.{Event}
use Rattle.po_history.specs.declared.event.Event.TheVariants.{Issue, Procedure, Cancel, Tick, Finalize, Serve, Break, Expire}
use Rattle.po_engine.specs.WaitingCalls.{is_on, has_number, mark}
use Rattle.po_engine.specs.ObjectState.{ObjectState, counts_in, barrier_in}
use Rattle.po_engine.specs.Step.{step, replay, enter, end_call, queue, conclude, run_body, arrive, serve, cancel, attempt_cancel, advance, take_out, is_full}
use Rattle.po_core.specs.View.{View}
use Rattle.po_core.specs.ProtectedAction.{IsProtectedAction}

module _ {S V : Type 0} (m : Meaning S V) (limit : Option ℕ) where
  clock-if : (b : Bool) (p q r : ObjectState S V) → q.clock ≡ p.clock → r.clock ≡ p.clock → (if b then q else r).clock ≡ p.clock
  clock-if true p q r h k = h
  clock-if false p q r h k = k

  clock-enter : (p : ObjectState S V) (x : Call V) → (enter limit p x).clock ≡ p.clock
  clock-enter p x = clock-if (is_full limit (count_by (is_on x.entry) p.waiting)) p (end_call p x ProgramError) (queue p x) refl refl

  clock-conclude : (p : ObjectState S V) (x : Call V) (o : Outcome V) → (conclude limit p x o).clock ≡ p.clock
  clock-conclude p x (Complete v) = refl
  clock-conclude p x (Raise k) = refl
  clock-conclude p x (Requeue t a v) = clock-if (a && x.aborted) p (end_call p x Cancelled) (enter limit p (record x { entry = t; value = v; without_abort = not a })) refl (clock-enter p (record x { entry = t; value = v; without_abort = not a }))

  clock-run_body : (p : ObjectState S V) (x : Call V) → (run_body m limit p x).clock ≡ p.clock
  clock-run_body p x = let r = m.body p.unit x.entry x.value (counts_in m p) in clock-conclude (record p { unit = r.0 }) x r.1

  clock-arrive : (p : ObjectState S V) (x : Call V) (r : Result Bool ℕ) → (arrive m limit p x r).clock ≡ p.clock
  clock-arrive p x (Ok true) = clock-run_body p x
  clock-arrive p x (Ok false) = clock-enter p x
  clock-arrive p x (Err k) = refl

  clock-serve : (p : ObjectState S V) (e : ℕ) (o : Option (Call V)) → (serve m limit p e o).clock ≡ p.clock
  clock-serve p e None = refl
  clock-serve p e (Some x) = clock-run_body (take_out p (is_on e)) x

  clock-cancel : (p : ObjectState S V) (n : ℕ) (o : Option (Call V)) → (cancel p n o).clock ≡ p.clock
  clock-cancel p n None = refl
  clock-cancel p n (Some x) = refl

  clock-attempt : (p : ObjectState S V) (n : ℕ) (o : Option (Call V)) → (attempt_cancel p n o).clock ≡ p.clock
  clock-attempt p n None = refl
  clock-attempt p n (Some x) = clock-if x.without_abort p (record p { waiting = map (mark n) p.waiting }) (cancel p n (Some x)) refl refl

  -- no event lets the clock fall
  step-clock : (p : ObjectState S V) (e : Event V) → p.clock ≤ (step m limit p e).clock
  step-clock p (Issue n owner e v d) = omega (arith, clock-arrive (record p { next = p.next + 1 }) (record { number = n; owner = owner; entry = e; value = v; without_abort = false; aborted = false; deadline = d }) (barrier_in m p e))
  step-clock p (Procedure owner op v reply) = omega arith
  step-clock p (Cancel n) = omega (arith, clock-attempt p n (find (has_number n) p.waiting))
  step-clock p (Tick t) = omega arith
  step-clock p Finalize = omega arith
  step-clock p (Serve e) = omega (arith, clock-serve p e (find (is_on e) p.waiting))
  step-clock p (Break e) = omega arith
  step-clock p (Expire n) = omega (arith, clock-cancel p n (find (has_number n) p.waiting))

  -- nor do several
  replay-clock : (p : ObjectState S V) (events : List (Event V)) → p.clock ≤ (replay m limit p events).clock
  replay-clock p [] = omega arith
  replay-clock p (e ∷ es) = omega (arith, step-clock p e, replay-clock (step m limit p e) es)

-- after a tick the clock is at or past the time that the tick names
pub clock-tick : {S V : Type 0} (m : Meaning S V) (old new : View S V) (t : ℕ) → IsProtectedAction m old new (Tick t) → t ≤ new.state.clock
clock-tick m old new t a =
    let limit = old.setup.max_queue in
    let raised : t ≤ (advance old.state t).clock = omega arith in
    omega (arith, raised, replay-clock m limit (advance old.state t) a.inner, ap (λ s. s.clock) a.state)
