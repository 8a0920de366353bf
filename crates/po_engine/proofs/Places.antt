-- Each call is in one place: what each event does to the numbers in the queues and the ends.
use Rattle.std.proofs.Common.{◌≡◌, ℕ, ◌+◌, ◌==◌, map, refl, ap, ◌∙◌, arith, Bool, true, false, cond, not, ◌&&◌, Option, Some, None, Result, Ok, Err, if◌then◌else◌}
use Rattle.std.specs.List.{count_by, find}
use Rattle.std.proofs.lemmas.List.Sums.{sum_by-append}
use Rattle.po_unit.specs.Meaning.{Meaning}
use Rattle.po_unit.specs.declared.outcome.Outcome.{Outcome}
use Rattle.po_unit.specs.declared.outcome.Outcome.TheVariants.{Complete, Raise, Requeue}
use Rattle.po_calls.specs.declared.call.Call.{Call}
use Rattle.po_calls.specs.declared.end.End.{End}
use Rattle.po_calls.specs.declared.end.End.TheVariants.{Completed, Raised, Cancelled, ProgramError}
use Rattle.po_history.specs.declared.event.Event.{Event}
use Rattle.po_history.specs.declared.event.Event.TheVariants.{Issue, Procedure, Cancel, Tick, Finalize, Serve, Break, Expire}
use Rattle.po_engine.specs.ObjectState.{ObjectState, counts_in, barrier_in}
use Rattle.po_engine.specs.WaitingCalls.{has_number, is_on, mark}
use Rattle.po_engine.specs.Step.{is_full, enter, end_call, end_all, queue, conclude, run_body, arrive, take_out, cancel, attempt_cancel, serve, step}
use Rattle.po_engine.specs.Ending.{ended_as, has_ended}
use Rattle.po_engine.proofs.Sums.{sum_by-push, sum_by-without, sum_by-mapped}

abbrev pub one_if : {V : Type 0} → ℕ → Call V → ℕ
one_if n x = cond (has_number n x) 1 0

marked : {V : Type 0} (n : ℕ) (b : Bool) (x : Call V) → has_number n (if b then record x { aborted = true } else x) ≡ has_number n x
marked n true x = refl
marked n false x = refl

-- an issue puts its call into one place, and every other event leaves each call in as many places as it was
abbrev pub gains : {V : Type 0} → ℕ → Event V → ℕ
gains n (Issue k owner e v d) = cond (k == n) 1 0
gains n other = 0

module _ {S V : Type 0} (n : ℕ) where
  -- in how many places the number is
  abbrev pub places_of : ObjectState S V → ℕ
  places_of p = count_by (has_number n) p.waiting + count_by (has_ended n) p.ended

  places-queue : (p : ObjectState S V) (x : Call V) → places_of (queue p x) ≡ places_of p + one_if n x
  places-queue p x = omega (arith, sum_by-push (λ y. cond (has_number n y) 1 0) p.waiting x)

  places-end_call : (p : ObjectState S V) (x : Call V) (end : End V) → places_of (end_call p x end) ≡ places_of p + one_if n x
  places-end_call p x end = omega (arith, sum_by-push (λ y. cond (has_ended n y) 1 0) p.ended (ended_as end x))

  places-end_all : (p : ObjectState S V) (end : End V) → places_of (end_all p end) ≡ places_of p
  places-end_all p end = omega (arith, sum_by-append (λ y. cond (has_ended n y) 1 0) p.ended (map (ended_as end) p.waiting), sum_by-mapped (λ y. cond (has_ended n y) 1 0) (ended_as end) (λ y. cond (has_number n y) 1 0) (λ x. refl) p.waiting)

  places-take : (p : ObjectState S V) (test : Call V → Bool) (x : Call V) → find test p.waiting ≡ Some x → places_of (take_out p test) + one_if n x ≡ places_of p
  places-take p test x h = omega (arith, sum_by-without (λ y. cond (has_number n y) 1 0) test p.waiting x h)

  entered : (b : Bool) (p : ObjectState S V) (x : Call V) → places_of (if b then end_call p x ProgramError else queue p x) ≡ places_of p + one_if n x
  entered true p x = places-end_call p x ProgramError
  entered false p x = places-queue p x

  places-enter : (limit : Option ℕ) (p : ObjectState S V) (x : Call V) → places_of (enter limit p x) ≡ places_of p + one_if n x
  places-enter limit p x = entered (is_full limit (count_by (is_on x.entry) p.waiting)) p x

  concluded : (limit : Option ℕ) (b : Bool) (p : ObjectState S V) (x y : Call V) (k : one_if n y ≡ one_if n x) → places_of (if b then end_call p x Cancelled else enter limit p y) ≡ places_of p + one_if n x
  concluded limit true p x y k = places-end_call p x Cancelled
  concluded limit false p x y k = places-enter limit p y ∙ ap (λ j. places_of p + j) k

  places-conclude : (limit : Option ℕ) (p : ObjectState S V) (x : Call V) (o : Outcome V) → places_of (conclude limit p x o) ≡ places_of p + one_if n x
  places-conclude limit p x (Complete v) = places-end_call p x (Completed v)
  places-conclude limit p x (Raise k) = places-end_call p x (Raised k)
  places-conclude limit p x (Requeue t a v) = concluded limit (a && x.aborted) p x (record x { entry = t; value = v; without_abort = not a }) refl

  module _ (m : Meaning S V) (limit : Option ℕ) where
    places-run_body : (p : ObjectState S V) (x : Call V) → places_of (run_body m limit p x) ≡ places_of p + one_if n x
    places-run_body p x = let r = m.body p.unit x.entry x.value (counts_in m p) in places-conclude limit (record p { unit = r.0 }) x r.1

    places-arrive : (p : ObjectState S V) (x : Call V) (r : Result Bool ℕ) → places_of (arrive m limit p x r) ≡ places_of p + one_if n x
    places-arrive p x (Ok true) = places-run_body p x
    places-arrive p x (Ok false) = places-enter limit p x
    places-arrive p x (Err k) = places-end_call (end_all p ProgramError) x ProgramError ∙ ap (λ j. j + one_if n x) (places-end_all p ProgramError)

    places-served : (p : ObjectState S V) (e : ℕ) (o : Option (Call V)) → find (is_on e) p.waiting ≡ o → places_of (serve m limit p e o) ≡ places_of p
    places-served p e None h = refl
    places-served p e (Some x) h = places-run_body (take_out p (is_on e)) x ∙ places-take p (is_on e) x h

  places-cancel : (p : ObjectState S V) (k : ℕ) (o : Option (Call V)) → find (has_number k) p.waiting ≡ o → places_of (cancel p k o) ≡ places_of p
  places-cancel p k None h = refl
  places-cancel p k (Some x) h = places-end_call (take_out p (has_number k)) x Cancelled ∙ places-take p (has_number k) x h

  places-aborted : (p : ObjectState S V) (k : ℕ) (b : Bool) (x : Call V) → find (has_number k) p.waiting ≡ Some x → places_of (if b then record p { waiting = map (mark k) p.waiting } else cancel p k (Some x)) ≡ places_of p
  places-aborted p k true x h = omega (arith, sum_by-mapped (λ y. cond (has_number n y) 1 0) (mark k) (λ y. cond (has_number n y) 1 0) (λ y. ap (λ b. cond b 1 0) (marked n (has_number k y) y)) p.waiting)
  places-aborted p k false x h = places-cancel p k (Some x) h

  places-attempt : (p : ObjectState S V) (k : ℕ) (o : Option (Call V)) → find (has_number k) p.waiting ≡ o → places_of (attempt_cancel p k o) ≡ places_of p
  places-attempt p k None h = refl
  places-attempt p k (Some x) h = places-aborted p k x.without_abort x h

  pub places-step : (m : Meaning S V) (limit : Option ℕ) (p : ObjectState S V) (e : Event V) → places_of (step m limit p e) ≡ places_of p + gains n e
  places-step m limit p (Issue k owner e v d) = places-arrive m limit (record p { next = p.next + 1 }) (record { number = k; owner = owner; entry = e; value = v; without_abort = false; aborted = false; deadline = d }) (barrier_in m p e)
  places-step m limit p (Procedure owner op v reply) = omega arith
  places-step m limit p (Cancel k) = omega (arith, places-attempt p k (find (has_number k) p.waiting) refl)
  places-step m limit p (Tick t) = omega arith
  places-step m limit p Finalize = omega (arith, places-end_all p ProgramError)
  places-step m limit p (Serve e) = omega (arith, places-served m limit p e (find (is_on e) p.waiting) refl)
  places-step m limit p (Break e) = omega (arith, places-end_all p ProgramError)
  places-step m limit p (Expire k) = omega (arith, places-cancel p k (find (has_number k) p.waiting) refl)
