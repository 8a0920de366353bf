-- The place of a call by the events before a base and then by those since is its place by all of them.
use Rattle.std.proofs.Common.{◌≡◌, ℕ, ◌+◌, ◌==◌, List, [], ◌∷◌, ◌++◌, length, length-append, map, refl, subst, ap, sym, ◌∙◌, arith, Bool, true, false, not, ◌&&◌, Option, Some, None, Result, Ok, Err, if◌then◌else◌}
use Rattle.std.specs.List.{All, count_by, find}
use Rattle.std.specs.Option.{option_map}
use Rattle.std.proofs.lemmas.List.Elements.{All-nil, All-push, All-weaker}
use Rattle.po_unit.specs.Meaning.{Meaning}
use Rattle.po_unit.specs.declared.outcome.Outcome.{Outcome}
use Rattle.po_unit.specs.declared.outcome.Outcome.TheVariants.{Complete, Raise, Requeue}
use Rattle.po_calls.specs.declared.call.Call.{Call}
use Rattle.po_calls.specs.declared.end.End.TheVariants.{Cancelled, ProgramError}
use Rattle.po_history.specs.declared.event.Event.{Event}
use Rattle.po_history.specs.declared.event.Event.TheVariants.{Issue, Procedure, Cancel, Tick, Finalize, Serve, Break, Expire}
use Rattle.po_history.specs.Histories.{VolumeView, RunOn, joined}
use Rattle.po_engine.specs.ObjectState.{ObjectState, counts_in, barrier_in}
use Rattle.po_engine.specs.WaitingCalls.{has_number, is_on, mark}
use Rattle.po_engine.specs.Step.{is_full, enter, end_call, queue, conclude, run_body, arrive, take_out, cancel, attempt_cancel, serve, step, replay}
use Rattle.po_engine.specs.Arrival.{noted, call_of, arrivals}
use Rattle.po_engine.proofs.Absent.{All-without}
use Rattle.po_core.proofs.Orders.{noted_same, marked_all}

-- Volumes that follow one another end where their events do.
pub ends-at : {V : Type 0} (from : ℕ) (volumes : List (VolumeView V)) (to : ℕ) → RunOn from volumes to → to ≡ from + length (joined volumes)
ends-at from [] to run = omega (arith, run)
ends-at from (volume ∷ volumes) to run =
    let rest = ends-at (from + length volume.events) volumes to run.1 in
    let both = length-append volume.events (joined volumes) in
    omega (arith, rest, both)

-- What holds of the numbers of the waiting calls, and of the number of the call that an event may queue, holds of the numbers
-- of those that wait after the event.
module _ {S V : Type 0} (m : Meaning S V) (limit : Option ℕ) (P : ℕ → Type 0) where
  abbrev Hold : List (Call V) → Type 0
  Hold xs = All (λ x. P x.number) xs

  queued : (b : Bool) (p : ObjectState S V) (x : Call V) → P x.number → Hold p.waiting → Hold (if b then end_call p x ProgramError else queue p x).waiting
  queued true p x is h = h
  queued false p x is h = All-push (λ y. P y.number) p.waiting x h is

  entered : (p : ObjectState S V) (x : Call V) → P x.number → Hold p.waiting → Hold (enter limit p x).waiting
  entered p x is h = queued (is_full limit (count_by (is_on x.entry) p.waiting)) p x is h

  moved : (b : Bool) (p : ObjectState S V) (x y : Call V) → P y.number → Hold p.waiting → Hold (if b then end_call p x Cancelled else enter limit p y).waiting
  moved true p x y is h = h
  moved false p x y is h = entered p y is h

  concluded : (p : ObjectState S V) (x : Call V) (o : Outcome V) → P x.number → Hold p.waiting → Hold (conclude limit p x o).waiting
  concluded p x (Complete v) is h = h
  concluded p x (Raise k) is h = h
  concluded p x (Requeue t b v) is h = moved (b && x.aborted) p x (record x { entry = t; value = v; without_abort = not b }) is h

  served_on : (p : ObjectState S V) (x : Call V) → P x.number → Hold p.waiting → Hold (run_body m limit p x).waiting
  served_on p x is h = let r = m.body p.unit x.entry x.value (counts_in m p) in concluded (record p { unit = r.0 }) x r.1 is h

  arrived_on : (p : ObjectState S V) (x : Call V) (r : Result Bool ℕ) → P x.number → Hold p.waiting → Hold (arrive m limit p x r).waiting
  arrived_on p x (Ok true) is h = served_on p x is h
  arrived_on p x (Ok false) is h = entered p x is h
  arrived_on p x (Err k) is h = All-nil (λ (y : Call V). P y.number)

  selected : (p : ObjectState S V) (e : ℕ) (o : Option (Call V)) → ((n : ℕ) → option_map (λ x. x.number) o ≡ Some n → P n) → Hold p.waiting → Hold (serve m limit p e o).waiting
  selected p e None is h = h
  selected p e (Some x) is h = served_on (take_out p (is_on e)) x (is x.number refl) (All-without (λ y. P y.number) (is_on e) p.waiting h)

  cancelled : (p : ObjectState S V) (n : ℕ) (o : Option (Call V)) → Hold p.waiting → Hold (cancel p n o).waiting
  cancelled p n None h = h
  cancelled p n (Some x) h = All-without (λ y. P y.number) (has_number n) p.waiting h

  marked : (b : Bool) (p : ObjectState S V) (n : ℕ) (x : Call V) → Hold p.waiting → Hold (if b then record p { waiting = map (mark n) p.waiting } else cancel p n (Some x)).waiting
  marked true p n x h = marked_all n P p.waiting h
  marked false p n x h = cancelled p n (Some x) h

  aborted : (p : ObjectState S V) (n : ℕ) (o : Option (Call V)) → Hold p.waiting → Hold (attempt_cancel p n o).waiting
  aborted p n None h = h
  aborted p n (Some x) h = marked x.without_abort p n x h

  pub numbers_after : (p : ObjectState S V) (e : Event V) → ((n : ℕ) → call_of p e ≡ Some n → P n) → Hold p.waiting → Hold (step m limit p e).waiting
  numbers_after p (Issue n owner e v d) is h =
      arrived_on (record p { next = p.next + 1 }) (record { number = n; owner = owner; entry = e; value = v; without_abort = false; aborted = false; deadline = d }) (barrier_in m p e) (is n refl) h
  numbers_after p (Procedure owner op v reply) is h = h
  numbers_after p (Cancel n) is h = aborted p n (find (has_number n) p.waiting) h
  numbers_after p (Tick t) is h = h
  numbers_after p Finalize is h = All-nil (λ (y : Call V). P y.number)
  numbers_after p (Serve e) is h = selected p e (find (is_on e) p.waiting) is h
  numbers_after p (Break e) is h = All-nil (λ (y : Call V). P y.number)
  numbers_after p (Expire n) is h = cancelled p n (find (has_number n) p.waiting) h

-- Two functions that give a call the same place still do so after one more place is noted.
noted_both : (f g : ℕ → ℕ) (k : ℕ) (o : Option ℕ) (n : ℕ) → g n ≡ f n → noted g k o n ≡ noted f k o n
noted_both f g k None n same = same
noted_both f g k (Some i) n same = ap (λ j. if n == i then k else j) same

module _ {S V : Type 0} (m : Meaning S V) (limit : Option ℕ) where
  -- Two functions that give the waiting calls the same places give the same places to those that wait after some events.
  pub arrivals_agree : (f g : ℕ → ℕ) (k : ℕ) (s : ObjectState S V) (es : List (Event V)) → All (λ x. g x.number ≡ f x.number) s.waiting
      → All (λ x. arrivals m limit s k g es x.number ≡ arrivals m limit s k f es x.number) (replay m limit s es).waiting
  arrivals_agree f g k s [] h = h
  arrivals_agree f g k s (e ∷ es) h =
      let c = call_of s e in
      let Same = λ (n : ℕ). noted g k c n ≡ noted f k c n in
      let own : (n : ℕ) → c ≡ Some n → Same n = λ n is. subst (λ o. noted g k o n ≡ noted f k o n) (sym is) (noted_same g k n ∙ sym (noted_same f k n)) in
      arrivals_agree (noted f k c) (noted g k c) (k + 1) (step m limit s e) es
      (numbers_after m limit Same s e own (All-weaker (λ x. g x.number ≡ f x.number) (λ x. Same x.number) (λ x same. noted_both f g k c x.number same) s.waiting h))

  -- A call has the same place by all events as by the first of them and then the others.
  pub arrivals_append : (s : ObjectState S V) (k : ℕ) (f : ℕ → ℕ) (es more : List (Event V)) (n : ℕ)
      → arrivals m limit s k f (es ++ more) n ≡ arrivals m limit (replay m limit s es) (k + length es) (arrivals m limit s k f es) more n
  arrivals_append s k f [] more n = ap (λ j. arrivals m limit s j f more n) (omega arith)
  arrivals_append s k f (e ∷ es) more n =
      let q = step m limit s e in
      let g = noted f k (call_of s e) in
      arrivals_append q (k + 1) g es more n
      ∙ ap (λ j. arrivals m limit (replay m limit q es) j (arrivals m limit q (k + 1) g es) more n) (omega arith)
