-- Parts of histories that end at rest, and the calls that newly end there.
use Rattle.std.proofs.Common.{◌≡◌, ℕ, zero, suc, List, [], ◌∷◌, ◌++◌, length, drop, refl, ap, ◌∙◌, Bool, true, Option}
use Rattle.std.proofs.Common.{IsSome, find}
use Rattle.std.proofs.Math.Seq.{drop-append_seam}
use Rattle.po_unit.specs.Meaning.{Meaning}
use Rattle.po_calls.specs.declared.call.Call.{Call}
use Rattle.po_engine.specs.declared.ended.Ended.{Ended}
use Rattle.po_history.specs.declared.event.Event.{Event}
use Rattle.po_history.specs.declared.event.Event.TheVariants.{Issue, Procedure, Cancel, Tick, Finalize, Serve, Break, Expire}
use Rattle.po_engine.specs.WaitingCalls.{has_number, is_on, is_due}
use Rattle.po_engine.specs.ObjectState.{ObjectState, IsAtRest}
use Rattle.po_engine.specs.Step.{step, IsLegal, replay}
use Rattle.po_engine.specs.Finding.{IsFound}
use Rattle.po_core.specs.View.{newly_ended}
use Rattle.po_laws.specs.Gathered.{BeginsAnew, servings}

-- one more serving
pub servings-push : {V : Type 0} (e k : ℕ) → servings {V = V} e k ++ Serve e ∷ [] ≡ servings e (suc k)
servings-push e zero = refl
servings-push e (suc k) = ap (λ l. Serve e ∷ l) (servings-push e k)

module _ {S V : Type 0} (m : Meaning S V) (limit : Option ℕ) where
  -- The history is legal from the state, and ends at rest.
  abbrev pub EndsAtRest : ObjectState S V → List (Event V) → Type 0
  EndsAtRest s events = IsLegal m limit s events × IsAtRest m (replay m limit s events)

  -- the late part of such a history ends at rest, from the state to which the early part leads
  pub ends_from : (s : ObjectState S V) (early late : List (Event V)) → EndsAtRest s (early ++ late)
      → EndsAtRest (replay m limit s early) late
  ends_from s [] late ends = ends
  ends_from s (event ∷ early) late ends = ends_from (step m limit s event) early late (ends.0.1, ends.1)

  -- if no call waits, none is found
  none_found : (P : Call V → Type 0) (test : Call V → Bool) (w : List (Call V)) → w ≡ [] → IsFound P (find test w) → ⊥
  none_found P test [] empty found = found
  none_found P test (x ∷ xs) empty found = cc

  none_some : (test : Call V → Bool) (w : List (Call V)) → w ≡ [] → IsSome (find test w) → ⊥
  none_some test [] empty is = cc
  none_some test (x ∷ xs) empty is = cc

  -- if no call waits, no inner event follows
  pub begins_anew : (s : ObjectState S V) (events : List (Event V)) → s.waiting ≡ [] → IsLegal m limit s events
      → BeginsAnew events
  begins_anew s [] w legal = tt
  begins_anew s (Issue n owner e v d ∷ events) w legal = refl
  begins_anew s (Procedure owner op v reply ∷ events) w legal = refl
  begins_anew s (Cancel n ∷ events) w legal = refl
  begins_anew s (Tick t ∷ events) w legal = refl
  begins_anew s (Finalize ∷ events) w legal = refl
  begins_anew s (Serve e ∷ events) w legal = absurd (none_some (is_on e) s.waiting w legal.0.0)
  begins_anew s (Break e ∷ events) w legal = absurd (none_some (is_on e) s.waiting w legal.0.0)
  begins_anew s (Expire n ∷ events) w legal =
      absurd (none_found (λ x. is_due s.clock x ≡ true) (has_number n) s.waiting w legal.0.1)

  -- what the events add to the ended calls has newly ended
  pub newly_ended-from : (s : ObjectState S V) (events : List (Event V)) (added : List (Ended V))
      → (replay m limit s events).ended ≡ s.ended ++ added → newly_ended m limit s events ≡ added
  newly_ended-from s events added is = ap (drop (length s.ended)) is ∙ drop-append_seam s.ended added
