-- What a step is made of (`end_call`, `queue`, `conclude` ..) leads from states that are the same to states that are the same
-- (`IsSame`).
use Rattle.std.proofs.Common.{ℕ, ◌≡◌, ◌∙◌, List, [], ◌∷◌, ◌++◌, map, Bool, true, false, not, ◌&&◌, if◌then◌else◌, Option, None, ap, ap₂, refl, sym, append_assoc}
use Rattle.std.specs.List.{slice_get}
use Rattle.std.proofs.lemmas.List.{map-append}
use Rattle.po_unit.specs.Meaning.{Meaning}
use Rattle.po_unit.specs.declared.outcome.Outcome.{Outcome}
use Rattle.po_unit.specs.declared.outcome.Outcome.TheVariants.{Complete, Raise, Requeue}
use Rattle.po_calls.specs.declared.call.Call.{Call}
use Rattle.po_calls.specs.declared.end.End.{End}
use Rattle.po_calls.specs.declared.end.End.TheVariants.{Cancelled, Completed, ProgramError, Raised}
use Rattle.po_engine.specs.declared.ended.Ended.{Ended}
use Rattle.po_engine.specs.Ending.{ended_as}
use Rattle.po_engine.specs.ObjectState.{ObjectState, counts_in}
use Rattle.po_engine.specs.Step.{end_all, end_call, enter, conclude, queue, run_body}
use Rattle.po_driven.specs.Happening.{Driving, end_oldest}
use Rattle.po_laws.specs.Serial.{IsSame, as_known, known}

-- calls that have ended, as far as a driven object knows of them
abbrev pub known_all : List (Ended ℕ) → List (Ended ℕ)
known_all xs = map known xs

pub push : (left right : List (Ended ℕ)) (x y : Ended ℕ) → known_all left ≡ known_all right → known x ≡ known y → known_all (left ++ x ∷ []) ≡ known_all (right ++ y ∷ [])
push left right x y h n = map-append known left (x ∷ []) ∙ ap₂ (λ a b. a ++ b ∷ []) h n ∙ sym (map-append known right (y ∷ []))

pub appended : (left right more : List (Ended ℕ)) → known_all left ≡ known_all right → known_all (left ++ more) ≡ known_all (right ++ more)
appended left right more h = map-append known left more ∙ ap (λ a. a ++ known_all more) h ∙ sym (map-append known right more)

module _ {S : Type 0} where
  -- two ends that a driven object can't tell apart lead to the same state
  pub other_end : (s t : ObjectState S ℕ) (x : Call ℕ) (a b : End ℕ) → as_known a ≡ as_known b → IsSame s (end_call t x a) → IsSame s (end_call t x b)
  other_end s t x a b alike i = record { state = i.state; ended = i.ended ∙ push t.ended t.ended (ended_as a x) (ended_as b x) refl (ap (λ e. ended_as e x) alike) }

  module _ (left : List (Ended ℕ)) where
    -- the state with these calls ended
    abbrev pub with_ended : ObjectState S ℕ → ObjectState S ℕ
    with_ended t = record t { ended = left }

    pub same : (t : ObjectState S ℕ) → known_all left ≡ known_all t.ended → IsSame (with_ended t) t
    same t h = record { state = refl; ended = h }

    pub end_same : (t : ObjectState S ℕ) (x : Call ℕ) (end : End ℕ) → known_all left ≡ known_all t.ended → IsSame (end_call (with_ended t) x end) (end_call t x end)
    end_same t x end h = record { state = refl; ended = push left t.ended (ended_as end x) (ended_as end x) h refl }

    pub queue_same : (t : ObjectState S ℕ) (x : Call ℕ) → known_all left ≡ known_all t.ended → IsSame (queue (with_ended t) x) (queue t x)
    queue_same t x h = record { state = refl; ended = h }

    requeue_if : (b : Bool) (t : ObjectState S ℕ) (x y : Call ℕ) → known_all left ≡ known_all t.ended
        → IsSame (if b then end_call (with_ended t) x Cancelled else enter None (with_ended t) y) (if b then end_call t x Cancelled else enter None t y)
    requeue_if true t x y h = end_same t x Cancelled h
    requeue_if false t x y h = queue_same t y h

    pub conclude_same : (t : ObjectState S ℕ) (x : Call ℕ) (o : Outcome ℕ) → known_all left ≡ known_all t.ended → IsSame (conclude None (with_ended t) x o) (conclude None t x o)
    conclude_same t x (Complete v) h = end_same t x (Completed v) h
    conclude_same t x (Raise k) h = end_same t x (Raised k) h
    conclude_same t x (Requeue target with_abort v) h = requeue_if (with_abort && x.aborted) t x (record x { entry = target; value = v; without_abort = not with_abort }) h

    pub run_same : (m : Meaning S ℕ) (t : ObjectState S ℕ) (x : Call ℕ) → known_all left ≡ known_all t.ended → IsSame (run_body m None (with_ended t) x) (run_body m None t x)
    run_same m t x h =
        conclude_same (record t { unit = (m.body t.unit x.entry x.value (counts_in m t)).0 }) x (m.body t.unit x.entry x.value (counts_in m t)).1 h

    pub end_all_same : (t : ObjectState S ℕ) → known_all left ≡ known_all t.ended → IsSame (end_all (with_ended t) ProgramError) (end_all t ProgramError)
    end_all_same t h = record { state = refl; ended = appended left t.ended (map (ended_as ProgramError) t.waiting) h }

    -- the call that arrives ends last, if its barrier raised
    pub last_same : (t : ObjectState S ℕ) (x : Call ℕ) → known_all left ≡ known_all t.ended → IsSame (end_call (end_all (with_ended t) ProgramError) x ProgramError) (end_all (queue t x) ProgramError)
    last_same t x h = record {
      state = refl;
      ended = push (left ++ map (ended_as ProgramError) t.waiting) (t.ended ++ map (ended_as ProgramError) t.waiting) (ended_as ProgramError x) (ended_as ProgramError x) (appended left t.ended (map (ended_as ProgramError) t.waiting) h) refl
          ∙ ap known_all (append_assoc t.ended (map (ended_as ProgramError) t.waiting) (ended_as ProgramError x ∷ []) ∙ ap (λ l. t.ended ++ l) (sym (map-append (ended_as ProgramError) t.waiting (x ∷ []))));
    }

  -- the object with this data and these calls
  abbrev pub base : S → Driving → ObjectState S ℕ
  base u d = record { unit = u; waiting = d.state.waiting; ended = d.state.ended; next = d.state.next; clock = d.state.clock; finalized = d.state.finalized }

  oldest_of : (u : S) (s : ObjectState ℕ ℕ) (xs : List (Call ℕ)) (serving : Option (Call ℕ)) (elsewhere : List (Call ℕ))
      → let before = record s { waiting = xs } in
      end_all (base u (record { state = end_oldest before (slice_get xs 0); serving = serving; elsewhere = elsewhere })) ProgramError ≡ end_all (base u (record { state = before; serving = serving; elsewhere = elsewhere })) ProgramError
  oldest_of u s [] serving elsewhere = refl
  oldest_of u s (x ∷ xs) serving elsewhere =
      ap (λ l. record { unit = u; waiting = []; ended = l; next = s.next; clock = s.clock; finalized = s.finalized }) (append_assoc s.ended (ended_as ProgramError x ∷ []) (map (ended_as ProgramError) xs))

  -- all queued calls end in the same way, whether or not one of them has ended already
  pub oldest_same : (u : S) (d : Driving) → end_all (base u (record d { state = end_oldest d.state (slice_get d.state.waiting 0); serving = None })) ProgramError ≡ end_all (base u d) ProgramError
  oldest_same u d = oldest_of u d.state d.state.waiting None d.elsewhere
