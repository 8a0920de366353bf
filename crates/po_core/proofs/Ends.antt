-- Ends are never taken back.
use Rattle.std.proofs.Common.{◌≡◌, ℕ, ◌+◌, ◌≤◌, List, [], ◌∷◌, ◌++◌, map, take, refl, sym, append-nil, append_assoc, length, arith, Bool, true, false, not, ◌&&◌, Option, Some, None, Result, Ok, Err, if◌then◌else◌, length-append}
use Rattle.std.specs.List.{find, count_by}
use Rattle.std.proofs.lemmas.List.{take-append-le}
use Rattle.po_engine.specs.declared.ended.Ended.{Ended}
use Rattle.po_unit.specs.Meaning.{Meaning}
use Rattle.po_unit.specs.declared.outcome.Outcome.{Outcome}
use Rattle.po_unit.specs.declared.outcome.Outcome.TheVariants.{Complete, Raise, Requeue}
use Rattle.po_calls.specs.declared.call.Call.{Call}
use Rattle.po_calls.specs.declared.end.End.{End}
use Rattle.po_calls.specs.declared.end.End.TheVariants.{Completed, Raised, Cancelled, ProgramError}
use Rattle.po_history.specs.declared.event.Event.{Event}
use Rattle.po_history.specs.declared.event.Event.TheVariants.{Issue, Procedure, Cancel, Tick, Finalize, Serve, Break, Expire}
use Rattle.po_engine.specs.ObjectState.{ObjectState, counts_in, barrier_in}
use Rattle.po_engine.specs.WaitingCalls.{has_number, is_on, mark}
use Rattle.po_engine.specs.Step.{is_full, enter, end_call, end_all, queue, conclude, run_body, arrive, take_out, cancel, attempt_cancel, serve, step}
use Rattle.po_engine.specs.Ending.{ended_as}

-- The later ends are the earlier ones and some more.
pub record Grows {V : Type 0} (old new : List (Ended V)) : Type 0 where
  pub added : List (Ended V)
  pub is : new ≡ old ++ added

module _ {S V : Type 0} (m : Meaning S V) (limit : Option ℕ) where
  same : (ends : List (Ended V)) → Grows ends ends
  same ends = record { added = []; is = sym (append-nil ends) }

  more_one : (p : ObjectState S V) (x : Call V) (end : End V) → Grows p.ended (end_call p x end).ended
  more_one p x end = record { added = ended_as end x ∷ []; is = refl }

  more_all : (p : ObjectState S V) (end : End V) → Grows p.ended (end_all p end).ended
  more_all p end = record { added = map (ended_as end) p.waiting; is = refl }

  more_if : (b : Bool) (old : List (Ended V)) (p q : ObjectState S V) → Grows old p.ended → Grows old q.ended → Grows old (if b then p else q).ended
  more_if true old p q h i = h
  more_if false old p q h i = i

  more_enter : (p : ObjectState S V) (x : Call V) → Grows p.ended (enter limit p x).ended
  more_enter p x = more_if (is_full limit (count_by (is_on x.entry) p.waiting)) p.ended (end_call p x ProgramError) (queue p x) (more_one p x ProgramError) (same p.ended)

  more_conclude : (p : ObjectState S V) (x : Call V) (o : Outcome V) → Grows p.ended (conclude limit p x o).ended
  more_conclude p x (Complete v) = more_one p x (Completed v)
  more_conclude p x (Raise k) = more_one p x (Raised k)
  more_conclude p x (Requeue t a v) =
      let y : Call V = record x { entry = t; value = v; without_abort = not a } in
      more_if (a && x.aborted) p.ended (end_call p x Cancelled) (enter limit p y) (more_one p x Cancelled) (more_enter p y)

  more_run_body : (p : ObjectState S V) (x : Call V) → Grows p.ended (run_body m limit p x).ended
  more_run_body p x = let r = m.body p.unit x.entry x.value (counts_in m p) in more_conclude (record p { unit = r.0 }) x r.1

  more_arrive : (p : ObjectState S V) (x : Call V) (r : Result Bool ℕ) → Grows p.ended (arrive m limit p x r).ended
  more_arrive p x (Ok true) = more_run_body p x
  more_arrive p x (Ok false) = more_enter p x
  more_arrive p x (Err k) = record { added = map (ended_as ProgramError) p.waiting ++ ended_as ProgramError x ∷ []; is = append_assoc p.ended (map (ended_as ProgramError) p.waiting) (ended_as ProgramError x ∷ []) }

  more_serve : (p : ObjectState S V) (e : ℕ) (o : Option (Call V)) → Grows p.ended (serve m limit p e o).ended
  more_serve p e None = same p.ended
  more_serve p e (Some x) = more_run_body (take_out p (is_on e)) x

  more_cancel : (p : ObjectState S V) (n : ℕ) (o : Option (Call V)) → Grows p.ended (cancel p n o).ended
  more_cancel p n None = same p.ended
  more_cancel p n (Some x) = more_one (take_out p (has_number n)) x Cancelled

  more_attempt : (p : ObjectState S V) (n : ℕ) (o : Option (Call V)) → Grows p.ended (attempt_cancel p n o).ended
  more_attempt p n None = same p.ended
  more_attempt p n (Some x) = more_if x.without_abort p.ended (record p { waiting = map (mark n) p.waiting }) (cancel p n (Some x)) (same p.ended) (more_cancel p n (Some x))

  pub ended_after : (p : ObjectState S V) (e : Event V) → Grows p.ended (step m limit p e).ended
  ended_after p (Issue n owner e v d) = more_arrive (record p { next = p.next + 1 }) (record { number = n; owner = owner; entry = e; value = v; without_abort = false; aborted = false; deadline = d }) (barrier_in m p e)
  ended_after p (Procedure owner op v reply) = same p.ended
  ended_after p (Cancel n) = more_attempt p n (find (has_number n) p.waiting)
  ended_after p (Tick t) = same p.ended
  ended_after p Finalize = more_all p ProgramError
  ended_after p (Serve e) = more_serve p e (find (is_on e) p.waiting)
  ended_after p (Break e) = more_all p ProgramError
  ended_after p (Expire n) = more_cancel p n (find (has_number n) p.waiting)

  pub ended_on : (p q : ObjectState S V) (e : Event V) (k : ℕ) → q ≡ step m limit p e → k ≤ length p.ended → k ≤ length q.ended
  ended_on p q e k is h = let g = ended_after p e in rw (is, g.is) (omega (arith, length-append p.ended g.added))

  -- the first ends stay
  pub ends_stay : (p q : ObjectState S V) (e : Event V) (k : ℕ) → q ≡ step m limit p e → k ≤ length p.ended → take k p.ended ≡ take k q.ended
  ends_stay p q e k is h = let g = ended_after p e in rw (is, g.is) (sym (take-append-le k p.ended g.added h))
