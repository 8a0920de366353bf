-- SPDX-License-Identifier: MIT
-- What an event needs, and the state that it leads to.
use Rattle.std.specs.Prelude.{ℕ, count_by, nat_le, ◌≡◌, ◌<◌, ◌+◌, max, List, [], ◌∷◌, ◌++◌, map, Bool, true, false, not, ◌&&◌, Result, Ok, Err, Option, Some, None, find, IsSome, if◌then◌else◌}
use Rattle.po_unit.specs.Meaning.{Meaning}
use Rattle.po_unit.specs.declared.outcome.Outcome.{Outcome}
use Rattle.po_unit.specs.declared.outcome.Outcome.TheVariants.{Complete, Raise, Requeue}
use Rattle.po_calls.specs.declared.call.Call.{Call}
use Rattle.po_calls.specs.declared.end.End.{End}
use Rattle.po_calls.specs.declared.end.End.TheVariants.{Completed, Raised, Cancelled, ProgramError}
use Rattle.po_history.specs.declared.event.Event.{Event}
use Rattle.po_history.specs.declared.event.Event.TheVariants.{Issue, Procedure, Cancel, Tick, Finalize, Serve, Break, Expire}
use Rattle.po_engine.specs.Ending.{ended_as}
use Rattle.po_engine.specs.Finding.{without_first, IsFound}
use Rattle.po_engine.specs.WaitingCalls.{is_on, has_number, is_due, mark}
use Rattle.po_engine.specs.ObjectState.{ObjectState, counts_in, barrier_in, IsQuiet, IsAtRest}

-- whether a queue of `n` calls is full under this limit (D.7, Max_Entry_Queue_Length, here for an object)
abbrev pub is_full : Option ℕ → ℕ → Bool
is_full None n = false
is_full (Some most) n = nat_le most n

module _ {S V : Type 0} where
  -- a call that isn't queued ends
  abbrev pub end_call : ObjectState S V → Call V → End V → ObjectState S V
  end_call s x end = record s { ended = s.ended ++ ended_as end x ∷ [] }

  -- all queued calls end, in order of arrival
  abbrev pub end_all : ObjectState S V → End V → ObjectState S V
  end_all s end = record s { waiting = []; ended = s.ended ++ map (ended_as end) s.waiting }

  -- a call is added to the queue of its entry, after the others (9.5.3)
  abbrev pub queue : ObjectState S V → Call V → ObjectState S V
  queue s x = record s { waiting = s.waiting ++ x ∷ [] }

  -- a call is added to the queue of its entry, or ends by Program_Error if that queue is full (9.5.3, D.7)
  abbrev pub enter : Option ℕ → ObjectState S V → Call V → ObjectState S V
  enter limit s x =
      if is_full limit (count_by (is_on x.entry) s.waiting)
      then end_call s x ProgramError
      else queue s x

  -- the state after the body of a call has ended: the call completes, its exception is propagated to its caller, or it is
  -- requeued; a requeue with abort of an aborted call cancels it, before the length of the queue is checked (9.5.2, 9.5.4)
  abbrev pub conclude : Option ℕ → ObjectState S V → Call V → Outcome V → ObjectState S V
  conclude limit s x (Complete v) = end_call s x (Completed v)
  conclude limit s x (Raise k) = end_call s x (Raised k)
  conclude limit s x (Requeue target with_abort v) =
      if with_abort && x.aborted
      then end_call s x Cancelled
      else enter limit s (record x { entry = target; value = v; without_abort = not with_abort })

  -- whether that state has the call on a queue
  abbrev pub is_queued_again : Option ℕ → ObjectState S V → Call V → Outcome V → Bool
  is_queued_again limit s x (Complete v) = false
  is_queued_again limit s x (Raise k) = false
  is_queued_again limit s x (Requeue target with_abort v) =
      not (with_abort && x.aborted) && not (is_full limit (count_by (is_on target) s.waiting))

  -- the body of a call that isn't queued runs, and the call is concluded (9.5.2, 9.5.3)
  abbrev pub run_body : Meaning S V → Option ℕ → ObjectState S V → Call V → ObjectState S V
  run_body m limit s x =
      let r = m.body s.unit x.entry x.value (counts_in m s) in
      conclude limit (record s { unit = r.0 }) x r.1

  -- a new call, by what its entry's barrier returns: its body runs, it is queued, or all calls end by Program_Error (9.5.3)
  abbrev pub arrive : Meaning S V → Option ℕ → ObjectState S V → Call V → Result Bool ℕ → ObjectState S V
  arrive m limit s x (Ok true) = run_body m limit s x
  arrive m limit s x (Ok false) = enter limit s x
  arrive m limit s x (Err k) = end_call (end_all s ProgramError) x ProgramError

  -- the first call that passes the test leaves its queue
  abbrev pub take_out : ObjectState S V → (Call V → Bool) → ObjectState S V
  take_out s test = record s { waiting = without_first test s.waiting }

  -- a queued call is selected: it leaves its queue, and its body runs (9.5.3)
  abbrev pub serve : Meaning S V → Option ℕ → ObjectState S V → ℕ → Option (Call V) → ObjectState S V
  serve m limit s e None = s
  serve m limit s e (Some x) = run_body m limit (take_out s (is_on e)) x

  -- a queued call is cancelled: it leaves its queue (9.5.3, 9.7.2, 9.7.3)
  abbrev pub cancel : ObjectState S V → ℕ → Option (Call V) → ObjectState S V
  cancel s n None = s
  cancel s n (Some x) = end_call (take_out s (has_number n)) x Cancelled

  -- an attempt to cancel a waiting call: one that is queued without abort is marked, any other is cancelled (9.5.3, 9.5.4)
  abbrev pub attempt_cancel : ObjectState S V → ℕ → Option (Call V) → ObjectState S V
  attempt_cancel s n None = s
  attempt_cancel s n (Some x) =
      if x.without_abort
      then record s { waiting = map (mark n) s.waiting }
      else cancel s n (Some x)

  -- the clock rises to t, if it is lower (this project's own clock)
  abbrev pub advance : ObjectState S V → ℕ → ObjectState S V
  advance s t = record s { clock = max s.clock t }

  -- the object is finalized: Program_Error is raised at the entry calls that are queued (9.4)
  abbrev pub finalize : ObjectState S V → ObjectState S V
  finalize s = record (end_all s ProgramError) { finalized = true }

  -- a procedure runs (9.5.1)
  abbrev pub run_procedure : Meaning S V → ObjectState S V → ℕ → V → ObjectState S V
  run_procedure m s op v = record s { unit = (m.procedure s.unit op v (counts_in m s)).0 }

  -- the state after an event
  abbrev pub step : Meaning S V → Option ℕ → ObjectState S V → Event V → ObjectState S V
  step m limit s (Issue n owner e v deadline) =
      arrive m limit (record s { next = s.next + 1 }) (record { number = n; owner = owner; entry = e; value = v; without_abort = false; aborted = false; deadline = deadline }) (barrier_in m s e)
  step m limit s (Procedure owner op v reply) = run_procedure m s op v
  step m limit s (Cancel n) = attempt_cancel s n (find (has_number n) s.waiting)
  step m limit s (Tick t) = advance s t
  step m limit s Finalize = finalize s
  step m limit s (Serve e) = serve m limit s e (find (is_on e) s.waiting)
  step m limit s (Break e) = end_all s ProgramError
  step m limit s (Expire n) = cancel s n (find (has_number n) s.waiting)

  -- A protected action begins only if none is underway and the object isn't finalized (9.4, 9.5.1).
  pub record MayBegin (m : Meaning S V) (s : ObjectState S V) : Type 0 where
    pub rest : IsAtRest m s
    pub alive : s.finalized ≡ false

  -- What an event needs in the state before it. The first five begin a protected action. The last three are inner events: they
  -- service a queue, end all calls if a barrier faults, or cancel a call that is due (9.5.3, 9.7.2).
  abbrev pub Needs : Meaning S V → ObjectState S V → Event V → Type 0
  Needs m s (Issue n owner e v deadline) = MayBegin m s × (e < m.entries s.unit) × (n ≡ s.next) × (n < 18_446_744_073_709_551_615)
  Needs m s (Procedure owner op v reply) = MayBegin m s × (op < m.procedures s.unit) × (reply ≡ (m.procedure s.unit op v (counts_in m s)).1)
  Needs m s (Cancel n) = MayBegin m s × IsFound (λ x. (x.without_abort && x.aborted) ≡ false) (find (has_number n) s.waiting)
  Needs m s (Tick t) = MayBegin m s
  Needs m s Finalize = MayBegin m s
  Needs m s (Serve e) = IsSome (find (is_on e) s.waiting) × (barrier_in m s e ≡ Ok true)
  Needs m s (Break e) = IsSome (find (is_on e) s.waiting) × ((k : ℕ) × (barrier_in m s e ≡ Err k))
  Needs m s (Expire n) = IsQuiet m s × IsFound (λ x. is_due s.clock x ≡ true) (find (has_number n) s.waiting)

  -- the state that a history leads to: its events one after the other
  abbrev pub replay : Meaning S V → Option ℕ → ObjectState S V → List (Event V) → ObjectState S V
  replay m limit s [] = s
  replay m limit s (event ∷ events) = replay m limit (step m limit s event) events

  -- The needs of each event are met in the state before it.
  abbrev pub IsLegal : Meaning S V → Option ℕ → ObjectState S V → List (Event V) → Type 0
  IsLegal m limit s [] = Unit {0}
  IsLegal m limit s (event ∷ events) = Needs m s event × IsLegal m limit (step m limit s event) events
