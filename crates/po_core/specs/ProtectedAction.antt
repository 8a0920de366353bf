-- SPDX-License-Identifier: MIT
-- A protected action: a command's own event, and the inner events that follow it up to rest (9.5.1, 9.5.3).
use Rattle.std.specs.Prelude.{ℕ, zero, suc, ◌≡◌, ◌≤◌, List, [], ◌∷◌, ◌++◌, length, Option, Some, None, Bool, true, false, ◌&&◌, find, if◌then◌else◌}
use Rattle.po_unit.specs.Meaning.{Meaning}
use Rattle.po_calls.specs.declared.call.Call.{Call}
use Rattle.po_history.specs.declared.event.Event.{Event}
use Rattle.po_history.specs.declared.event.Event.TheVariants.{Cancel}
use Rattle.po_queues.specs.declared.order.Order.{Order}
use Rattle.po_core.specs.declared.attempt.Attempt.{Attempt}
use Rattle.po_core.specs.declared.attempt.Attempt.TheVariants.{Cancelled, Kept}
use Rattle.po_engine.specs.WaitingCalls.{has_number}
use Rattle.po_engine.specs.ObjectState.{ObjectState, IsAtRest}
use Rattle.po_engine.specs.Step.{step, replay}
use Rattle.po_engine.specs.Finding.{IsFound}
use Rattle.po_engine.specs.Pick.{pick, ArePicks, served_last, last_from, weight}
use Rattle.po_core.specs.View.{View, last_served, ended_now, newly_ended}

-- the event that comes next, if any, and what comes after it
abbrev pub followed : {V : Type 0} → Option (Event V) → (Event V → List (Event V)) → List (Event V)
followed None rest = []
followed (Some event) rest = event ∷ rest event

-- whether there is such a call, and it is queued without abort
abbrev pub is_without_abort : {V : Type 0} → Option (Call V) → Bool
is_without_abort None = false
is_without_abort (Some x) = x.without_abort

module _ {S V : Type 0} where
  -- the inner events that follow in this state, at most the given number of them; `last` is the entry that was served last
  abbrev pub settling : Meaning S V → Option ℕ → Order → Option ℕ → ℕ → ObjectState S V → List (Event V)
  settling m limit order last zero s = []
  settling m limit order last (suc most) s =
      followed (pick m order last s) (λ event. settling m limit order (served_last last event) most (step m limit s event))

  -- the inner events that follow, up to rest
  abbrev pub inner_events : Meaning S V → View S V → List (Event V)
  inner_events m view =
      settling m view.setup.max_queue view.setup.order (last_served view) (weight m view.state) view.state

  -- the object right after a command's own event
  abbrev pub begun : Meaning S V → View S V → Event V → View S V
  begun m view own = record view {
    events = view.events ++ own ∷ [];
    state = step m view.setup.max_queue view.state own;
    ended_before = length view.state.ended;
  }

  -- the object after the inner events that follow
  abbrev pub settled : Meaning S V → View S V → View S V
  settled m view = record view {
    events = view.events ++ inner_events m view;
    state = replay m view.setup.max_queue view.state (inner_events m view);
  }

  -- the object after the protected action of a command
  abbrev pub after_action : Meaning S V → View S V → Event V → View S V
  after_action m view own = settled m (begun m view own)

  -- the object after a command that has no event and ends no call
  abbrev pub without_event : View S V → View S V
  without_event view = record view { ended_before = length view.state.ended }

  -- the object after an attempt to cancel the waiting call: no event happens if the call was marked before
  abbrev pub after_attempt_of : Meaning S V → View S V → ℕ → Option (Call V) → View S V
  after_attempt_of m view n None = view
  after_attempt_of m view n (Some x) =
      if x.without_abort && x.aborted then without_event view else after_action m view (Cancel n)

  -- the object after an attempt to cancel the call with number n (9.5.3)
  abbrev pub after_attempt : Meaning S V → View S V → ℕ → View S V
  after_attempt m view n = after_attempt_of m view n (find (has_number n) view.state.waiting)

  -- what came of it: a call requeued without abort is kept
  abbrev pub attempt_answer : View S V → ℕ → Attempt
  attempt_answer view n = if is_without_abort (find (has_number n) view.state.waiting) then Kept else Cancelled

  -- From the old view to the new one, the command's own event happens, with the command's own arguments, and then only inner
  -- events, up to rest. Each of them is the one that comes next, and there are at most as many as the weight of the state after
  -- the own event. What the command ended is what these events end.
  pub record IsProtectedAction (m : Meaning S V) (old new : View S V) (own : Event V) : Type 0 where
    pub inner : List (Event V)
    pub events : new.events ≡ old.events ++ own ∷ inner
    pub picks : ArePicks m old.setup.max_queue old.setup.order (last_from old.base.last (old.events ++ own ∷ [])) (step m old.setup.max_queue old.state own) inner
    pub bounded : length inner ≤ weight m (step m old.setup.max_queue old.state own)
    pub state : new.state ≡ replay m old.setup.max_queue old.state (own ∷ inner)
    pub rest : IsAtRest m new.state
    pub ended_now : ended_now new ≡ newly_ended m old.setup.max_queue old.state (own ∷ inner)
    pub setup : new.setup ≡ old.setup
    pub base : new.base ≡ old.base

  -- What an attempt to cancel this waiting call does. A call queued with abort is cancelled. Any other is marked, and no inner
  -- event follows. One that was marked before stays as it is, without an event (9.5.3, 9.5.4).
  pub record IsAttemptOnCall (m : Meaning S V) (old new : View S V) (n : ℕ) (x : Call V) : Type 0 where
    pub cancelled : x.without_abort ≡ false → IsProtectedAction m old new (Cancel n)
    pub marked : x.without_abort ≡ true → x.aborted ≡ false → IsProtectedAction m old new (Cancel n) × (new.events ≡ old.events ++ Cancel n ∷ [])
    pub kept : x.without_abort ≡ true → x.aborted ≡ true → new ≡ without_event old

  -- What an attempt to cancel the waiting call with number n does.
  abbrev pub IsAttemptOf : Meaning S V → View S V → View S V → ℕ → Type 0
  IsAttemptOf m old new n = IsFound (IsAttemptOnCall m old new n) (find (has_number n) old.state.waiting)
