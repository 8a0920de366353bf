-- SPDX-License-Identifier: MIT
-- What an answer of an object says of its one history (9.5.1, 9.5.3, 9.7.2; the words are this project's own). Before it asks,
-- a caller has seen a beginning of the history; afterwards it has seen further.
use Rattle.std.specs.Prelude.{ℕ, ◌≡◌, ◌<◌, ◌+◌, length, List, [], ◌∷◌, ◌++◌, Option, Some, Result, find, slice_index, if◌then◌else◌, ◌&&◌}
use mathlib.Core.List.{IsPrefix}
use Rattle.po_unit.specs.Meaning.{Meaning}
use Rattle.po_calls.specs.declared.call.Call.{Call}
use Rattle.po_calls.specs.declared.call.Deadline.{Deadline}
use Rattle.po_calls.specs.declared.end.End.{End}
use Rattle.po_history.specs.declared.event.Event.{Event}
use Rattle.po_history.specs.declared.event.Event.TheVariants.{Issue, Tick, Cancel}
use Rattle.po_history.specs.Histories.{VolumeView, joined}
use Rattle.po_engine.specs.Finding.{IsFound}
use Rattle.po_engine.specs.WaitingCalls.{has_number, is_of}
use Rattle.po_core.specs.declared.attempt.Attempt.{Attempt}
use Rattle.po_core.specs.declared.attempt.Attempt.TheVariants.{Cancelled, Kept}
use Rattle.po_core.specs.Setup.{Setup}
use Rattle.po_core.specs.Public.{AllPublic}
use Rattle.po_core.specs.View.{View, opening_view}
use Rattle.po_core.specs.Cutting.{AreVolumes}
use Rattle.po_engine.specs.ObjectState.{ObjectState, opening_state, counts_in, IsAtRest}
use Rattle.po_engine.specs.Step.{replay, IsLegal}
use Rattle.po_receipts.specs.Receipts.{answer_of}
use Rattle.po_receipts.specs.Told.{HappensBetween}

module _ {V : Type 0} where
  -- the history right after an attempt to cancel the call with number n: if the call was marked before, no event is added
  -- (9.5.3, 9.5.4)
  abbrev pub attempted : ℕ → List (Event V) → Call V → List (Event V)
  attempted n here x = if x.without_abort && x.aborted then here else here ++ Cancel n ∷ []

  -- The call with number n waits in this state, and this is the result of an attempt to cancel it: a call requeued without
  -- abort is kept. The history is seen beyond the attempt.
  abbrev pub IsAttempt : {S : Type 0} → ℕ → Attempt → List (Event V) → ObjectState S V → List (Event V) → Type 0
  IsAttempt n aborted here s after =
      IsFound (λ x. IsPrefix (attempted n here x) after × (aborted ≡ (if x.without_abort then Kept else Cancelled))) (find (has_number n) s.waiting)

module _ {S V : Type 0} (m : Meaning S V) (setup : Setup S) where
  -- the state to which these events lead from the opening of the object
  abbrev pub state_after : List (Event V) → ObjectState S V
  state_after log = replay m setup.max_queue (opening_state setup.opening setup.first_number) log

  -- what contracts see of the object after these events, with all of its history
  abbrev pub view_after : List (Event V) → View S V
  view_after log = record (opening_view setup) { events = log; state = state_after log }

  -- The events are a whole history of the object, from its opening up to a moment at which no protected action is underway:
  -- serial protected actions of one thread (9.5.1).
  pub record IsWholeHistory (log : List (Event V)) : Type 0 where
    pub legal : IsLegal m setup.max_queue (opening_state setup.opening setup.first_number) log
    pub public : AllPublic setup.shape log
    pub rest : IsAtRest m (state_after log)

  -- how the call with this number has ended by the end of these events, if it has
  abbrev pub end_in : List (Event V) → ℕ → Option (End V)
  end_in log number = answer_of (state_after log).ended number

  -- The event is in the history, after all that was seen before, and the history is now seen beyond it.
  pub record Stands (event : Event V) (before after : List (Event V)) : Type 0 where
    pub happens : HappensBetween event before after
    pub history : IsWholeHistory after

  -- The history is seen further, and in it the call with this number has ended with this end (9.5.3).
  pub record HasEnded (number : ℕ) (end : End V) (before after : List (Event V)) : Type 0 where
    pub later : IsPrefix before after
    pub history : IsWholeHistory after
    pub ended : end_in after number ≡ Some end

  -- A call was issued after all that was seen before, from this seat, on this entry, with this value and this deadline. In the
  -- history that is now seen it has ended with this end (9.5.3).
  pub record IsAnswered (seat entry : ℕ) (value : V) (deadline : Deadline) (end : End V) (before after : List (Event V)) : Type 0 where
    pub number : ℕ
    pub issued : Stands (Issue number seat entry value deadline) before after
    pub ended : end_in after number ≡ Some end

  -- The clock was raised after all that was seen before, and at the end of what is now seen this is its value (9.7.2).
  pub record IsTicked (t clock : ℕ) (before after : List (Event V)) : Type 0 where
    pub ticked : Stands (Tick t) before after
    pub clock_is : clock ≡ (state_after after).clock

  -- The history is seen further, to a moment at which `holds` is true of the object.
  pub record HoldsAt (holds : View S V → Type 0) (before after : List (Event V)) : Type 0 where
    pub later : IsPrefix before after
    pub history : IsWholeHistory after
    pub held : holds (view_after after)

  -- The history is seen further, to a moment at which the unit has the function and the function gives this reply (9.5.1).
  abbrev pub IsFunctionAt : ℕ → V → Result V ℕ → List (Event V) → List (Event V) → Type 0
  IsFunctionAt op value reply before after =
      HoldsAt (λ view. (op < m.functions view.state.unit) × (reply ≡ m.function view.state.unit op value (counts_in m view.state))) before after

  -- The history is seen further, to a moment at which `count` calls are queued on the entry (9.9).
  abbrev pub IsCountAt : ℕ → ℕ → List (Event V) → List (Event V) → Type 0
  IsCountAt entry count before after = HoldsAt (λ view. count ≡ slice_index (counts_in m view.state) entry) before after

  -- At some moment after all that was seen before, this was the result of an attempt to cancel the seat's earliest queued call
  -- (9.5.3, 9.5.4). The history is now seen beyond it.
  pub record IsAttempted (seat : ℕ) (aborted : Attempt) (before after : List (Event V)) : Type 0 where
    pub here : List (Event V)
    pub later : IsPrefix before here
    pub moment : IsWholeHistory here
    pub history : IsWholeHistory after
    pub answer : IsFound (λ x. IsAttempt x.number aborted here (state_after here) after) (find (is_of seat) (state_after here).waiting)

  -- The volume is all of the history that is now seen, from the volume's first place on (this project's own).
  pub record IsCutOff (volume : VolumeView V) (before after : List (Event V)) : Type 0 where
    pub later : IsPrefix before after
    pub history : IsWholeHistory after
    pub part : (rest : List (Event V)) × (rest ++ volume.events ≡ after) × (volume.first_place ≡ setup.first_place + length rest)

-- The log of an object whose history may have been cut: what was cut off, in its order, and the events since.
abbrev pub IsWholeLog : {S V : Type 0} → Meaning S V → View S V → List (Event V) → Type 0
IsWholeLog {S} {V} m view log = (volumes : List (VolumeView V)) × AreVolumes m view volumes × (log ≡ joined volumes ++ view.events)
