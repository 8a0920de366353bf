-- SPDX-License-Identifier: MIT
-- The law of the meeting: calls complete together, as many as its size, in order of arrival.
use Rattle.std.specs.Prelude.{ℕ, ◌≡◌, ◌≢◌, ◌<◌, ◌+◌, List, [], ◌∷◌, ◌++◌, map, length}
use Rattle.po_calls.specs.declared.call.Call.{Call}
use Rattle.po_calls.specs.declared.call.Deadline.{Deadline}
use Rattle.po_history.specs.declared.event.Event.{Event}
use Rattle.po_history.specs.declared.event.Event.TheVariants.{Issue, Serve}
use Rattle.po_core.specs.Setup.{Setup}
use Rattle.po_core.specs.View.{newly_ended}
use Rattle.po_laws.specs.Completed.{completed_by}
use Rattle.po_receipts.specs.OneHistory.{state_after}
use Rattle.po_laws.specs.Gathered.{BeginsAnew, servings, issued, with_own_value}
use Rattle.po_classic_units.specs.Meeting.{MeetingState, meeting_meaning}

-- After the early events a call is issued, and its trail lets a meeting go. As many servings of Wait as the meeting's size
-- complete the calls that wait, in order of arrival, and the issued call last.
pub record Gathers (setup : Setup MeetingState) (early late : List (Event ℕ)) (n owner v : ℕ) (d : Deadline) : Type 0 where
  -- the calls that wait
  pub calls : List (Call ℕ)
  pub waiting : (state_after meeting_meaning setup early).waiting ≡ calls
  pub many : length calls + 1 ≡ setup.opening.size
  -- what follows the trail
  pub rest : List (Event ℕ)
  pub trail : late ≡ servings 0 setup.opening.size ++ rest
  pub over : BeginsAnew rest
  pub ends : newly_ended meeting_meaning setup.max_queue (state_after meeting_meaning setup early) (Issue n owner 0 v d ∷ servings 0 setup.opening.size)
      ≡ map with_own_value calls ++ with_own_value (issued n owner 0 v d) ∷ []

-- The event is one of the servings of such a trail.
pub record BelongsToMeeting (setup : Setup MeetingState) (early late : List (Event ℕ)) (event : Event ℕ) : Type 0 where
  pub serves : event ≡ Serve 0
  pub before : List (Event ℕ)
  pub number : ℕ
  pub owner : ℕ
  pub value : ℕ
  pub deadline : Deadline
  -- how many servings of the trail come before the event
  pub served : ℕ
  pub within : served < setup.opening.size
  pub follows : early ≡ before ++ Issue number owner 0 value deadline ∷ servings 0 served
  pub gathers : Gathers setup before (servings 0 served ++ event ∷ late) number owner value deadline

-- Each event that completes calls belongs to a meeting, whatever the service order and the greatest length of a queue.
abbrev pub MeetingGathers : Setup MeetingState → List (Event ℕ) → Type 0
MeetingGathers setup events =
    (early late : List (Event ℕ)) (event : Event ℕ)
    → events ≡ early ++ event ∷ late
    → completed_by meeting_meaning setup.max_queue (state_after meeting_meaning setup early) event ≢ []
    → BelongsToMeeting setup early late event
