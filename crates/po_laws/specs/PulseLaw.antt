-- SPDX-License-Identifier: MIT
-- The law of the pulse: a Signal releases all calls that wait, and nothing else releases one.
use Rattle.std.specs.Prelude.{ℕ, ◌≡◌, ◌≢◌, List, [], ◌∷◌, ◌++◌, map, length, All}
use Rattle.po_calls.specs.declared.call.Call.{Call}
use Rattle.po_calls.specs.declared.call.Deadline.{Deadline}
use Rattle.po_history.specs.declared.event.Event.{Event}
use Rattle.po_history.specs.declared.event.Event.TheVariants.{Issue, Serve}
use Rattle.po_core.specs.Setup.{Setup}
use Rattle.po_core.specs.Public.{AllPublic}
use Rattle.po_core.specs.View.{newly_ended}
use Rattle.po_laws.specs.Completed.{completed_at}
use Rattle.po_receipts.specs.OneHistory.{state_after}
use Rattle.po_laws.specs.Gathered.{BeginsAnew, servings, issued, with_own_value}
use Rattle.po_classic_units.specs.Pulse.{PulseState, pulse_meaning, pulse_declarations}

-- the servings after a Signal that finds these calls on Wait: one of Wait for each, and then one of Reset; none if no call
-- waits
abbrev pub releases : List (Call ℕ) → List (Event ℕ)
releases [] = []
releases (x ∷ xs) = servings 0 (length (x ∷ xs)) ++ Serve 2 ∷ []

-- The trail of a Signal that is issued after the early events: it completes the calls that wait on Wait, in order, and the
-- Signal last.
pub record ReleasesAll (setup : Setup PulseState) (early late : List (Event ℕ)) (n owner v : ℕ) (d : Deadline) : Type 0 where
  -- the calls that wait, all of them on Wait
  pub calls : List (Call ℕ)
  pub waiting : (state_after pulse_meaning setup early).waiting ≡ calls
  pub on_wait : All (λ x. x.entry ≡ 0) calls
  -- what follows the trail
  pub rest : List (Event ℕ)
  pub trail : late ≡ releases calls ++ rest
  pub over : BeginsAnew rest
  pub ends : newly_ended pulse_meaning setup.max_queue (state_after pulse_meaning setup early) (Issue n owner 1 v d ∷ releases calls)
      ≡ map with_own_value calls ++ with_own_value (issued n owner 1 v d) ∷ []

-- The event serves Wait, and right before it come a Signal and further servings of Wait.
pub record BelongsToSignal (early : List (Event ℕ)) (event : Event ℕ) : Type 0 where
  pub serves : event ≡ Serve 0
  pub before : List (Event ℕ)
  pub number : ℕ
  pub owner : ℕ
  pub value : ℕ
  pub deadline : Deadline
  pub served : ℕ
  pub follows : early ≡ before ++ Issue number owner 1 value deadline ∷ servings 0 served

-- Each Signal releases all, and no Wait completes otherwise, if each call was issued on Wait or Signal: Reset is private.
pub record SignalsRelease (setup : Setup PulseState) (events : List (Event ℕ)) : Type 0 where
  pub all_go : (early late : List (Event ℕ)) (n owner v : ℕ) (d : Deadline)
      → events ≡ early ++ Issue n owner 1 v d ∷ late
      → ReleasesAll setup early late n owner v d
  pub none_other : (early late : List (Event ℕ)) (event : Event ℕ)
      → events ≡ early ++ event ∷ late
      → completed_at pulse_meaning setup.max_queue 0 (state_after pulse_meaning setup early) event ≢ []
      → BelongsToSignal early event

-- The same of the whole history, whatever the service order and the greatest length of a queue.
abbrev pub PulseReleasesAll : Setup PulseState → List (Event ℕ) → Type 0
PulseReleasesAll setup events = AllPublic pulse_declarations events → SignalsRelease setup events
