-- SPDX-License-Identifier: MIT
-- What happens to the calls of a driven object, in the terms of a step (9.5.2 to 9.5.4).
use Rattle.std.specs.Prelude.{ℕ, List, [], ◌∷◌, ◌++◌, Bool, true, false, Option, Some, None, find, option_map}
use Rattle.std.specs.List.{slice_get}
use Rattle.po_unit.specs.declared.outcome.Outcome.{Outcome}
use Rattle.po_calls.specs.declared.call.Call.{Call}
use Rattle.po_calls.specs.declared.call.Deadline.TheVariants.{At}
use Rattle.po_calls.specs.declared.end.End.{End}
use Rattle.po_calls.specs.declared.end.End.TheVariants.{ProgramError}
use Rattle.po_engine.specs.WaitingCalls.{has_number, is_on}
use Rattle.po_engine.specs.ObjectState.{ObjectState, opening_state}
use Rattle.po_engine.specs.Step.{end_call, enter, conclude, take_out, cancel, attempt_cancel}
use Rattle.po_engine.specs.Driving.{counted, new_call, take_oldest}
use Rattle.po_driven.specs.declared.happening.Happening.{Happening}
use Rattle.po_driven.specs.declared.happening.Happening.TheVariants.{Served, Arrived, Selected, Ended, RequeuedElsewhere, Due, Requeued, Broken, Cancelled, Marked, Finalized}

-- The calls of an object: those that are queued or have ended, the one in service, whose body runs, and those that a body
-- requeued to another object or a task (9.5.4).
pub record Driving : Type 0 where
  pub state : ObjectState ℕ ℕ
  pub serving : Option (Call ℕ)
  pub elsewhere : List (Call ℕ)

-- a newly made object with this number of entries
abbrev pub opening : ℕ → Driving
opening entries = record { state = opening_state entries 1; serving = None; elsewhere = [] }

-- the call that was queued first of all ends by Program_Error (9.4, 9.5.3)
abbrev pub end_oldest : ObjectState ℕ ℕ → Option (Call ℕ) → ObjectState ℕ ℕ
end_oldest s None = s
end_oldest s (Some x) = end_call (take_oldest s) x ProgramError

-- the call in service ends
abbrev pub after_end : Driving → Option (Call ℕ) → End ℕ → Driving
after_end d None end = record d { serving = None }
after_end d (Some x) end = record d { state = end_call d.state x end; serving = None }

-- the call in service leaves the object, to be issued elsewhere: it hasn't ended (9.5.4)
abbrev pub after_leaving : Driving → Option (Call ℕ) → Driving
after_leaving d None = record d { serving = None }
after_leaving d (Some x) = record d { serving = None; elsewhere = d.elsewhere ++ x ∷ [] }

-- the call is due from now on
abbrev pub make_due : Call ℕ → Call ℕ
make_due x = record x { deadline = At 0 }

-- the call in service is requeued within the object
abbrev pub after_requeue : Driving → Option (Call ℕ) → Outcome ℕ → Option ℕ → Driving
after_requeue d None o limit = record d { serving = None }
after_requeue d (Some x) o limit = record d { state = conclude limit d.state x o; serving = None }

-- the calls after one thing has happened
abbrev pub happen : Happening → Driving → Driving
happen (Served a) d = record d { state = counted d.state; serving = Some (new_call d.state.next a) }
happen (Arrived a limit) d = record d { state = enter limit (counted d.state) (new_call d.state.next a); serving = None }
happen (Selected e) d = record d { state = take_out d.state (is_on e); serving = find (is_on e) d.state.waiting }
happen (Ended end) d = after_end d d.serving end
happen RequeuedElsewhere d = after_leaving d d.serving
happen Due d = record d { serving = option_map make_due d.serving }
happen (Requeued o limit) d = after_requeue d d.serving o limit
happen Broken d = record d { state = end_oldest d.state (slice_get d.state.waiting 0); serving = None }
happen (Cancelled n) d = record d { state = cancel d.state n (find (has_number n) d.state.waiting); serving = None }
happen (Marked n) d = record d { state = attempt_cancel d.state n (find (has_number n) d.state.waiting); serving = None }
happen Finalized d = record d { state = record d.state { finalized = true } }

-- whether a call arrives, requeues included
abbrev pub arrives : Happening → Bool
arrives (Served a) = true
arrives (Arrived a limit) = true
arrives (Requeued o limit) = true
arrives other = false

-- the calls after these things have happened, one after the other
abbrev pub replay : Driving → List Happening → Driving
replay d [] = d
replay d (h ∷ hs) = replay (happen h d) hs

-- the cancellation of the call, if there is one
abbrev pub cancellation_of : Option (Call ℕ) → List Happening
cancellation_of None = []
cancellation_of (Some x) = Cancelled x.number ∷ []
