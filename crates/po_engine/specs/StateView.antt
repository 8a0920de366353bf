-- SPDX-License-Identifier: MIT
-- What contracts see of a state (this project's own).
use Rattle.std.specs.Prelude.{ℕ, ◌≡◌, ◌<◌, ◌≤◌, List, Option, Some, Bool, find, option_map}
use Rattle.std.specs.List.{All}
use Rattle.po_unit.specs.Meaning.{Meaning}
use Rattle.po_unit.specs.declared.outcome.Outcome.{Outcome}
use Rattle.po_unit.specs.declared.outcome.Outcome.TheVariants.{Complete, Raise, Requeue}
use Rattle.po_calls.specs.declared.call.Call.{Call}
use Rattle.po_history.specs.declared.event.Event.{Event}
use Rattle.po_history.specs.declared.event.Event.TheVariants.{Expire}
use Rattle.po_engine.specs.WaitingCalls.{is_due}
use Rattle.po_engine.specs.ObjectState.{ObjectState}
use Rattle.po_engine.specs.Calls.{CallsView}

-- What contracts see of a state: the object's state, and besides it the places at which its calls arrived, the call in service,
-- its tickets, how many calls there is room for, and how many had ended before the command.
pub record StateView (S V : Type 0) : Type 0 where
  pub state : ObjectState S V
  -- for each waiting call, the place in the history at which it arrived
  pub places : List ℕ
  -- the call that is being served: it isn't queued, and hasn't ended
  pub serving : Option (Call V)
  -- by key, the number of the uncollected call whose ticket has that key
  pub tickets : List (Option ℕ)
  -- the key of each call's ticket, by the call's number minus the first one: known to proofs alone
  pub keys : List ℕ
  pub first : ℕ
  -- how many calls may be uncollected with the memory taken so far, and whether that never changes
  pub capacity : ℕ
  pub is_fixed : Bool
  -- how many calls had ended before the command began
  pub before : ℕ

-- A requeue names an entry that exists.
abbrev pub NamesEntry : {V : Type 0} → ℕ → Outcome V → Type 0
NamesEntry total (Complete v) = Unit {0}
NamesEntry total (Raise k) = Unit {0}
NamesEntry total (Requeue target with_abort v) = target < total

module _ {S V : Type 0} where
  -- the state of an object with this data and these calls
  abbrev pub state_with_calls : S → CallsView V → Bool → ObjectState S V
  state_with_calls u calls finalized = record { unit = u; waiting = calls.waiting; ended = calls.ended; next = calls.next; clock = calls.clock; finalized = finalized }

  -- Each of the calls may be requeued 255 times at most: a rank is a byte (this project's own).
  abbrev pub AreLow : Meaning S V → List (Call V) → Type 0
  AreLow m calls = All (λ x. m.rank x.entry x.value ≤ 255) calls

  -- The event is no expiration, or it is the expiration of the first call that is due.
  abbrev pub IsFirstDue : ObjectState S V → Event V → Type 0
  IsFirstDue s (Expire n) = option_map (λ x. x.number) (find (is_due s.clock) s.waiting) ≡ Some n
  IsFirstDue s other = Unit {0}
