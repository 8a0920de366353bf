-- SPDX-License-Identifier: MIT
-- The trails of commands whose inner events are all servings: what the laws of pulse and meeting speak of.
use Rattle.std.specs.Prelude.{ℕ, zero, suc, ◌≡◌, List, [], ◌∷◌, Bool, true, false}
use Rattle.po_calls.specs.declared.call.Call.{Call}
use Rattle.po_calls.specs.declared.call.Deadline.{Deadline}
use Rattle.po_engine.specs.declared.ended.Ended.{Ended}
use Rattle.po_calls.specs.declared.end.End.TheVariants.{Completed}
use Rattle.po_history.specs.declared.event.Event.{Event}
use Rattle.po_history.specs.declared.event.Event.TheVariants.{Serve, Break, Expire}
use Rattle.po_engine.specs.Ending.{ended_as}

-- whether the event is an inner one (9.5.3)
abbrev pub is_inner : {V : Type 0} → Event V → Bool
is_inner (Serve e) = true
is_inner (Break e) = true
is_inner (Expire n) = true
is_inner other = false

-- The trail before these events is over: another command begins, or nothing follows.
abbrev pub BeginsAnew : {V : Type 0} → List (Event V) → Type 0
BeginsAnew [] = Unit {0}
BeginsAnew (event ∷ events) = is_inner event ≡ false

-- k servings of the entry, for the number k
abbrev pub servings : {V : Type 0} → ℕ → ℕ → List (Event V)
servings e zero = []
servings e (suc k) = Serve e ∷ servings e k

-- the call that is issued with these
abbrev pub issued : {V : Type 0} → ℕ → ℕ → ℕ → V → Deadline → Call V
issued n owner e v d = record { number = n; owner = owner; entry = e; value = v; without_abort = false; aborted = false; deadline = d }

-- the call, completed with its own value
abbrev pub with_own_value : {V : Type 0} → Call V → Ended V
with_own_value x = ended_as (Completed x.value) x
