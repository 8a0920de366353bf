-- SPDX-License-Identifier: MIT
-- In which place each call of a driven object is (this project's own).
use Rattle.std.specs.Prelude.{ℕ, ◌≡◌, ◌≤◌, ◌+◌, List, Bool, Option, Some, None, count_by, length, nat_le, nat_lt, ◌&&◌, if◌then◌else◌}
use Rattle.po_calls.specs.declared.call.Call.{Call}
use Rattle.po_calls.specs.declared.end.End.TheVariants.{Completed}
use Rattle.po_engine.specs.WaitingCalls.{has_number}
use Rattle.po_engine.specs.Ending.{ended_as, has_ended}
use Rattle.po_engine.specs.Tickets.{uncollected}
use Rattle.po_engine.specs.declared.ended.Ended.{Ended}
use Rattle.po_engine.specs.ObjectState.{ObjectState}
use Rattle.po_engine.specs.StateView.{StateView}
use Rattle.po_driven.specs.Happening.{Driving}

-- how often the number is that of the call in service
abbrev pub times_in_service : ℕ → Option (Call ℕ) → ℕ
times_in_service n None = 0
times_in_service n (Some x) = if has_number n x then 1 else 0

-- in how many places the number is: among the queued calls, in service, among the ended ones, among those that went elsewhere
abbrev pub places_with : ℕ → Driving → ℕ
places_with n d = count_by (has_number n) d.state.waiting + times_in_service n d.serving + count_by (has_ended n) d.state.ended + count_by (has_number n) d.elsewhere

-- Each call that was accepted is in exactly one place: it is queued, its body runs, it has ended, or a body requeued it to
-- another object or a task. No other number is anywhere.
pub record IsInOnePlace (d : Driving) : Type 0 where
  pub low : 1 ≤ d.state.next
  pub each : (n : ℕ) → places_with n d ≡ (if nat_le 1 n && nat_lt n d.state.next then 1 else 0)

-- The calls that have left the engine are the ended ones and those that were requeued elsewhere, which it counts as completed.
abbrev pub HaveLeft : List (Ended ℕ) → List (Ended ℕ) → List (Call ℕ) → Type 0
HaveLeft left ended elsewhere = (p : Ended ℕ → Bool) → count_by p left ≡ count_by p ended + count_by (λ x. p (ended_as (Completed x.value) x)) elsewhere

-- These calls are those of the engine: the same are queued and in service, with the same numbers, and as many have left.
pub record IsLedTo (d : Driving) (o : StateView ℕ ℕ) : Type 0 where
  pub state : o.state ≡ record d.state { ended = o.state.ended }
  pub serving : o.serving ≡ d.serving
  pub left : HaveLeft o.state.ended d.state.ended d.elsewhere

-- how often the number is among the queued calls, in service, and among those that have left the engine
abbrev pub times_in : ℕ → ObjectState ℕ ℕ → Option (Call ℕ) → ℕ
times_in n s serving = count_by (has_number n) s.waiting + times_in_service n serving + count_by (has_ended n) s.ended

-- Each call that was accepted is there once: it is queued, in service, or has left the engine. No other number is there.
pub record IsThereOnce (o : StateView ℕ ℕ) : Type 0 where
  pub low : 1 ≤ o.state.next
  pub each : (n : ℕ) → times_in n o.state o.serving ≡ (if nat_le 1 n && nat_lt n o.state.next then 1 else 0)

-- how many calls are in service
abbrev pub calls_in_service : Option (Call ℕ) → ℕ
calls_in_service None = 0
calls_in_service (Some x) = 1

-- Each queued call has a ticket, and so has the one in service; no other call has one.
abbrev pub HasTickets : StateView ℕ ℕ → Type 0
HasTickets o = uncollected o.tickets ≡ length o.state.waiting + calls_in_service o.serving
