-- SPDX-License-Identifier: MIT
-- Waiting calls, and how many of them are queued on each entry.
use Rattle.std.specs.Prelude.{ℕ, ◌==◌, nat_le, List, map, Bool, true, false, not, ◌&&◌, count_by, if◌then◌else◌}
use Rattle.po_calls.specs.declared.call.Call.{Call}
use Rattle.po_calls.specs.declared.call.Deadline.{Deadline}
use Rattle.po_calls.specs.declared.call.Deadline.TheVariants.{Never, At}
use Rattle.po_queues.specs.Turns.{below}

-- whether the call is queued on entry e (9.5.3)
abbrev pub is_on : {V : Type 0} → ℕ → Call V → Bool
is_on e x = x.entry == e

-- whether it is the call with number n
abbrev pub has_number : {V : Type 0} → ℕ → Call V → Bool
has_number n x = x.number == n

-- whether this owner made the call
abbrev pub is_of : {V : Type 0} → ℕ → Call V → Bool
is_of owner x = x.owner == owner

-- for each entry, in the order of their numbers, how many of the calls are queued on it: the attribute Count (9.9)
abbrev pub counts_of : {V : Type 0} → ℕ → List (Call V) → List ℕ
counts_of total calls = map (λ e. count_by (is_on e) calls) (below total)

-- whether the expiration time has come (9.7.2)
abbrev pub is_past : ℕ → Deadline → Bool
is_past clock Never = false
is_past clock (At d) = nat_le d clock

-- whether the call is to be cancelled: its time has come, and it isn't queued by a requeue without abort (9.5.4, 9.7.2, 9.7.3)
abbrev pub is_due : {V : Type 0} → ℕ → Call V → Bool
is_due clock x = not x.without_abort && is_past clock x.deadline

-- the call, marked as aborted if it has number n: an attempt was made to cancel it while queued without abort (9.5.3, 9.5.4)
abbrev pub mark : {V : Type 0} → ℕ → Call V → Call V
mark n x = if has_number n x then record x { aborted = true } else x
