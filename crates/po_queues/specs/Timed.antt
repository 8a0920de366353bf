-- SPDX-License-Identifier: MIT
-- How two rows of numbers by key hold the calls that expire (this project's own).
use Rattle.std.specs.Prelude.{ℕ, ◌≡◌, ◌<◌, ◌≤◌, ◌⊎◌, List, length, Option, Some, None, IfSome}
use Rattle.po_queues.specs.Expiring.{call_of}
use Rattle.po_queues.specs.Least.{number_of}
use Rattle.po_queues.specs.declared.expiration.Expiration.{Expiration}

-- A call that expires has its time in the first row or, once that has come, its stamp in the second. Any other call is in
-- neither (this project's own).
abbrev pub IsPlaced : ℕ → Option Expiration → Option ℕ → Option ℕ → Type 0
IsPlaced clock None later due = (later ≡ None) × (due ≡ None)
IsPlaced clock (Some x) later due =
    ((later ≡ Some x.time) × (due ≡ None)) ⊎ ((later ≡ None) × (due ≡ Some x.stamp) × (x.time ≤ clock))

-- The call of each key is placed so, and each reserved key has room in both rows (this project's own).
pub record HoldsExpirations (calls : List (Option Expiration)) (later due : List (Option ℕ)) (clock : ℕ) : Type 0 where
  pub placed : (k : ℕ) → IsPlaced clock (call_of calls k) (number_of later k) (number_of due k)
  pub later_room : length calls ≤ length later
  pub due_room : length calls ≤ length due

-- The calls are held so, and no time of the first row has come (this project's own).
pub record KeepsExpirations (calls : List (Option Expiration)) (later due : List (Option ℕ)) (clock : ℕ) : Type 0 where
  pub holds : HoldsExpirations calls later due clock
  pub ahead : (k : ℕ) → IfSome (number_of later k) (λ time. clock < time)
