-- SPDX-License-Identifier: MIT
-- The waiting calls that may be cancelled when their time comes, and the clock (9.7.2).
use Rattle.std.specs.Prelude.{ℕ, ◌≡◌, ◌≤◌, List, Option, Some, None, option_map, slice_index_or, IfSome}
use Rattle.po_queues.specs.declared.expiration.Expiration.{Expiration}

-- What contracts see of expirations: the clock, and for each reserved key how its call expires, if it does (9.7.2).
pub record ExpirationsView : Type 0 where
  pub clock : ℕ
  pub calls : List (Option Expiration)

-- How the call of a key expires, if it does (9.7.2).
abbrev pub call_of : List (Option Expiration) → ℕ → Option Expiration
call_of calls key = slice_index_or calls key None

-- The time at which the call of a key expires, if it does (9.7.2).
abbrev pub expiration_of : List (Option Expiration) → ℕ → Option ℕ
expiration_of calls key = option_map (λ x. x.time) (call_of calls key)

-- The time of the key's call has come, and of the calls whose time has come none arrived before it (9.7.2, 9.5.3).
pub record IsFirstDue (view : ExpirationsView) (key : ℕ) : Type 0 where
  pub call : Expiration
  pub expires : call_of view.calls key ≡ Some call
  pub has_come : call.time ≤ view.clock
  pub first : (k : ℕ) → IfSome (call_of view.calls k) (λ other. other.time ≤ view.clock → call.stamp ≤ other.stamp)
