-- SPDX-License-Identifier: MIT
-- How entry queues are kept: by entry, in order of arrival, and by the times at which calls expire.
use Rattle.std.specs.Prelude.{ℕ, ◌≡◌, ◌≤◌, ◌<◌, false, List, map, length, Option, None, IfSome}
use Rattle.std.specs.List.{All}
use Rattle.po_queues.specs.QueuedKeys.{QueuedKey, QueuesView, keys_of, is_queued}
use Rattle.po_queues.specs.InOrder.{ArrivalsView}
use Rattle.po_queues.specs.Expiring.{ExpirationsView, call_of, expiration_of}
use Rattle.po_queues.specs.Arrived.{Arrived}
use Rattle.po_queues.specs.declared.expiration.Expiration.{Expiration}

-- The queued keys, with the times at which their calls expire.
abbrev pub with_expirations : List (Option Expiration) → List QueuedKey → List Arrived
with_expirations calls items =
    map (λ x. record { entry = x.entry; key = x.key; stamp = x.stamp; expires = expiration_of calls x.key }) items

-- If the call of this key expires, it has the key's stamp.
abbrev pub HasItsStamp : List (Option Expiration) → QueuedKey → Type 0
HasItsStamp calls x = IfSome (call_of calls x.key) (λ call. call.stamp ≡ x.stamp)

-- The arrivals are the keys queued on the entries, in the same order. Each call that may expire is queued, and has its key's
-- stamp. All queued keys are reserved, and each of the three lists has room for each reserved key.
pub record KeepsLines (reserved : ℕ) (by_entry : QueuesView) (arrivals : ArrivalsView) (expirations : ExpirationsView)
    : Type 0 where
  pub arrived : arrivals.keys ≡ keys_of by_entry.items
  pub stamps : All (HasItsStamp expirations.calls) by_entry.items
  pub expiring : (k : ℕ) → is_queued k by_entry.items ≡ false → call_of expirations.calls k ≡ None
  pub keys : All (λ x. x.key < reserved) by_entry.items
  pub entry_room : reserved ≤ by_entry.reserved
  pub arrival_room : reserved ≤ arrivals.reserved
  pub expiration_room : reserved ≤ length expirations.calls
