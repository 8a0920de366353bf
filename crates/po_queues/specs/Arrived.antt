-- SPDX-License-Identifier: MIT
-- The keys queued on the entries of an object, in order of arrival, with the times at which their calls expire.
use Rattle.std.specs.Prelude.{ℕ, ◌<◌, ◌==◌, nat_le, Bool, false, not, List, map, Option, Some, None, option_map}
use Rattle.std.specs.List.{filter, find, All}
use Rattle.po_queues.specs.QueuedKeys.{QueuedKey, AreDistinct, RiseBy}

-- A key that is queued on an entry, with the stamp of its arrival there, and the time at which its call expires, if it does
-- (9.5.3, 9.7.2).
pub record Arrived : Type 0 where
  pub entry : ℕ
  pub key : ℕ
  pub stamp : ℕ
  pub expires : Option ℕ

-- What contracts see of entry queues: the number of entries, how many keys are reserved, the clock, and the queued keys in
-- order of arrival.
pub record EntryQueuesView : Type 0 where
  pub total : ℕ
  pub reserved : ℕ
  pub clock : ℕ
  pub items : List Arrived

-- The same, without the expiration time.
abbrev pub queued : Arrived → QueuedKey
queued x = record { entry = x.entry; key = x.key; stamp = x.stamp }

-- The queued keys, without expiration times.
abbrev pub all_queued : List Arrived → List QueuedKey
all_queued items = map queued items

-- The keys, in order of arrival.
abbrev pub arrived_keys : List Arrived → List ℕ
arrived_keys items = map (λ x. x.key) items

-- Whether a time has come, if there is one (9.7.2).
abbrev pub has_come : ℕ → Option ℕ → Bool
has_come clock None = false
has_come clock (Some time) = nat_le time clock

-- The first key whose time has come, in order of arrival (9.7.2).
abbrev pub first_due : EntryQueuesView → Option ℕ
first_due view = option_map (λ x. x.key) (find (λ x. has_come view.clock x.expires) view.items)

-- The queued keys, except this one.
abbrev pub without_arrived : ℕ → List Arrived → List Arrived
without_arrived k items = filter (λ x. not (x.key == k)) items

-- What all entry queues keep: each key is queued at most once, on an entry that exists, and stamps rise (9.5.3).
pub record AreInOrder (view : EntryQueuesView) : Type 0 where
  pub distinct : AreDistinct (arrived_keys view.items)
  pub rising : RiseBy (λ x. x.stamp) view.items
  pub entries : All (λ x. x.entry < view.total) view.items
  pub keys : All (λ x. x.key < view.reserved) view.items
