-- SPDX-License-Identifier: MIT
-- The queued keys in order of arrival, and the queue of each entry.
use Rattle.std.specs.Prelude.{ℕ, ◌≡◌, ◌<◌, ◌^◌, ◌==◌, Bool, true, false, not, List, [], ◌∷◌, map, Option, Some, None}
use Rattle.std.specs.Prelude.{if◌then◌else◌}
use Rattle.std.specs.List.{filter, find, All}

-- A key that is queued on an entry, with the stamp of its arrival there (9.5.3).
pub record QueuedKey : Type 0 where
  pub entry : ℕ
  pub key : ℕ
  pub stamp : ℕ

-- What contracts see of queues: the number of entries, how many keys are reserved, and the queued keys in order of arrival.
pub record QueuesView : Type 0 where
  pub total : ℕ
  pub reserved : ℕ
  pub items : List QueuedKey

-- The queue of an entry: the keys queued on it, in order of arrival (9.5.3, FIFO_Queuing of D.4).
abbrev pub queue_of : ℕ → List QueuedKey → List QueuedKey
queue_of e items = filter (λ x. x.entry == e) items

-- The keys, in the same order.
abbrev pub keys_of : List QueuedKey → List ℕ
keys_of items = map (λ x. x.key) items

-- The keys of an entry's queue, in order of arrival (9.5.3, D.4).
abbrev pub keys_on : ℕ → List QueuedKey → List ℕ
keys_on e items = keys_of (queue_of e items)

-- Whether a key is among these.
abbrev pub occurs : ℕ → List ℕ → Bool
occurs k [] = false
occurs k (x ∷ xs) = if x == k then true else occurs k xs

-- Whether a key is queued on some entry.
abbrev pub is_queued : ℕ → List QueuedKey → Bool
is_queued k items = occurs k (keys_of items)

-- How a key is queued, if it is.
abbrev pub item_of : ℕ → List QueuedKey → Option QueuedKey
item_of k items = find (λ x. x.key == k) items

-- The first of these keys.
abbrev pub first_key : List ℕ → Option ℕ
first_key [] = None
first_key (x ∷ xs) = Some x

-- The last of these keys; if there are none, what was before them.
abbrev pub last_key_or : Option ℕ → List ℕ → Option ℕ
last_key_or before [] = before
last_key_or before (x ∷ xs) = last_key_or (Some x) xs

-- The key right after a key.
abbrev pub key_after : ℕ → List ℕ → Option ℕ
key_after k [] = None
key_after k (x ∷ xs) = if x == k then first_key xs else key_after k xs

-- The key right before a key; for the first, what was before them all.
abbrev pub key_before_or : Option ℕ → ℕ → List ℕ → Option ℕ
key_before_or before k [] = None
key_before_or before k (x ∷ xs) = if x == k then before else key_before_or (Some x) k xs

-- The first queued key, with its stamp.
abbrev pub first_of : List QueuedKey → Option (ℕ × ℕ)
first_of [] = None
first_of (x ∷ xs) = Some (x.key, x.stamp)

-- The key right after this one in its queue.
abbrev pub after_item : List QueuedKey → Option QueuedKey → Option ℕ
after_item items None = None
after_item items (Some x) = key_after x.key (keys_on x.entry items)

-- The key right after a key in that key's queue, if the key is queued and isn't the last.
abbrev pub key_after_in_queue : ℕ → List QueuedKey → Option ℕ
key_after_in_queue k items = after_item items (item_of k items)

-- The stamp of this queued key, if there is one.
abbrev pub stamp_of_item : Option QueuedKey → Option ℕ
stamp_of_item None = None
stamp_of_item (Some x) = Some x.stamp

-- The stamp with which a key was queued, if it is queued.
abbrev pub stamp_of : ℕ → List QueuedKey → Option ℕ
stamp_of k items = stamp_of_item (item_of k items)

-- The keys, except this one.
abbrev pub without : ℕ → List ℕ → List ℕ
without j ks = filter (λ k. not (k == j)) ks

-- The queued keys, except this one.
abbrev pub without_key : ℕ → List QueuedKey → List QueuedKey
without_key j items = filter (λ x. not (x.key == j)) items

-- The queued keys, except the one that was taken, if one was.
abbrev pub without_taken : Option ℕ → List QueuedKey → List QueuedKey
without_taken None items = items
without_taken (Some k) items = without_key k items

-- No key is in the list twice.
abbrev pub AreDistinct : List ℕ → Type 0
AreDistinct [] = Unit {0}
AreDistinct (x ∷ xs) = (occurs x xs ≡ false) × AreDistinct xs

-- The stamps of these rise: each is above all before it (9.5.3).
abbrev pub RiseBy : {X : Type 0} → (X → ℕ) → List X → Type 0
RiseBy stamp [] = Unit {0}
RiseBy stamp (x ∷ xs) = All (λ y. stamp x < stamp y) xs × RiseBy stamp xs

-- What all queues keep: each key is queued at most once, on an entry that exists, and stamps rise (9.5.3).
pub record IsSound (queues : QueuesView) : Type 0 where
  pub distinct : AreDistinct (keys_of queues.items)
  pub rising : RiseBy (λ x. x.stamp) queues.items
  pub entries : All (λ x. x.entry < queues.total) queues.items
  pub keys : All (λ x. x.key < queues.reserved) queues.items
  pub few : queues.total < 2 ^ 16

-- Whether there is no key.
abbrev pub is_missing : Option ℕ → Bool
is_missing None = true
is_missing (Some x) = false

-- Whether it is this key.
abbrev pub is_this : Option ℕ → ℕ → Bool
is_this None k = false
is_this (Some x) k = x == k
