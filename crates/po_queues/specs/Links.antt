-- SPDX-License-Identifier: MIT
-- How links, by key, and ends and counts, by entry, hold the queued keys.
use Rattle.std.specs.Prelude.{ℕ, ◌≡◌, ◌<◌, List, length, Option, Some, None, slice_index_or, slice_set, slice_index}
use Rattle.std.specs.List.{All}
use Rattle.po_queues.specs.QueuedKeys.{QueuedKey, keys_of, keys_on, item_of, first_key, last_key_or, key_after}
use Rattle.po_queues.specs.QueuedKeys.{key_before_or, AreDistinct}
use Rattle.po_queues.specs.declared.link.Link.{Link}

-- The link of a queued key, given the keys of its queue.
abbrev pub link_with : List ℕ → QueuedKey → Link
link_with ks x =
    record { entry = x.entry; stamp = x.stamp; before = key_before_or None x.key ks; after = key_after x.key ks }

-- The link of this queued key, if there is one.
abbrev pub link_of_item : List QueuedKey → Option QueuedKey → Option Link
link_of_item items None = None
link_of_item items (Some x) = Some (link_with (keys_on x.entry items) x)

-- The link of a key, if it is queued.
abbrev pub link_of : List QueuedKey → ℕ → Option Link
link_of items k = link_of_item items (item_of k items)

-- The links, the first and last keys and the counts are those of what is queued: an equation for each key and entry.
pub record HoldsQueues (total : ℕ) (links : List (Option Link)) (firsts lasts : List (Option ℕ)) (counts : List ℕ)
    (items : List QueuedKey) : Type 0 where
  pub linked : (k : ℕ) → slice_index_or links k None ≡ link_of items k
  pub first : (e : ℕ) → e < total → slice_index_or firsts e None ≡ first_key (keys_on e items)
  pub last : (e : ℕ) → e < total → slice_index_or lasts e None ≡ last_key_or None (keys_on e items)
  pub count : (e : ℕ) → e < total → slice_index counts e ≡ length (keys_on e items)
  pub distinct : AreDistinct (keys_of items)
  pub entries : All (λ x. x.entry < total) items

-- The link, with this key after it.
abbrev pub put_after : Option ℕ → Option Link → Option Link
put_after a None = None
put_after a (Some l) = Some (record l { after = a })

-- The link, with this key before it.
abbrev pub put_before : Option ℕ → Option Link → Option Link
put_before b None = None
put_before b (Some l) = Some (record l { before = b })

-- The links with another key put after this one, if there is a key.
abbrev pub write_after : List (Option Link) → Option ℕ → Option ℕ → List (Option Link)
write_after links None a = links
write_after links (Some k) a = slice_set links k (put_after a (slice_index_or links k None))

-- The links with another key put before this one, if there is a key.
abbrev pub write_before : List (Option Link) → Option ℕ → Option ℕ → List (Option Link)
write_before links None b = links
write_before links (Some k) b = slice_set links k (put_before b (slice_index_or links k None))
