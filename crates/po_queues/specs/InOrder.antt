-- SPDX-License-Identifier: MIT
-- How keys in order of arrival are held by their neighbours (this project's own).
use Rattle.std.specs.Prelude.{ℕ, zero, suc, ◌≡◌, ◌<◌, List, [], ◌∷◌, length, Option, Some, None, slice_index_or, slice_set}
use Rattle.std.specs.List.{All}
use Rattle.po_queues.specs.QueuedKeys.{first_key, last_key_or, key_after, key_before_or, AreDistinct}
use Rattle.po_queues.specs.declared.neighbours.Neighbours.{Neighbours}

-- What contracts see of arrivals: how many keys are reserved, and the keys in order (this project's own).
pub record ArrivalsView : Type 0 where
  pub reserved : ℕ
  pub keys : List ℕ

-- No key before, and none after (this project's own).
abbrev pub alone : Neighbours
alone = record { before = None; after = None }

-- The neighbours of a key in this list, if it is in it (this project's own).
abbrev pub neighbours_of : ℕ → List ℕ → Neighbours
neighbours_of k keys = record { before = key_before_or None k keys; after = key_after k keys }

-- The keys from this one on, each followed by its neighbour, up to a given number of keys (this project's own).
abbrev pub keys_from : ℕ → List Neighbours → Option ℕ → List ℕ
keys_from zero neighbours first = []
keys_from (suc n) neighbours None = []
keys_from (suc n) neighbours (Some k) = k ∷ keys_from n neighbours (slice_index_or neighbours k alone).after

-- All keys in order, beginning with this one (this project's own).
abbrev pub keys_in_order : List Neighbours → Option ℕ → List ℕ
keys_in_order neighbours first = keys_from (length neighbours) neighbours first

-- The neighbours, the first and the last key are those of these keys (this project's own).
pub record HoldsOrder (neighbours : List Neighbours) (first last : Option ℕ) (keys : List ℕ) : Type 0 where
  pub each : (k : ℕ) → slice_index_or neighbours k alone ≡ neighbours_of k keys
  pub first_is : first ≡ first_key keys
  pub last_is : last ≡ last_key_or None keys
  pub distinct : AreDistinct keys
  pub reserved : All (λ k. k < length neighbours) keys

-- An end of the order once two keys were made neighbours: if there is no key on that side, the other key is the end; otherwise
-- the end stays (this project's own).
abbrev pub either_end : Option ℕ → Option ℕ → Option ℕ → Option ℕ
either_end None new end = new
either_end (Some k) new end = end

-- The neighbours, with this one put after a key, if there is a key (this project's own).
abbrev pub with_after : List Neighbours → Option ℕ → Option ℕ → List Neighbours
with_after neighbours None after = neighbours
with_after neighbours (Some k) after =
    slice_set neighbours k (record (slice_index_or neighbours k alone) { after = after })

-- The neighbours, with this one put before a key, if there is a key (this project's own).
abbrev pub with_before : List Neighbours → Option ℕ → Option ℕ → List Neighbours
with_before neighbours None before = neighbours
with_before neighbours (Some k) before =
    slice_set neighbours k (record (slice_index_or neighbours k alone) { before = before })
