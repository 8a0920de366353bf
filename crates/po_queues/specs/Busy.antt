-- SPDX-License-Identifier: MIT
-- Which entries have a queued key, and the bits that say so.
use Rattle.std.specs.Prelude.{ℕ, ◌≡◌, ◌<◌, ◌≤◌, ◌*◌, ◌/◌, ◌%◌, Bool, true, false, List, [], ◌∷◌, length, slice_index_or}
use Rattle.std.specs.Prelude.{nat_lt, Option, Some, None}
use Rattle.std.specs.Int.{bit_at}
use Rattle.po_queues.specs.QueuedKeys.{QueuedKey, QueuesView, queue_of, keys_on}

-- The entry is the first one from here on that has a queued key.
pub record IsNextBusy (queues : QueuesView) (from entry : ℕ) : Type 0 where
  pub from_here : from ≤ entry
  pub within : entry < queues.total
  pub busy : 0 < length (queue_of entry queues.items)
  pub idle_before : (e : ℕ) → from ≤ e → e < entry → queue_of e queues.items ≡ []

-- The bit of an entry. Each word has the bits of 64 entries.
abbrev pub bit_of : List ℕ → ℕ → ℕ
bit_of words e = bit_at (slice_index_or words (e / 64) 0) (e % 64)

-- The bit for true or false.
abbrev pub bit_when : Bool → ℕ
bit_when true = 1
bit_when false = 0

-- The entry is the first one from here on whose bit is set.
pub record IsNextBit (words : List ℕ) (from entry : ℕ) : Type 0 where
  pub from_here : from ≤ entry
  pub is_set : bit_of words entry ≡ 1
  pub clear_before : (e : ℕ) → from ≤ e → e < entry → bit_of words e ≡ 0

-- The words, if there are any.
abbrev pub words_in : Option (List ℕ) → List ℕ
words_in None = []
words_in (Some words) = words

-- A bit for each word says whether one of the word's own bits is set, and there are enough words of such bits.
pub record SumsUp (words sums : List ℕ) : Type 0 where
  pub marks : (w : ℕ) → bit_of sums w ≡ bit_when (nat_lt 0 (slice_index_or words w 0))
  pub enough : length words ≤ 64 * length sums
  pub few : length sums ≤ 1024

-- Whether there is a key.
abbrev pub has_keys : List ℕ → Bool
has_keys [] = false
has_keys (x ∷ xs) = true

-- The bits of all entries say which have a queued key, and there are enough words for them.
pub record MarksBusy (total : ℕ) (words : List ℕ) (items : List QueuedKey) : Type 0 where
  pub marks : (e : ℕ) → bit_of words e ≡ bit_when (has_keys (keys_on e items))
  pub enough : total ≤ 64 * length words
  pub few : length words ≤ 1024
