-- SPDX-License-Identifier: MIT
-- The queued keys in order of arrival, read off the links.
use Rattle.std.specs.Prelude.{ℕ, ◌≡◌, ◌+◌, ◌<◌, ◌^◌, nat_lt, List, [], ◌∷◌, length, Option, Some, None, if◌then◌else◌}
use Rattle.po_queues.specs.QueuedKeys.{QueuedKey, RiseBy}
use Rattle.po_queues.specs.Links.{HoldsQueues}
use Rattle.po_queues.specs.Busy.{MarksBusy}
use Rattle.po_queues.specs.declared.link.Link.{Link}

-- The queued keys with one more, put in by its stamp.
abbrev pub insert_item : QueuedKey → List QueuedKey → List QueuedKey
insert_item x [] = x ∷ []
insert_item x (y ∷ ys) = if nat_lt x.stamp y.stamp then x ∷ y ∷ ys else y ∷ insert_item x ys

-- The keys queued by these links, in order of rising stamps. The first link is that of key k.
abbrev pub arrivals_from : ℕ → List (Option Link) → List QueuedKey
arrivals_from k [] = []
arrivals_from k (None ∷ links) = arrivals_from (k + 1) links
arrivals_from k (Some l ∷ links) =
    insert_item (record { entry = l.entry; key = k; stamp = l.stamp }) (arrivals_from (k + 1) links)

-- The keys queued by these links, in order of arrival.
abbrev pub arrivals : List (Option Link) → List QueuedKey
arrivals links = arrivals_from 0 links

-- The links, ends, counts, bits and the number of queued keys fit together.
pub record KeepsQueues (links : List (Option Link)) (firsts lasts : List (Option ℕ)) (counts words : List ℕ)
    (queued : ℕ) : Type 0 where
  pub holds : HoldsQueues (length counts) links firsts lasts counts (arrivals links)
  pub rising : RiseBy (λ x. x.stamp) (arrivals links)
  pub firsts_len : length firsts ≡ length counts
  pub lasts_len : length lasts ≡ length counts
  pub few : length counts < 2 ^ 16
  pub busy : MarksBusy (length counts) words (arrivals links)
  pub queued_len : queued ≡ length (arrivals links)
