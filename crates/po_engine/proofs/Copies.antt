-- SPDX-License-Identifier: MIT
-- What contracts see of a copy of the calls.
use Rattle.std.proofs.Common.{◌≡◌, ℕ, Bool, List, length, map, Option, refl}
use Rattle.po_queues.specs.Arrived.{EntryQueuesView}
use Rattle.po_calls.specs.Calls.{CallTable, numbers_of}
use Rattle.po_engine.specs.declared.ended.Ended.{Ended}
use Rattle.po_engine.specs.Calls.{CallsView, call_at, waiting_in, of_key}

module _ {V : Type 0} (first next : ℕ) (serving : Option ℕ) (most : ℕ) (fixed : Bool) where
  -- what contracts see of calls that are kept so
  abbrev pub seen_of : CallTable V → EntryQueuesView → List ℕ → List (Ended V) → List (Ended V) → CallsView V
  seen_of table queues keys ended before = record {
    waiting = waiting_in (call_at table.calls) queues.items;
    places = map (λ i. i.stamp) queues.items;
    serving = of_key (call_at table.calls) serving;
    ended = ended;
    ended_before = length before;
    tickets = numbers_of table;
    keys = keys;
    first = first;
    next = next;
    total = queues.total;
    clock = queues.clock;
    capacity = most;
    is_fixed = fixed;
  }

  -- they see no room
  pub same_seen : (table now seen : CallTable V) (queues copy later shown : EntryQueuesView) (keys keys' : List ℕ) (ended ended' before before' : List (Ended V))
      → seen ≡ now → now ≡ record table { calls = record table.calls { capacity = now.calls.capacity } }
      → shown ≡ later → later ≡ record copy { reserved = later.reserved } → copy ≡ queues
      → keys' ≡ keys → ended' ≡ ended → before' ≡ before → seen_of seen shown keys' ended' before' ≡ seen_of table queues keys ended before
  same_seen table now seen queues copy later shown keys keys' ended ended' before before' its_view its_table its_view' its_room its_queues its_keys its_ended its_before =
      rw (its_view, its_table, its_view', its_room, its_queues, its_keys, its_ended, its_before) refl
