-- The changes that leave most parts of the kept calls as they are.
use Rattle.std.proofs.Common.{◌≡◌, ℕ, ◌+◌, ◌<◌, ◌≤◌, Bool, true, false, List, [], ◌++◌, length, Option, Some, None, sym, ap, ap₂, ◌∙◌, subst, arith, inl, inr, Vec, vec_len, vec_capacity}
use Rattle.std.specs.Prelude.{OnSome}
use Rattle.std.specs.List.{All}
use Rattle.std.proofs.lemmas.Bool.{cases_lt}
use Rattle.std.proofs.lemmas.List.Elements.{All-nil}
use Rattle.slab.specs.Slab.{Slab, get, slab_len, Updates}
use Rattle.po_queues.specs.QueuedKeys.{occurs}
use Rattle.po_queues.specs.Arrived.{Arrived, EntryQueuesView, AreInOrder, arrived_keys, without_arrived}
use Rattle.po_calls.specs.declared.call.Call.{Call}
use Rattle.po_calls.specs.declared.end.End.{End}
use Rattle.po_calls.specs.declared.kept.Kept.{Kept}
use Rattle.po_calls.specs.declared.ticket.Ticket.{Ticket}
use Rattle.po_calls.specs.Calls.{CallTable, IsAbove, waiting_call, kept, end_of, numbers_of}
use Rattle.po_engine.specs.declared.ended.Ended.{Ended}
use Rattle.po_engine.specs.Tickets.{SetsTicket}
use Rattle.po_engine.specs.Calls.{KeepsCalls, AreReserved, IsQueued, AllQueued, waiting_in, of_key, key_of, call_at, calls_in_service}
use Rattle.po_engine.proofs.CallPlaces.{leaves}
use Rattle.po_engine.proofs.KeptSteps.{ticket_set}
use Rattle.po_engine.proofs.Held.{length_removed}
use Rattle.po_engine.proofs.ServiceSteps.{removed, widened}

-- How many calls there is room for after one is collected.
pub record IsLeft (most len capacity reserved left : ℕ) : Type 0 where
  pub all : capacity ≤ reserved → left ≡ most
  pub none : reserved < capacity → left ≡ len

pub left_between : (most len capacity reserved left : ℕ) → len + 1 ≤ most → IsLeft most len capacity reserved left → (len ≤ left) × (left ≤ most)
left_between most len capacity reserved left few is = elim (cases_lt reserved capacity) [
  | inl lt ↦ (omega (arith, is.none lt), omega (arith, few, is.none lt))
  | inr le ↦ (omega (arith, few, is.all le), omega (arith, is.all le))
]

-- A number that is above the last one stays so if it grows.
pub above_next : (last : Option ℕ) (n : ℕ) → IsAbove last n → IsAbove last (n + 1)
above_next None n h = h
above_next (Some k) n h = omega (arith, h)

module _ {V : Type 0} where
  -- The key of a call that there is room for can be queued.
  pub key_reserved : (fixed : Bool) (calls : Slab (Kept V)) (reserved most key : ℕ) → key < calls.capacity → slab_len calls < most
      → AreReserved fixed calls reserved most → key < reserved
  key_reserved true calls reserved most key low few h = omega (arith, low, h)
  key_reserved false calls reserved most key low few h = omega (arith, low, h few)

  -- If there is room for one more call, each key that the table may give can be queued.
  pub all_reserved : (fixed : Bool) (calls : Slab (Kept V)) (reserved most : ℕ) → slab_len calls < most → AreReserved fixed calls reserved most
      → calls.capacity ≤ reserved
  all_reserved true calls reserved most few h = h
  all_reserved false calls reserved most few h = h few

  -- No memory is lost as long as no call is collected.
  pub reserved_kept : (fixed : Bool) (old new : Slab (Kept V)) (reserved most : ℕ) → slab_len old ≤ slab_len new → new.capacity ≡ old.capacity
      → AreReserved fixed old reserved most → AreReserved fixed new reserved most
  reserved_kept true old new reserved most len capacity h = omega (arith, capacity, h)
  reserved_kept false old new reserved most len capacity h = λ lt. omega (arith, capacity, h (omega (arith, len, lt)))

  -- After one call is collected there is room for as many as before, if all keys can be queued.
  pub reserved_given : (fixed : Bool) (old new : Slab (Kept V)) (reserved most left : ℕ) → new.capacity ≡ old.capacity
      → IsLeft most (slab_len new) new.capacity reserved left → AreReserved fixed old reserved most → AreReserved fixed new reserved left
  reserved_given true old new reserved most left capacity is h = omega (arith, capacity, h)
  reserved_given false old new reserved most left capacity is h = λ lt. elim (cases_lt reserved new.capacity) [
    | inl less ↦ absurd (omega (arith, lt, is.none less))
    | inr le ↦ le
  ]

  -- A queued key is taken into service.
  pub taken_in_service : {B : Type 0} (table : CallTable V) (queues : EntryQueuesView) (keys : List ℕ) (ended before : List (Ended V)) (now : Vec (Ended V) B)
      (first next : ℕ) (serving : Option ℕ) (most : ℕ) (fixed : Bool) (k : ℕ) → AreInOrder queues → occurs k (arrived_keys queues.items) ≡ true → serving ≡ None
      → KeepsCalls table queues keys ended before now first next serving most fixed
      → KeepsCalls table (record queues { items = without_arrived k queues.items }) keys ended before now first next (Some k) most fixed
  taken_in_service table queues keys ended before now first next serving most fixed k order has none i = record {
    queued = removed (call_at table.calls) (key_of first keys) queues k order has (subst (IsQueued (call_at table.calls) (key_of first keys) queues) none i.queued);
    kept = i.kept;
    last = i.last;
    numbers = i.numbers;
    ended_before = i.ended_before;
    each = omega (arith, i.each, ap calls_in_service none, length_removed k queues.items order.distinct has);
    shown = i.shown;
    few = i.few;
    room = i.room;
    reserved = i.reserved;
    for_ended = omega (arith, i.for_ended, ap calls_in_service none, length_removed k queues.items order.distinct has);
    for_all = i.for_all;
  }

  -- What a collection leaves: the calls are kept, and those that wait are the same.
  pub record Collected {B : Type 0} (table new : CallTable V) (queues : EntryQueuesView) (keys : List ℕ) (ended before : List (Ended V)) (now : Vec (Ended V) B)
      (first next : ℕ) (serving : Option ℕ) (left : ℕ) (fixed : Bool) : Type 0 where
    pub keeps : KeepsCalls new queues keys ended before now first next serving left fixed
    pub waiting : waiting_in (call_at new.calls) queues.items ≡ waiting_in (call_at table.calls) queues.items
    pub in_service : of_key (call_at new.calls) serving ≡ of_key (call_at table.calls) serving

  -- The end of a call is taken, and its ticket with it.
  pub collected : {B : Type 0} (table new : CallTable V) (queues : EntryQueuesView) (keys : List ℕ) (ended before : List (Ended V)) (now : Vec (Ended V) B)
      (first next : ℕ) (serving : Option ℕ) (most left : ℕ) (fixed : Bool) (ticket : Ticket) (end : End V) → Some end ≡ end_of (kept table ticket)
      → Updates table.calls new.calls ticket.key None → slab_len new.calls + 1 ≡ slab_len table.calls
      → new.calls.capacity ≡ table.calls.capacity → new.last ≡ table.last → IsLeft most (slab_len new.calls) new.calls.capacity queues.reserved left
      → KeepsCalls table queues keys ended before now first next serving most fixed
      → Collected table new queues keys ended before now first next serving left fixed
  collected table new queues keys ended before now first next serving most left fixed ticket end is u len capacity last given i =
      let l = leaves table new.calls (key_of first keys) queues serving ended ticket end (sym is) u i.queued i.kept in
      let between = left_between most (slab_len new.calls) new.calls.capacity queues.reserved left (omega (arith, i.few, len)) given in
      record {
        keeps = record {
          queued = l.queued;
          kept = l.kept;
          last = subst (λ m. IsAbove m next) (sym last) i.last;
          numbers = i.numbers;
          ended_before = i.ended_before;
          each = i.each;
          shown = i.shown;
          few = between.0;
          room = omega (arith, i.room, capacity, between.1);
          reserved = reserved_given fixed table.calls new.calls queues.reserved most left capacity given i.reserved;
          for_ended = i.for_ended;
          for_all = omega (arith, i.for_all, between.1);
        };
        waiting = l.waiting;
        in_service = l.in_service;
      }

  -- If an end is taken, only its ticket changes.
  pub ticket_taken : (table new : CallTable V) (key : ℕ) (result : Option (End V)) → OnSome result (Updates table.calls new.calls key None)
      → OnSome result (SetsTicket (numbers_of table) (numbers_of new) key None)
  ticket_taken table new key None u = tt
  ticket_taken table new key (Some end) u = ticket_set table new key None u

  no_call : (calls : Slab (Kept V)) → ((k : ℕ) → get calls k ≡ None) → (k : ℕ) (x : Call V) → call_at calls k ≡ Some x → ⊥
  no_call calls vacant k x at = let bad : None ≡ Some x = sym (ap waiting_call (vacant k)) ∙ at in absurd (cc)

  none_kept : (calls : Slab (Kept V)) → ((k : ℕ) → get calls k ≡ None) → (k : ℕ) (x : Kept V) → get calls k ≡ Some x → ⊥
  none_kept calls vacant k x at = let bad : None ≡ Some x = sym (vacant k) ∙ at in absurd (cc)

  -- No calls, with memory for some.
  pub begun : {B : Type 0} (table : CallTable V) (queues : EntryQueuesView) (keys : List ℕ) (ended before : List (Ended V)) (now : Vec (Ended V) B) (first most : ℕ) (fixed : Bool)
      → ((k : ℕ) → get table.calls k ≡ None) → slab_len table.calls ≡ 0 → most ≤ table.calls.capacity → table.last ≡ None
      → queues.items ≡ [] → AreReserved fixed table.calls queues.reserved most
      → keys ≡ [] → ended ≡ [] → before ≡ [] → now.items ≡ [] → vec_len now ≡ 0 → most ≤ vec_capacity now
      → KeepsCalls table queues keys ended before now first first None most fixed
  begun table queues keys ended before now first most fixed vacant len room last items reserved no_keys none none_before none_now now_len capacity = record {
    queued = record {
      queued = subst (AllQueued (call_at table.calls) (key_of first keys)) (sym items) tt;
      in_service = tt;
      only = λ k x at free. absurd (no_call table.calls vacant k x at);
    };
    kept = record { indexed = λ k x at. absurd (none_kept table.calls vacant k x at); ends = λ k x at. absurd (none_kept table.calls vacant k x at) };
    last = subst (λ m. IsAbove m first) (sym last) tt;
    numbers = omega (arith, ap (λ (l : List ℕ). length l) no_keys);
    ended_before = subst (All (λ x. x.number < first)) (sym none) (All-nil (λ (x : Ended V). x.number < first));
    each = omega (arith, ap (λ (l : List ℕ). length l) no_keys, ap (λ (l : List (Ended V)). length l) none, ap (λ (l : List Arrived). length l) items);
    shown = none ∙ sym (ap₂ (λ a b. a ++ b) none_before none_now);
    few = omega (arith, len);
    room = room;
    reserved = reserved;
    for_ended = omega (arith, now_len, ap (λ (l : List Arrived). length l) items);
    for_all = capacity;
  }

  -- As much room or more changes nothing of what is kept.
  pub with_room : {B : Type 0} (table : CallTable V) (queues : EntryQueuesView) (keys : List ℕ) (ended before : List (Ended V)) (now wider : Vec (Ended V) B) (first next : ℕ) (serving : Option ℕ)
      (most more : ℕ) (fixed : Bool) (capacity reserved : ℕ) → most ≤ more → more ≤ capacity → queues.reserved ≤ reserved
      → AreReserved fixed (record table.calls { capacity = capacity }) reserved more → wider.items ≡ now.items → vec_len wider ≡ vec_len now
      → vec_capacity now ≤ vec_capacity wider → more ≤ vec_capacity wider
      → KeepsCalls table queues keys ended before now first next serving most fixed
      → KeepsCalls (record table { calls = record table.calls { capacity = capacity } }) (record queues { reserved = reserved }) keys ended before wider first next serving more fixed
  with_room table queues keys ended before now wider first next serving most more fixed capacity reserved le room grows all items len now_grows for_all i = record {
    queued = widened (call_at table.calls) (key_of first keys) (key_of first keys) queues reserved serving grows (λ n k h. h) i.queued;
    kept = record { indexed = i.kept.indexed; ends = i.kept.ends };
    last = i.last;
    numbers = i.numbers;
    ended_before = i.ended_before;
    each = i.each;
    shown = i.shown ∙ ap (λ l. before ++ l) (sym items);
    few = omega (arith, i.few, le);
    room = room;
    reserved = all;
    for_ended = omega (arith, i.for_ended, len, now_grows);
    for_all = for_all;
  }

  -- More room changes nothing of what is kept.
  pub with_more_room : {B : Type 0} (table : CallTable V) (queues : EntryQueuesView) (keys : List ℕ) (ended before : List (Ended V)) (now wider : Vec (Ended V) B) (first next : ℕ) (serving : Option ℕ)
      (most more : ℕ) (fixed : Bool) (capacity reserved : ℕ) → fixed ≡ false → most ≤ more → more ≤ capacity → queues.reserved ≤ reserved
      → AreReserved false (record table.calls { capacity = capacity }) reserved more → wider.items ≡ now.items → vec_len wider ≡ vec_len now
      → vec_capacity now ≤ vec_capacity wider → more ≤ vec_capacity wider
      → KeepsCalls table queues keys ended before now first next serving most fixed
      → KeepsCalls (record table { calls = record table.calls { capacity = capacity } }) (record queues { reserved = reserved }) keys ended before wider first next serving more fixed
  with_more_room table queues keys ended before now wider first next serving most more fixed capacity reserved not_fixed le room grows all items len now_grows for_all i =
      with_room table queues keys ended before now wider first next serving most more fixed capacity reserved le room grows
      (subst (λ b. AreReserved b (record table.calls { capacity = capacity }) reserved more) (sym not_fixed) all) items len now_grows for_all i

  -- If all keys that the table may give are reserved, each can be queued.
  pub reserved_below : (fixed : Bool) (calls : Slab (Kept V)) (reserved most : ℕ) → calls.capacity ≤ reserved → AreReserved fixed calls reserved most
  reserved_below true calls reserved most h = h
  reserved_below false calls reserved most h = λ lt. h

  -- If there is no room for a further call, a larger table and more reserved keys make none.
  pub none_reserved : (calls : Slab (Kept V)) (fixed : Bool) (capacity reserved more most : ℕ) → fixed ≡ false → most ≤ slab_len calls → AreReserved fixed calls reserved most
      → AreReserved false (record calls { capacity = capacity }) more most
  none_reserved calls fixed capacity reserved more most not_fixed full h = λ lt. absurd (omega (arith, full, lt))
