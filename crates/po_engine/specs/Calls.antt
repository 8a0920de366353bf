-- SPDX-License-Identifier: MIT
-- How the calls of an object are kept: in a table, on queues of its keys, and in a list of the ended ones.
use Rattle.std.specs.Prelude.{ℕ, ◌≡◌, ◌<◌, ◌≤◌, ◌+◌, ◌-◌, ◌++◌, nat_lt, Bool, true, false, List, [], ◌∷◌, length, Option, Some, None, option_map, vec_len, vec_capacity, Vec, if◌then◌else◌, find, count_by}
use Rattle.std.specs.List.{slice_get, filter_map, All}
use Rattle.slab.specs.Slab.{Slab, get, slab_len}
use Rattle.po_queues.specs.QueuedKeys.{occurs}
use Rattle.po_queues.specs.Arrived.{Arrived, EntryQueuesView, arrived_keys}
use Rattle.po_calls.specs.declared.call.Call.{Call}
use Rattle.po_calls.specs.declared.call.Deadline.{Deadline}
use Rattle.po_calls.specs.declared.call.Deadline.TheVariants.{Never, At}
use Rattle.po_calls.specs.declared.kept.Kept.{Kept}
use Rattle.po_calls.specs.Calls.{CallTable, waiting_call, IsAbove}
use Rattle.po_engine.specs.declared.ended.Ended.{Ended}
use Rattle.po_engine.specs.WaitingCalls.{has_number}
use Rattle.po_engine.specs.Finding.{IsFound}
use Rattle.po_engine.specs.Ending.{has_ended}
use Rattle.po_engine.specs.Tickets.{number_at}

-- What contracts see of the calls.
pub record CallsView (V : Type 0) : Type 0 where
  -- the queued calls of all entries, in order of arrival
  pub waiting : List (Call V)
  -- for each of them, the place in the history at which it arrived
  pub places : List ℕ
  -- the call that is being served: it isn't queued, and hasn't ended
  pub serving : Option (Call V)
  -- the calls that have ended, in the order in which they ended: known to proofs alone
  pub ended : List (Ended V)
  -- how many of them had ended before the command began
  pub ended_before : ℕ
  -- by key, the number of the uncollected call whose ticket has that key
  pub tickets : List (Option ℕ)
  -- the key of each call's ticket, by the call's number minus the first one: known to proofs alone
  pub keys : List ℕ
  pub first : ℕ
  pub next : ℕ
  pub total : ℕ
  pub clock : ℕ
  -- how many calls may be uncollected with the memory taken so far
  pub capacity : ℕ
  -- whether that never changes
  pub is_fixed : Bool

-- the time of a deadline, if it has one (9.7.2)
abbrev pub time_of : Deadline → Option ℕ
time_of Never = None
time_of (At time) = Some time

-- the time at which a call expires, if it does: one that is queued by a requeue without abort doesn't (9.5.4, 9.7.2)
abbrev pub expires_at : {V : Type 0} → Call V → Option ℕ
expires_at x = if x.without_abort then None else time_of x.deadline

-- the places, in the same order as the calls, without that of the first call that passes the test
abbrev pub places_without : {V : Type 0} → (Call V → Bool) → List (Call V) → List ℕ → List ℕ
places_without test [] places = places
places_without test (x ∷ xs) [] = []
places_without test (x ∷ xs) (k ∷ places) = if test x then places else k ∷ places_without test xs places

-- the key that a call's number leads to, given the number of the first call and the key of each call
abbrev pub key_of : ℕ → List ℕ → ℕ → Option ℕ
key_of first keys n = if nat_lt n first then None else slice_get keys (n - first)

-- how many calls are in service
abbrev pub calls_in_service : Option ℕ → ℕ
calls_in_service None = 0
calls_in_service (Some k) = 1

module _ {V : Type 0} where
  -- the waiting call that has this key
  abbrev pub call_at : Slab (Kept V) → ℕ → Option (Call V)
  call_at calls k = waiting_call (get calls k)

  -- the calls of the queued keys
  abbrev pub waiting_in : (ℕ → Option (Call V)) → List Arrived → List (Call V)
  waiting_in call items = filter_map (λ i. call i.key) items

  -- the call of a key, if there is a key
  abbrev pub of_key : (ℕ → Option (Call V)) → Option ℕ → Option (Call V)
  of_key call None = None
  of_key call (Some k) = call k

  -- The call is queued as its fields say: on its entry, and to expire at its time. And its number leads to the key.
  pub record IsQueuedAs (index : ℕ → Option ℕ) (i : Arrived) (x : Call V) : Type 0 where
    pub entry : x.entry ≡ i.entry
    pub expires : expires_at x ≡ i.expires
    pub indexed : index x.number ≡ Some i.key

  -- Each queued key has a waiting call that is queued as it says.
  abbrev pub AllQueued : (ℕ → Option (Call V)) → (ℕ → Option ℕ) → List Arrived → Type 0
  AllQueued call index [] = Unit {0}
  AllQueued call index (i ∷ is) = IsFound (IsQueuedAs index i) (call i.key) × AllQueued call index is

  -- The call in service waits, and isn't queued.
  abbrev pub IsInService : (ℕ → Option (Call V)) → (ℕ → Option ℕ) → ℕ → List Arrived → Option ℕ → Type 0
  IsInService call index reserved items None = Unit {0}
  IsInService call index reserved items (Some k) = (k < reserved) × (occurs k (arrived_keys items) ≡ false) × IsFound (λ x. index x.number ≡ Some k) (call k)

  -- The number leads to this key. The key is queued, and its call has the number.
  pub record IsKeyOf (call : ℕ → Option (Call V)) (index : ℕ → Option ℕ) (items : List Arrived) (n k : ℕ) : Type 0 where
    pub indexed : index n ≡ Some k
    pub is_queued : occurs k (arrived_keys items) ≡ true
    pub its : IsFound (λ x. x.number ≡ n) (call k)

  -- The queued calls are the waiting calls without the one in service.
  pub record IsQueued (call : ℕ → Option (Call V)) (index : ℕ → Option ℕ) (queues : EntryQueuesView) (serving : Option ℕ) : Type 0 where
    pub queued : AllQueued call index queues.items
    pub in_service : IsInService call index queues.reserved queues.items serving
    pub only : (k : ℕ) (x : Call V) → call k ≡ Some x → occurs k (arrived_keys queues.items) ≡ false → serving ≡ Some k

  -- What holds of each call in the table: its number leads to its key, and its end is the one that it ended with.
  pub record IsKeptWell (calls : Slab (Kept V)) (index : ℕ → Option ℕ) (ended : List (Ended V)) : Type 0 where
    pub indexed : (key : ℕ) (k : Kept V) → get calls key ≡ Some k → index k.call.number ≡ Some key
    pub ends : (key : ℕ) (k : Kept V) → get calls key ≡ Some k → k.end ≡ option_map (λ x. x.end) (find (has_ended k.call.number) ended)

  -- Each key that the table may give can be queued: always if the memory is fixed, otherwise if there is room for one more call.
  abbrev pub AreReserved : Bool → Slab (Kept V) → ℕ → ℕ → Type 0
  AreReserved true calls reserved most = calls.capacity ≤ reserved
  AreReserved false calls reserved most = slab_len calls < most → calls.capacity ≤ reserved

  -- What always holds of the calls. The keys by number and the list of all that have ended are known to proofs alone.
  pub record KeepsCalls {B : Type 0} (table : CallTable V) (queues : EntryQueuesView) (keys : List ℕ) (ended before : List (Ended V)) (now : Vec (Ended V) B) (first next : ℕ) (serving : Option ℕ) (most : ℕ) (is_fixed : Bool) : Type 0 where
    pub queued : IsQueued (call_at table.calls) (key_of first keys) queues serving
    pub kept : IsKeptWell table.calls (key_of first keys) ended
    pub last : IsAbove table.last next
    pub numbers : next ≡ first + length keys
    pub ended_before : All (λ x. x.number < next) ended
    pub each : length ended + length queues.items + calls_in_service serving ≡ length keys
    pub shown : ended ≡ before ++ now.items
    -- there is room for each call that may be uncollected: in the table, on the queues, and in the list of those just ended
    pub few : slab_len table.calls ≤ most
    pub room : most ≤ table.calls.capacity
    pub reserved : AreReserved is_fixed table.calls queues.reserved most
    pub for_ended : vec_len now + length queues.items + calls_in_service serving ≤ vec_capacity now
    pub for_all : most ≤ vec_capacity now

-- What contracts may use of all calls: no two waiting ones have the same number, each number is below the next one, and each
-- waiting call has its place.
pub record AreCallsSound {V : Type 0} (calls : CallsView V) : Type 0 where
  pub once : (n : ℕ) → count_by (has_number n) calls.waiting ≤ 1
  pub below_next : All (λ x. x.number < calls.next) calls.waiting
  pub placed : length calls.places ≡ length calls.waiting
  pub few : length calls.waiting < 18_446_744_073_709_551_616

-- The number leads to the key of its ticket, which is live.
pub record HasTicket (first : ℕ) (keys : List ℕ) (tickets : List (Option ℕ)) (n : ℕ) : Type 0 where
  pub key : ℕ
  pub indexed : key_of first keys n ≡ Some key
  pub ticket : number_at tickets key ≡ Some n
