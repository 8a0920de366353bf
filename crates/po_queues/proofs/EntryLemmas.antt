-- What contracts see of entry queues, and how a change of the queued keys changes it.
use Rattle.std.proofs.Common.{◌≡◌, ℕ, ◌<◌, true, false, List, [], ◌∷◌, ◌++◌, set, length, Option, Some, None, refl}
use Rattle.std.proofs.Common.{sym, ap, ap₂, ◌∙◌, subst, inl, inr, arith, replicate, eqb}
use Rattle.std.specs.Prelude.{option_map, IfSome, IsNone}
use Rattle.std.specs.List.{All}
use Rattle.std.proofs.lemmas.Bool.{cases_Bool, cases_eq, eqb-false, le-leb, ne_eqb}
use Rattle.std.proofs.lemmas.List.{map-append, length-set, get_or-set_same, get_or-set_other}
use Rattle.std.proofs.lemmas.List.Elements.{All-map, All-same, All-push, All-filter}
use Rattle.po_queues.proofs.KeyLemmas.{push_free, occurs_other, taken_free}
use Rattle.po_queues.proofs.HoldLemmas.{keys_of-without, without_none}
use Rattle.po_queues.proofs.RoomLemmas.{read_room}
use Rattle.po_queues.proofs.LineLemmas.{queued_is, keys_are, timed, call_written, with_push, with_without, call_gone}
use Rattle.po_queues.proofs.LineLemmas.{stamp_found, least_found, none_found}
use Rattle.po_queues.specs.QueuedKeys.{QueuedKey, QueuesView, IsSound, RiseBy, AreDistinct, keys_of, keys_on, occurs}
use Rattle.po_queues.specs.QueuedKeys.{first_key, without, without_key}
use Rattle.po_queues.specs.InOrder.{ArrivalsView}
use Rattle.po_queues.specs.Expiring.{ExpirationsView, IsFirstDue, call_of, expiration_of}
use Rattle.po_queues.specs.Arrived.{Arrived, EntryQueuesView, AreInOrder, queued, all_queued, arrived_keys, has_come}
use Rattle.po_queues.specs.Arrived.{first_due, without_arrived}
use Rattle.po_queues.specs.Lines.{with_expirations, HasItsStamp, KeepsLines}
use Rattle.po_queues.specs.declared.expiration.Expiration.{Expiration}

-- What contracts see of entry queues that are kept in these three.
abbrev pub lines_view : ℕ → QueuesView → ExpirationsView → EntryQueuesView
lines_view reserved by_entry expirations = record {
  total = by_entry.total;
  reserved = reserved;
  clock = expirations.clock;
  items = with_expirations expirations.calls by_entry.items;
}

-- Stamps rise with times too.
rising_with : (calls : List (Option Expiration)) (items : List QueuedKey) → RiseBy (λ x. x.stamp) items
    → RiseBy (λ x. x.stamp) (with_expirations calls items)
rising_with calls [] rises = tt
rising_with calls (x ∷ xs) rises = (
  All-map (λ (y : Arrived). x.stamp < y.stamp) _ xs rises.0,
  rising_with calls xs rises.1,
)

-- The calls that expire, with that of a key if it has a time.
abbrev pub calls_with : List (Option Expiration) → QueuedKey → Option ℕ → List (Option Expiration)
calls_with calls x None = calls
calls_with calls x (Some time) = set calls x.key (Some (record { time = time; stamp = x.stamp }))

-- What the calls have once one more key is queued, with its time.
record HasCall (calls : List (Option Expiration)) (items : List QueuedKey) (x : QueuedKey) (time : Option ℕ) : Type 0 where
  items_are : with_expirations (calls_with calls x time) (items ++ x ∷ [])
      ≡ with_expirations calls items ++ timed x time ∷ []
  stamps : All (HasItsStamp (calls_with calls x time)) (items ++ x ∷ [])
  expiring : (k : ℕ) → occurs k (keys_of (items ++ x ∷ [])) ≡ false → call_of (calls_with calls x time) k ≡ None
  as_many : length (calls_with calls x time) ≡ length calls

-- A key that isn't queued gets queued, with its time.
called : (calls : List (Option Expiration)) (items : List QueuedKey) (x : QueuedKey) (time : Option ℕ)
    → x.key < length calls → occurs x.key (keys_of items) ≡ false → All (HasItsStamp calls) items
    → ((k : ℕ) → occurs k (keys_of items) ≡ false → call_of calls k ≡ None) → HasCall calls items x time
called calls items x None within free own none =
    let no_call = none x.key free in
    record {
      items_are = with_push calls items x None (ap (option_map (λ c. c.time)) no_call);
      stamps = All-push (HasItsStamp calls) items x own (subst (λ c. IfSome c (λ y. y.stamp ≡ x.stamp)) (sym no_call) tt);
      expiring = λ k gone. none k (push_free k x.key (keys_of items) (rw map-append at gone)).1;
      as_many = refl;
    }
called calls items x (Some time) within free own none =
    let call : Expiration = record { time = time; stamp = x.stamp } in
    let now = set calls x.key (Some call) in
    let has : call_of now x.key ≡ Some call = get_or-set_same calls x.key (Some call) None within in
    let others = call_written calls x.key (Some call) items free in
    record {
      items_are = with_push now items x (Some time) (ap (option_map (λ c. c.time)) has)
          ∙ ap (λ l. l ++ timed x (Some time) ∷ []) others.0;
      stamps = All-push (HasItsStamp now) items x (others.1 own)
          (subst (λ c. IfSome c (λ y. y.stamp ≡ x.stamp)) (sym has) refl);
      expiring = λ k gone.
          let apart = push_free k x.key (keys_of items) (rw map-append at gone) in
          get_or-set_other calls x.key k (Some call) None (λ e. eqb-false x.key k apart.0 (sym e)) ∙ none k apart.1;
      as_many = length-set calls x.key (Some call);
    }

-- The first key of an entry is queued.
first_queued : (e k : ℕ) (items : List QueuedKey) → first_key (keys_on e items) ≡ Some k
    → occurs k (keys_of items) ≡ true
first_queued e k [] first = let bad : None ≡ Some k = first in absurd (cc)
first_queued e k (x ∷ xs) first = elim (cases_Bool (eqb x.key k)) [
  | inl equal ↦ simp equal refl
  | inr differ ↦ elim (cases_Bool (eqb x.entry e)) [
    | inl on_entry ↦
        let here : Some x.key ≡ Some k = simp on_entry at first in
        let same : x.key ≡ k = cc in
        absurd (eqb-false x.key k differ same)
    | inr elsewhere ↦ simp differ (first_queued e k xs (simp elsewhere at first))
  ]
]

-- Room for more calls changes no time.
room_times : (calls : List (Option Expiration)) (m : ℕ) (items : List QueuedKey)
    → with_expirations (calls ++ replicate m None) items ≡ with_expirations calls items
room_times calls m [] = refl
room_times calls m (x ∷ xs) =
    ap₂ (λ (c : Option Expiration) (l : List Arrived). timed x (option_map (λ y. y.time) c) ∷ l)
    (read_room None calls m x.key) (room_times calls m xs)

-- What contracts see once there is room for more keys.
pub room_view : (reserved reserved' : ℕ) (by_entry by_entry' : QueuesView) (expirations expirations' : ExpirationsView)
    (m : ℕ) → by_entry' ≡ record by_entry { reserved = by_entry'.reserved }
    → expirations' ≡ record expirations { calls = expirations.calls ++ replicate m None }
    → lines_view reserved' by_entry' expirations'
    ≡ (let v = lines_view reserved by_entry expirations in record v { reserved = reserved' })
room_view reserved reserved' by_entry by_entry' expirations expirations' m queues_are calls_are =
    ap (λ (q : QueuesView). lines_view reserved' q expirations') queues_are
    ∙ ap (λ (e : ExpirationsView). lines_view reserved' by_entry e) calls_are
    ∙ ap (λ l. let v = lines_view reserved' by_entry expirations in record v { items = l })
    (room_times expirations.calls m by_entry.items)

-- The entry queues are kept, and contracts see this, once a key is queued with its time.
pub record IsQueuedNow (reserved : ℕ) (by_entry : QueuesView) (arrivals : ArrivalsView) (expirations : ExpirationsView)
    (x : QueuedKey) (time : Option ℕ) (calls : List (Option Expiration)) : Type 0 where
  pub keeps : KeepsLines reserved (record by_entry { items = by_entry.items ++ x ∷ [] })
      (record arrivals { keys = arrivals.keys ++ x.key ∷ [] }) (record expirations { calls = calls })
  pub view :
      lines_view reserved (record by_entry { items = by_entry.items ++ x ∷ [] }) (record expirations { calls = calls })
      ≡ (let v = lines_view reserved by_entry expirations in record v { items = v.items ++ timed x time ∷ [] })

module _ {reserved : ℕ} {by_entry : QueuesView} {arrivals : ArrivalsView} {expirations : ExpirationsView}
    (lines : KeepsLines reserved by_entry arrivals expirations) where
  -- The first key of an entry has arrived.
  pub first_arrived : (e k : ℕ) → first_key (keys_on e by_entry.items) ≡ Some k → occurs k arrivals.keys ≡ true
  first_arrived e k first = ap (occurs k) lines.arrived ∙ first_queued e k by_entry.items first

  -- What is kept once a queued key is taken out.
  pub without_keeps : (k : ℕ)
      → KeepsLines reserved (record by_entry { items = without_key k by_entry.items })
      (record arrivals { keys = without k arrivals.keys })
      (record expirations { calls = set expirations.calls k None })
  without_keeps k =
      let items = by_entry.items in
      let calls = expirations.calls in
      let left = keys_of-without k items in
      let gone = ap (occurs k) left ∙ taken_free k (keys_of items) in
      record {
        arrived = ap (without k) lines.arrived ∙ sym left;
        stamps = (call_written calls k None (without_key k items) gone).1
            (All-filter _ (HasItsStamp calls) items lines.stamps);
        expiring = λ j free. elim (cases_eq j k) [
          | inl equal ↦ subst (λ i. call_of (set calls k None) i ≡ None) (sym equal) (call_gone calls k)
          | inr differ ↦ get_or-set_other calls k j None None differ
              ∙ lines.expiring j (sym (occurs_other j k (keys_of items) (ne_eqb j k differ))
              ∙ sym (ap (occurs j) left) ∙ free)
        ];
        keys = All-filter _ (λ x. x.key < reserved) items lines.keys;
        entry_room = lines.entry_room;
        arrival_room = lines.arrival_room;
        expiration_room = omega (arith, lines.expiration_room, length-set calls k None);
      }

  -- What is kept if a key is taken out that isn't queued.
  pub left_keeps : (k : ℕ) → occurs k (keys_of by_entry.items) ≡ false
      → KeepsLines reserved (record by_entry { items = without_key k by_entry.items }) arrivals expirations
  left_keeps k free = subst (λ l. KeepsLines reserved (record by_entry { items = l }) arrivals expirations)
      (sym (without_none k by_entry.items free)) lines

  module _ {view : EntryQueuesView} (seen : lines_view reserved by_entry expirations ≡ view) where
    -- The keys queued by entry are the items that contracts see.
    pub seen_queued : by_entry.items ≡ all_queued view.items
    seen_queued =
        sym (queued_is expirations.calls by_entry.items) ∙ ap (λ (v : EntryQueuesView). all_queued v.items) seen

    -- The same, for the keys alone.
    pub seen_keys : keys_of by_entry.items ≡ arrived_keys view.items
    seen_keys =
        sym (keys_are expirations.calls by_entry.items) ∙ ap (λ (v : EntryQueuesView). arrived_keys v.items) seen

    -- The arrived keys are the keys that contracts see.
    pub seen_arrived : arrivals.keys ≡ arrived_keys view.items
    seen_arrived = lines.arrived ∙ seen_keys

    -- The first key of an entry.
    pub seen_first : (e : ℕ) → first_key (keys_on e by_entry.items) ≡ first_key (keys_on e (all_queued view.items))
    seen_first e = ap (λ (items : List QueuedKey). first_key (keys_on e items)) seen_queued

    -- The first key whose time has come.
    pub seen_due : IsSound by_entry → (found : Option ℕ) → IfSome found (λ k. IsFirstDue expirations k)
        → (IsNone found → (k : ℕ) → has_come expirations.clock (expiration_of expirations.calls k) ≡ false)
        → found ≡ first_due view
    seen_due sound None _ none = none_found expirations.clock expirations.calls by_entry.items (none refl) ∙ ap first_due seen
    seen_due sound (Some k) first _ =
        let calls = expirations.calls in
        let items = by_entry.items in
        let come : has_come expirations.clock (expiration_of calls k) ≡ true =
        ap (λ c. has_come expirations.clock (option_map (λ (x : Expiration). x.time) c)) first.expires
        ∙ le-leb first.call.time expirations.clock first.has_come in
        let there : occurs k (keys_of items) ≡ true = elim (cases_Bool (occurs k (keys_of items))) [
          | inl has ↦ has
          | inr free ↦ let bad : None ≡ Some first.call = sym (lines.expiring k free) ∙ first.expires in absurd (cc)
        ]
        in
        least_found expirations.clock calls k first.call.stamp items sound.rising lines.stamps come first.first
        (stamp_found calls k first.call items first.expires lines.stamps there)
        ∙ ap first_due seen

    -- If contracts don't see a key as queued, it isn't queued by entry.
    pub seen_free : (k : ℕ) → occurs k (arrived_keys view.items) ≡ false → occurs k (keys_of by_entry.items) ≡ false
    seen_free k free = ap (occurs k) seen_keys ∙ free

    -- If a stamp is above those of all items that contracts see, it is above those of all keys queued by entry.
    pub seen_below : (n : ℕ) → All (λ x. x.stamp < n) view.items → All (λ x. x.stamp < n) by_entry.items
    seen_below n below = All-same (λ (x : QueuedKey). x.stamp < n) _ _ seen_queued
        (All-map (λ (x : QueuedKey). x.stamp < n) queued view.items below)

    -- What is kept and seen once a key is queued that contracts see nowhere.
    pub push_seen : (x : QueuedKey) (time : Option ℕ) (calls : List (Option Expiration)) → x.key < view.reserved
        → occurs x.key (arrived_keys view.items) ≡ false → calls ≡ calls_with expirations.calls x time
        → IsQueuedNow reserved by_entry arrivals expirations x time calls
    push_seen x time calls within free_seen calls_are =
        let items = by_entry.items in
        let here : x.key < reserved = subst (λ n. x.key < n) (ap (λ (v : EntryQueuesView). v.reserved) (sym seen)) within in
        let now = called expirations.calls items x time (omega (arith, here, lines.expiration_room))
        (seen_free x.key free_seen) lines.stamps lines.expiring in
        rw calls_are (record {
          keeps = record {
            arrived = ap (λ l. l ++ x.key ∷ []) lines.arrived ∙ sym (map-append (λ (y : QueuedKey). y.key) items (x ∷ []));
            stamps = now.stamps;
            expiring = now.expiring;
            keys = All-push (λ x. x.key < reserved) items x lines.keys here;
            entry_room = lines.entry_room;
            arrival_room = lines.arrival_room;
            expiration_room = omega (arith, lines.expiration_room, now.as_many);
          };
          view = ap (λ l. let v = lines_view reserved by_entry expirations in record v { items = l }) now.items_are;
        })

  -- What all entry queues keep.
  pub in_order : IsSound by_entry → AreInOrder (lines_view reserved by_entry expirations)
  in_order sound =
      let items = by_entry.items in
      record {
        distinct = subst AreDistinct (sym (keys_are expirations.calls items)) sound.distinct;
        rising = rising_with expirations.calls items sound.rising;
        entries = All-map (λ (x : Arrived). x.entry < by_entry.total) _ items sound.entries;
        keys = All-map (λ (x : Arrived). x.key < reserved) _ items lines.keys;
      }

-- What contracts see once a queued key is taken out, and its call with it.
pub without_view : (reserved : ℕ) (by_entry : QueuesView) (expirations : ExpirationsView) (k : ℕ)
    → lines_view reserved (record by_entry { items = without_key k by_entry.items })
    (record expirations { calls = set expirations.calls k None }) ≡
    (let v = lines_view reserved by_entry expirations in record v { items = without_arrived k v.items })
without_view reserved by_entry expirations k =
    let items = by_entry.items in
    let gone = ap (occurs k) (keys_of-without k items) ∙ taken_free k (keys_of items) in
    ap (λ l. let v = lines_view reserved by_entry expirations in record v { items = l })
    ((call_written expirations.calls k None (without_key k items) gone).0 ∙ with_without k expirations.calls items)

-- The same if the key wasn't queued.
pub left_view : (reserved : ℕ) (by_entry : QueuesView) (expirations : ExpirationsView) (k : ℕ)
    → lines_view reserved (record by_entry { items = without_key k by_entry.items }) expirations ≡
    (let v = lines_view reserved by_entry expirations in record v { items = without_arrived k v.items })
left_view reserved by_entry expirations k =
    ap (λ l. let v = lines_view reserved by_entry expirations in record v { items = l })
    (with_without k expirations.calls by_entry.items)
