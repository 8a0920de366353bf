-- How a change of the links changes the queued keys.
use Rattle.std.proofs.Common.{◌≡◌, ℕ, ◌+◌, ◌-◌, ◌^◌, ◌<◌, ◌≤◌, Bool, true, false, cond, eqb, ltb}
use Rattle.std.proofs.Common.{List, [], ◌∷◌, ◌++◌, length, get_or, set, Option, Some, None, refl, sym, ap}
use Rattle.std.proofs.Common.{◌∙◌, inl, inr, arith, length-append}
use Rattle.std.specs.List.{All}
use Rattle.std.proofs.lemmas.Bool.{cases_Bool, cases_lt, eq-eqb, false≢true}
use Rattle.std.proofs.lemmas.List.{length-set, get_or_past, length-map}
use Rattle.std.proofs.lemmas.List.Elements.{All-nil, All-cons}
use Rattle.po_queues.proofs.KeyLemmas.{length_without}
use Rattle.po_queues.proofs.ItemLemmas.{link_at_end, link_of_found, item_has, keys_distinct, keys_without}
use Rattle.po_queues.proofs.HoldLemmas.{push_holds, removed, some_link, item_entry, no_link, keys_of-without}
use Rattle.po_queues.proofs.HoldLemmas.{first_some}
use Rattle.po_queues.proofs.ArrivalLemmas.{unique, rising_push, rising_without}
use Rattle.po_queues.proofs.BusyLemmas.{WritesBit, marks_push, marks_without}
use Rattle.po_queues.specs.QueuedKeys.{QueuedKey, QueuesView, IsSound, queue_of, first_of, keys_of, keys_on, item_of}
use Rattle.po_queues.specs.QueuedKeys.{without_key, occurs, AreDistinct, RiseBy, is_this, is_missing}
use Rattle.po_queues.specs.Links.{HoldsQueues, link_with, link_of, write_after, write_before, put_after}
use Rattle.po_queues.specs.Links.{put_before}
use Rattle.po_queues.specs.Busy.{MarksBusy, bit_when}
use Rattle.po_queues.specs.Arrivals.{arrivals, KeepsQueues}
use Rattle.po_queues.specs.declared.link.Link.{Link}

-- what contracts see of links and counts
abbrev pub view_of : List (Option Link) → List ℕ → QueuesView
view_of links counts = record { total = length counts; reserved = length links; items = arrivals links }

-- if queues hold these keys, they are kept, and contracts see these keys
pub packed : (links : List (Option Link)) (firsts lasts : List (Option ℕ)) (counts words : List ℕ) (queued : ℕ)
    (items : List QueuedKey)
    → HoldsQueues (length counts) links firsts lasts counts items → RiseBy (λ x. x.stamp) items → length firsts ≡ length counts
    → length lasts ≡ length counts → length counts < 2 ^ 16 → MarksBusy (length counts) words items
    → queued ≡ length items → (arrivals links ≡ items) × KeepsQueues links firsts lasts counts words queued
packed links firsts lasts counts words queued items h r firsts_len lasts_len few busy queued_is =
    let u = unique (length counts) links firsts lasts counts items h r in (
      u,
      record {
        holds = rw u h;
        rising = rw u r;
        firsts_len = firsts_len;
        lasts_len = lasts_len;
        few = few;
        busy = rw u busy;
        queued_len = rw u queued_is;
      },
    )

-- the number of links stays
length_after : (links : List (Option Link)) (p a : Option ℕ) → length (write_after links p a) ≡ length links
length_after links None a = refl
length_after links (Some k) a = length-set links k (put_after a (get_or links k None))

-- the number of links stays
length_before : (links : List (Option Link)) (p a : Option ℕ) → length (write_before links p a) ≡ length links
length_before links None a = refl
length_before links (Some k) a = length-set links k (put_before a (get_or links k None))

-- the number of ends stays
length_cond : (b : Bool) (xs : List (Option ℕ)) (i : ℕ) (v : Option ℕ) → length (cond b (set xs i v) xs) ≡ length xs
length_cond true xs i v = length-set xs i v
length_cond false xs i v = refl

-- contracts see no change except in the queued keys
viewed : (links links' : List (Option Link)) (counts counts' : List ℕ) (items : List QueuedKey)
    → length counts' ≡ length counts → length links' ≡ length links → arrivals links' ≡ items
    → view_of links' counts' ≡ (let v = view_of links counts in record v { items = items })
viewed links links' counts counts' items counts_len links_len items_are =
    let view : ℕ → ℕ → List QueuedKey → QueuesView =
    λ total reserved items. record { total = total; reserved = reserved; items = items } in
    ap (λ n. view n (length links') (arrivals links')) counts_len
    ∙ ap (λ n. view (length counts) n (arrivals links')) links_len
    ∙ ap (view (length counts) (length links)) items_are

-- if each queued key is below a bound, all are
keys_below : (n : ℕ) (items : List QueuedKey) → ((k : ℕ) → occurs k (keys_of items) ≡ true → k < n)
    → All (λ x. x.key < n) items
keys_below n [] below = All-nil (λ x. x.key < n)
keys_below n (x ∷ xs) below =
    All-cons (λ x. x.key < n) x xs (below x.key (simp (eq-eqb x.key x.key refl) refl))
    (keys_below n xs (λ k has. below k
    (elim (cases_Bool (eqb x.key k)) [ inl equal ↦ simp equal refl | inr differ ↦ simp differ has ])))

-- these queues are kept and these keys are queued, after a change from other links and counts
pub record IsNow (links : List (Option Link)) (counts : List ℕ) (links' : List (Option Link))
    (firsts' lasts' : List (Option ℕ)) (counts' words' : List ℕ) (queued' : ℕ) (items : List QueuedKey) : Type 0 where
  pub view : view_of links' counts' ≡ (let v = view_of links counts in record v { items = items })
  pub keeps : KeepsQueues links' firsts' lasts' counts' words' queued'

-- once a key is taken out, there is one key fewer
length-without_key : (j : ℕ) (items : List QueuedKey) → AreDistinct (keys_of items) → occurs j (keys_of items) ≡ true
    → length (without_key j items) + 1 ≡ length items
length-without_key j items d has =
    let all = length-map items (λ (x : QueuedKey). x.key) in
    let left = length-map (without_key j items) (λ (x : QueuedKey). x.key) in
    let same = ap length (keys_of-without j items) in
    omega (arith, all, left, same, length_without j (keys_of items) d has)

-- what is known about a key that has a link
pub record HasLink (links : List (Option Link)) (counts : List ℕ) (queued key : ℕ) (link : Link) : Type 0 where
  pub read : get_or links key None ≡ Some link
  pub entry : link.entry < length counts
  pub is_queued : occurs key (keys_of (arrivals links)) ≡ true
  pub is_counted : 1 ≤ get_or counts link.entry 0
  pub is_one_of_all : 1 ≤ queued

module _ {links : List (Option Link)} {firsts lasts : List (Option ℕ)} {counts words : List ℕ} {queued : ℕ}
    (q : KeepsQueues links firsts lasts counts words queued) where
  -- a key is queued at the end
  push_is : (x : QueuedKey) → x.entry < length counts → x.key < length links
      → occurs x.key (keys_of (arrivals links)) ≡ false
      → All (λ y. y.stamp < x.stamp) (arrivals links)
      → (last : Option ℕ) → last ≡ get_or lasts x.entry None
      → (n : ℕ) → n ≡ get_or counts x.entry 0
      → (links' : List (Option Link)) (firsts' : List (Option ℕ)) (words' : List ℕ)
      → links' ≡ write_after (set links x.key (Some (link_at_end x last))) last (Some x.key)
      → firsts' ≡ cond (is_missing last) (set firsts x.entry (Some x.key)) firsts
      → WritesBit words words' x.entry 1
      → IsNow links counts links' firsts' (set lasts x.entry (Some x.key)) (set counts x.entry (n + 1)) words'
      (queued + 1) (arrivals links ++ x ∷ [])
  push_is x entry key free rises last last_is n n_is links' firsts' words' links_are firsts_are writes =
      let items = arrivals links in
      let counts' = set counts x.entry (n + 1) in
      let lasts' = set lasts x.entry (Some x.key) in
      let counts_len = length-set counts x.entry (n + 1) in
      let h = push_holds (length counts) links firsts lasts counts items q.holds x entry (omega (arith, q.firsts_len))
      (omega (arith, q.lasts_len)) entry key free firsts' (rw last_is at firsts_are) in
      let h' : HoldsQueues (length counts') links' firsts' lasts' counts' (items ++ x ∷ []) =
      rw (counts_len, links_are, last_is, n_is) h in
      let p = packed links' firsts' lasts' counts' words' (queued + 1) (items ++ x ∷ []) h'
      (rising_push items x q.rising rises)
      (rw (firsts_are, counts_len) (length_cond (is_missing last) firsts x.entry (Some x.key) ∙ q.firsts_len))
      (length-set lasts x.entry (Some x.key) ∙ q.lasts_len ∙ sym counts_len) (rw counts_len q.few)
      (rw counts_len (marks_push (length counts) words words' items x q.busy writes))
      (omega (arith, q.queued_len, length-append items (x ∷ []))) in
      record {
        view = viewed links links' counts counts' (items ++ x ∷ []) counts_len
            (ap length links_are ∙ length_after _ last (Some x.key) ∙ length-set links x.key _) p.0;
        keeps = p.1;
      }

  -- the same, given the index of the entry
  pub push_at : (x : QueuedKey) (index : ℕ) → index ≡ x.entry → x.entry < length counts → x.key < length links
      → occurs x.key (keys_of (arrivals links)) ≡ false
      → All (λ y. y.stamp < x.stamp) (arrivals links)
      → (last : Option ℕ) → last ≡ get_or lasts index None
      → (n : ℕ) → n ≡ get_or counts index 0
      → (links' : List (Option Link)) (firsts' : List (Option ℕ)) (words' : List ℕ)
      → links' ≡ write_after (set links x.key (Some (link_at_end x last))) last (Some x.key)
      → firsts' ≡ cond (is_missing last) (set firsts index (Some x.key)) firsts
      → WritesBit words words' x.entry 1
      → IsNow links counts links' firsts' (set lasts index (Some x.key)) (set counts index (n + 1)) words'
      (queued + 1) (arrivals links ++ x ∷ [])
  push_at x index here entry key free rises last last_is n n_is links' firsts' words' links_are firsts_are writes =
      rw here (push_is x entry key free rises last (rw here at last_is) n (rw here at n_is) links' firsts' words'
      links_are (rw here at firsts_are) writes)

  -- a key is taken out
  remove_is : (j : ℕ) (l : Link) → get_or links j None ≡ Some l
      → (n : ℕ) → n ≡ get_or counts l.entry 0
      → (links' : List (Option Link)) (firsts' lasts' : List (Option ℕ)) (words' : List ℕ)
      → links' ≡ write_before (write_after (set links j None) l.before l.after) l.after l.before
      → firsts' ≡ cond (is_this (get_or firsts l.entry None) j) (set firsts l.entry l.after) firsts
      → lasts' ≡ cond (is_this (get_or lasts l.entry None) j) (set lasts l.entry l.before) lasts
      → WritesBit words words' l.entry (bit_when (ltb 0 (n - 1)))
      → IsNow links counts links' firsts' lasts' (set counts l.entry (n - 1)) words' (queued - 1)
      (without_key j (arrivals links))
  remove_is j l read n n_is links' firsts' lasts' words' links_are firsts_are lasts_are writes =
      let items = arrivals links in
      let counts' = set counts l.entry (n - 1) in
      let counts_len = length-set counts l.entry (n - 1) in
      let r = removed (length counts) links firsts lasts counts items q.holds j l read refl q.firsts_len q.lasts_len in
      let h' : HoldsQueues (length counts') links' firsts' lasts' counts' (without_key j items) =
      rw (counts_len, links_are, firsts_are, lasts_are, n_is) r.3 in
      let w = some_link j items l (sym (q.holds.linked j) ∙ read) in
      let here : l.entry ≡ w.0.entry = ap (λ (l : Link). l.entry) w.2 in
      let has = item_has j items w.0 w.1 in
      let count : n - 1 ≡ length (keys_on w.0.entry (without_key j items)) = omega (
        arith,
        n_is,
        q.holds.count l.entry r.0,
        ap (λ e. length (keys_on e items)) here,
        ap length
            (keys_without w.0.entry j items),
        length_without j (keys_on w.0.entry items)
            (keys_distinct w.0.entry items q.holds.distinct) has.1,
      ) in
      let busy = marks_without (length counts) words words' items j w.0 (n - 1) q.busy q.holds.distinct w.1 count
      (rw here at writes) in
      let p = packed links' firsts' lasts' counts' words' (queued - 1) (without_key j items) h'
      (rising_without j items q.rising)
      (rw (firsts_are, counts_len) (length_cond _ firsts l.entry l.after ∙ q.firsts_len))
      (rw (lasts_are, counts_len) (length_cond _ lasts l.entry l.before ∙ q.lasts_len)) (rw counts_len q.few)
      (rw counts_len busy) (omega (arith, q.queued_len, length-without_key j items q.holds.distinct has.2)) in
      record {
        view = viewed links links' counts counts' (without_key j items) counts_len
            (ap length links_are ∙ length_before _ l.after l.before ∙ length_after _ l.before l.after
            ∙ length-set links j None) p.0;
        keeps = p.1;
      }

  -- the same, given the index of the entry
  pub remove_at : (j : ℕ) (l : Link) (index : ℕ) → index ≡ l.entry → get_or links j None ≡ Some l
      → (n : ℕ) → n ≡ get_or counts index 0
      → (links' : List (Option Link)) (firsts' lasts' : List (Option ℕ)) (words' : List ℕ)
      → links' ≡ write_before (write_after (set links j None) l.before l.after) l.after l.before
      → firsts' ≡ cond (is_this (get_or firsts index None) j) (set firsts index l.after) firsts
      → lasts' ≡ cond (is_this (get_or lasts index None) j) (set lasts index l.before) lasts
      → WritesBit words words' l.entry (bit_when (ltb 0 (n - 1)))
      → IsNow links counts links' firsts' lasts' (set counts index (n - 1)) words' (queued - 1)
      (without_key j (arrivals links))
  remove_at j l index here read n n_is links' firsts' lasts' words' links_are firsts_are lasts_are writes =
      rw here (remove_is j l read n (rw here at n_is) links' firsts' lasts' words' links_are (rw here at firsts_are)
      (rw here at lasts_are) writes)

  -- a key with a link, as contracts see it
  pub has_link : {v : QueuesView} → view_of links counts ≡ v → (j : ℕ) (l : Link) → Some l ≡ link_of v.items j
      → HasLink links counts queued j l
  has_link {v} seen j l some =
      let items = arrivals links in
      let here : link_of items j ≡ Some l = ap (λ (v : QueuesView). link_of v.items j) seen ∙ sym some in
      let read = q.holds.linked j ∙ here in
      let w = some_link j items l here in
      let y = w.0 in
      let has = item_has j items y w.1 in
      let entry = item_entry j (length counts) items y w.1 q.holds.entries in
      let counted = length_without j (keys_on y.entry items) (keys_distinct y.entry items q.holds.distinct) has.1 in
      record {
        read = read;
        entry = rw w.2 entry;
        is_queued = has.2;
        is_counted = rw w.2 (omega (arith, q.holds.count y.entry entry, counted));
        is_one_of_all = omega (arith, q.queued_len, length-without_key j items q.holds.distinct has.2);
      }

  -- the first key of an entry has the link of the first queued item
  pub first_link : {v : QueuesView} → view_of links counts ≡ v
      → (e index : ℕ) → index ≡ e → e < v.total
      → (k : ℕ) → get_or firsts index None ≡ Some k
      → (x : QueuedKey) × (first_of (queue_of e v.items) ≡ Some (k, x.stamp)) ×
      (link_of v.items k ≡ Some (link_with (keys_on x.entry v.items) x))
  first_link {v} seen e index here entry k some =
      let entry' : e < length counts = omega (arith, entry, ap (λ (v : QueuesView). v.total) seen) in
      let f = first_some e k (arrivals links) q.holds.distinct (sym (q.holds.first e entry') ∙ rw here at some) in
      let back = ap (λ (v : QueuesView). v.items) (sym seen) in (
        f.0,
        ap (λ items. first_of (queue_of e items)) back
            ∙ f.1,
        link_of_found k v.items f.0 (ap (item_of k) back ∙ f.2),
      )

  -- a queued key is reserved
  queued_within : (k : ℕ) → occurs k (keys_of (arrivals links)) ≡ true → k < length links
  queued_within k has = elim (cases_lt k (length links)) [
    | inl lt ↦ lt
    | inr ge ↦
        let none = no_link k (arrivals links) (sym (q.holds.linked k) ∙ get_or_past links k None ge) in
        absurd (false≢true (sym none.0 ∙ has))
  ]

  -- what all queues keep
  pub sound : IsSound (view_of links counts)
  sound = record {
    distinct = q.holds.distinct;
    rising = q.rising;
    entries = q.holds.entries;
    keys = keys_below (length links) (arrivals links) queued_within;
    few = q.few;
  }
