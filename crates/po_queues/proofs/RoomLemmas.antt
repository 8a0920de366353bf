-- Room for more keys, room in the counts, and empty queues.
use Rattle.std.proofs.Common.{◌≡◌, ℕ, zero, suc, ◌+◌, ◌/◌, ◌^◌, ◌<◌, ◌≤◌, Bool, true, false, cond, eqb, ltb}
use Rattle.std.proofs.Common.{List, [], ◌∷◌, ◌++◌, length, get_or, replicate, take, Option, Some, None, refl, sym, ap}
use Rattle.std.proofs.Common.{◌∙◌, inl, inr, arith}
use Rattle.std.proofs.lemmas.Bool.{cases_Bool}
use Rattle.std.proofs.lemmas.List.{length-replicate, get_or-replicate, take_all}
use Rattle.std.proofs.lemmas.List.Elements.{All-nil}
use Rattle.po_queues.proofs.ItemLemmas.{item_free}
use Rattle.po_queues.proofs.BusyLemmas.{bit_of-zeros}
use Rattle.po_queues.proofs.QueueLemmas.{packed}
use Rattle.po_queues.specs.QueuedKeys.{QueuedKey, keys_of, keys_on, occurs}
use Rattle.po_queues.specs.Links.{HoldsQueues, link_of_item}
use Rattle.po_queues.specs.Arrivals.{arrivals, arrivals_from, insert_item, KeepsQueues}
use Rattle.po_queues.specs.declared.link.Link.{Link}

-- free links hold no queued key
arrivals_from-none : (k m : ℕ) → arrivals_from k (replicate m None) ≡ []
arrivals_from-none k zero = refl
arrivals_from-none k (suc m) = arrivals_from-none (k + 1) m

-- the queued keys stay
arrivals_room : (k m : ℕ) (links : List (Option Link))
    → arrivals_from k (links ++ replicate m None) ≡ arrivals_from k links
arrivals_room k m [] = arrivals_from-none k m
arrivals_room k m (None ∷ links) = arrivals_room (k + 1) m links
arrivals_room k m (Some l ∷ links) = ap (insert_item (record { entry = l.entry; key = k; stamp = l.stamp }))
    (arrivals_room (k + 1) m links)

-- what is read stays once there is more room
pub read_room : {A : Type 0} (d : A) (xs : List A) (m k : ℕ) → get_or (xs ++ replicate m d) k d ≡ get_or xs k d
read_room d [] zero k = refl
read_room d [] (suc m) zero = refl
read_room d [] (suc m) (suc k) = read_room d [] m k ∙ past k
  where
    past : (k : ℕ) → get_or [] k d ≡ get_or [] (suc k) d
    past zero = refl
    past (suc k) = refl
read_room d (x ∷ xs) m zero = refl
read_room d (x ∷ xs) m (suc k) = read_room d xs m k

-- the queues are kept with other links that hold the same keys
pub record HoldsSame (links links' : List (Option Link)) (firsts lasts : List (Option ℕ)) (counts words : List ℕ)
    (queued : ℕ) : Type 0 where
  pub items : arrivals links' ≡ arrivals links
  pub keeps : KeepsQueues links' firsts lasts counts words queued

-- room for more keys changes no queued key
room_is : {links : List (Option Link)} {firsts lasts : List (Option ℕ)} {counts words : List ℕ} {queued : ℕ}
    (q : KeepsQueues links firsts lasts counts words queued) (m : ℕ)
    → HoldsSame links (links ++ replicate m None) firsts lasts counts words queued
room_is {links} {firsts} {lasts} {counts} {words} {queued} q m =
    let h = q.holds in
    let more = links ++ replicate m None in
    let held : HoldsQueues (length counts) more firsts lasts counts (arrivals links) = record {
      linked = λ k. read_room None links m k ∙ h.linked k;
      first = h.first;
      last = h.last;
      count = h.count;
      distinct = h.distinct;
      entries = h.entries;
    } in
    let p = packed more firsts lasts counts words queued (arrivals links) held q.rising q.firsts_len q.lasts_len q.few
    q.busy q.queued_len in
    record { items = p.0; keeps = p.1 }

-- the same if the links were made longer or stayed as they were
pub grown_is : {links : List (Option Link)} {firsts lasts : List (Option ℕ)} {counts words : List ℕ} {queued : ℕ}
    (q : KeepsQueues links firsts lasts counts words queued) (grown : Bool) (n m : ℕ) (links' : List (Option Link))
    → length links ≤ n → links' ≡ cond grown (take n links ++ replicate m None) links
    → HoldsSame links links' firsts lasts counts words queued
grown_is {links} q true n m links' long links_are = rw (links_are, take_all n links long) (room_is q m)
grown_is q false n m links' long links_are = rw links_are (record { items = refl; keeps = q })

-- queues without a reserved key
pub fresh : (n : ℕ) (links : List (Option Link)) (firsts lasts : List (Option ℕ)) (counts words : List ℕ) → n < 2 ^ 16
    → links ≡ [] → firsts ≡ replicate n None → lasts ≡ replicate n None → counts ≡ replicate n 0
    → words ≡ replicate (n / 64 + 1) 0 → KeepsQueues links firsts lasts counts words 0
fresh n links firsts lasts counts words few e1 e2 e3 e4 e5 =
    let counts_len = ap length e4 ∙ length-replicate n 0 in
    let words_len = ap length e5 ∙ length-replicate (n / 64 + 1) 0 in
    rw (e1) record {
      holds = record {
        linked = λ k. nothing k;
        first = λ e lt. rw e2 (get_or-replicate n e None None (omega arith));
        last = λ e lt. rw e3 (get_or-replicate n e None None (omega arith));
        count = λ e lt. rw e4 (get_or-replicate n e 0 0 (omega arith));
        distinct = tt;
        entries = All-nil (λ x. x.entry < length counts);
      };
      rising = tt;
      firsts_len = ap length e2 ∙ length-replicate n None ∙ sym counts_len;
      lasts_len = ap length e3 ∙ length-replicate n None ∙ sym counts_len;
      few = omega (arith, counts_len, few);
      busy = record {
        marks = λ e. rw e5 (bit_of-zeros (n / 64 + 1) e);
        enough = omega (arith, counts_len, words_len);
        few = omega (arith, words_len, few);
      };
      queued_len = refl;
    }
  where
    nothing : (k : ℕ) → get_or (let e : List (Option Link) = [] in e) k None ≡ None
    nothing zero = refl
    nothing (suc k) = refl

-- the list is longer by one
length_insert : (x : QueuedKey) (ys : List QueuedKey) → length (insert_item x ys) ≡ length ys + 1
length_insert x [] = refl
length_insert x (y ∷ ys) = elim (cases_Bool (ltb x.stamp y.stamp)) [
  | inl t ↦ simp t (omega arith)
  | inr f ↦ simp f (omega (arith, length_insert x ys))
]

-- at most as many keys are queued as there are links
arrivals_few : (k : ℕ) (links : List (Option Link)) → length (arrivals_from k links) ≤ length links
arrivals_few k [] = omega arith
arrivals_few k (None ∷ links) = omega (arith, arrivals_few (k + 1) links)
arrivals_few k (Some l ∷ links) = omega (
  arith,
  arrivals_few (k + 1) links,
  length_insert (record { entry = l.entry; key = k; stamp = l.stamp })
      (arrivals_from (k + 1) links),
)

-- if a link is free, fewer keys are queued than there are links
arrivals_fewer : (k : ℕ) (links : List (Option Link)) (i : ℕ) → i < length links → get_or links i None ≡ None
    → length (arrivals_from k links) + 1 ≤ length links
arrivals_fewer k [] i lt none = absurd (omega arith)
arrivals_fewer k (None ∷ links) zero lt none = omega (arith, arrivals_few (k + 1) links)
arrivals_fewer k (Some l ∷ links) zero lt none = let bad : Some l ≡ None = none in absurd (cc)
arrivals_fewer k (None ∷ links) (suc i) lt none = omega (arith, arrivals_fewer (k + 1) links i (omega arith) none)
arrivals_fewer k (Some l ∷ links) (suc i) lt none = omega (
  arith,
  arrivals_fewer (k + 1) links i (omega arith) none,
  length_insert
      (record { entry = l.entry; key = k; stamp = l.stamp }) (arrivals_from (k + 1) links),
)

-- an entry has at most as many queued keys as all together
keys_few : (e : ℕ) (items : List QueuedKey) → length (keys_on e items) ≤ length items
keys_few e [] = omega arith
keys_few e (x ∷ xs) = elim (cases_Bool (eqb x.entry e))
    [ inl t ↦ simp t (omega (arith, keys_few e xs)) | inr f ↦ simp f (omega (arith, keys_few e xs)) ]

-- if a key isn't queued, there is room in each count, and in the number of queued keys
pub record HasRoom (links : List (Option Link)) (counts : List ℕ) (queued entry : ℕ) : Type 0 where
  pub count : get_or counts entry 0 + 1 ≤ length links
  pub all : queued + 1 ≤ length links

pub count_fits : {links : List (Option Link)} {firsts lasts : List (Option ℕ)} {counts words : List ℕ} {queued : ℕ}
    (q : KeepsQueues links firsts lasts counts words queued) (e key : ℕ)
    → e < length counts → key < length links → occurs key (keys_of (arrivals links)) ≡ false
    → HasRoom links counts queued e
count_fits {links} q e key lt within free =
    let items = arrivals links in
    let none : get_or links key None ≡ None = q.holds.linked key ∙ ap (link_of_item items) (item_free key items free) in
    let fewer = arrivals_fewer 0 links key within none in
    record {
      count = omega (arith, q.holds.count e lt, keys_few e items, fewer);
      all = omega
          (arith, q.queued_len, fewer);
    }
