-- The queued keys with the times at which their calls expire, in order of arrival, and without some key.
use Rattle.std.proofs.Common.{◌≡◌, ℕ, ◌<◌, ◌≤◌, true, false, eqb, List, [], ◌∷◌, ◌++◌, length, set, Option, Some, None}
use Rattle.std.proofs.Common.{refl, sym, ap, ap₂, subst, ◌∙◌, inl, inr, arith}
use Rattle.std.specs.Prelude.{option_map, IfSome}
use Rattle.std.specs.List.{find, All}
use Rattle.std.proofs.lemmas.Bool.{cases_Bool, cases_lt, eqb-true, eqb-false, leb-true, false≢true}
use Rattle.std.proofs.lemmas.List.{get_or-set_same, get_or-set_other, get_or_past, length-set}
use Rattle.std.proofs.lemmas.List.Elements.{All-nil, All-cons, All-head, All-tail}
use Rattle.po_queues.proofs.KeyLemmas.{tail_free, tail_has}
use Rattle.po_queues.specs.QueuedKeys.{QueuedKey, keys_of, occurs, stamp_of, without_key, RiseBy}
use Rattle.po_queues.specs.Expiring.{call_of, expiration_of}
use Rattle.po_queues.specs.Arrived.{Arrived, all_queued, arrived_keys, has_come, without_arrived}
use Rattle.po_queues.specs.Lines.{with_expirations, HasItsStamp}
use Rattle.po_queues.specs.declared.expiration.Expiration.{Expiration}

-- Without times these are the queued keys.
pub queued_is : (calls : List (Option Expiration)) (items : List QueuedKey)
    → all_queued (with_expirations calls items) ≡ items
queued_is calls [] = refl
queued_is calls (x ∷ xs) = ap (λ l. x ∷ l) (queued_is calls xs)

-- Without times these are the keys.
pub keys_are : (calls : List (Option Expiration)) (items : List QueuedKey)
    → arrived_keys (with_expirations calls items) ≡ keys_of items
keys_are calls [] = refl
keys_are calls (x ∷ xs) = ap (λ l. x.key ∷ l) (keys_are calls xs)

-- An item with this time.
abbrev pub timed : QueuedKey → Option ℕ → Arrived
timed x time = record { entry = x.entry; key = x.key; stamp = x.stamp; expires = time }

-- If the call of a key changes that isn't queued, the times of the queued keys stay, and so do their stamps.
pub call_written : (calls : List (Option Expiration)) (k : ℕ) (o : Option Expiration) (items : List QueuedKey)
    → occurs k (keys_of items) ≡ false
    → (with_expirations (set calls k o) items ≡ with_expirations calls items) ×
    (All (HasItsStamp calls) items → All (HasItsStamp (set calls k o)) items)
call_written calls k o [] free = (refl, λ all. All-nil (HasItsStamp (set calls k o)))
call_written calls k o (x ∷ xs) free =
    let t = tail_free k x.key (keys_of xs) free in
    let rest = call_written calls k o xs t.1 in
    let same : call_of (set calls k o) x.key ≡ call_of calls x.key =
    get_or-set_other calls k x.key o None (eqb-false x.key k t.0) in (
      ap₂ (λ (c : Option Expiration) (l : List Arrived). timed x (option_map (λ y. y.time) c) ∷ l) same rest.0,
      λ all. All-cons (HasItsStamp (set calls k o)) x xs
          (subst (λ c. IfSome c (λ y. y.stamp ≡ x.stamp)) (sym same) (All-head (HasItsStamp calls) x xs all))
          (rest.1 (All-tail (HasItsStamp calls) x xs all)),
    )

-- The queued keys with times, once one more is queued.
pub with_push : (calls : List (Option Expiration)) (items : List QueuedKey) (x : QueuedKey) (time : Option ℕ)
    → expiration_of calls x.key ≡ time
    → with_expirations calls (items ++ x ∷ []) ≡ with_expirations calls items ++ timed x time ∷ []
with_push calls [] x time is = ap (λ t. timed x t ∷ []) is
with_push calls (y ∷ ys) x time is = ap (λ l. timed y (expiration_of calls y.key) ∷ l) (with_push calls ys x time is)

-- The queued keys with times, once a key is taken out.
pub with_without : (k : ℕ) (calls : List (Option Expiration)) (items : List QueuedKey)
    → with_expirations calls (without_key k items) ≡ without_arrived k (with_expirations calls items)
with_without k calls [] = refl
with_without k calls (x ∷ xs) = elim (cases_Bool (eqb x.key k)) [
  | inl equal ↦ simp equal (with_without k calls xs)
  | inr differ ↦ simp differ (ap (λ l. timed x (expiration_of calls x.key) ∷ l) (with_without k calls xs))
]

-- A key that is taken out has no call.
pub call_gone : (calls : List (Option Expiration)) (k : ℕ) → call_of (set calls k None) k ≡ None
call_gone calls k = elim (cases_lt k (length calls)) [
  | inl below ↦ get_or-set_same calls k None None below
  | inr past ↦ get_or_past (set calls k None) k None (omega (arith, past, length-set calls k None))
]

-- If all keys are queued later, the stamp of each is later.
later_stamp : (s k stamp : ℕ) (items : List QueuedKey) → All (λ y. s < y.stamp) items → stamp_of k items ≡ Some stamp
    → s < stamp
later_stamp s k stamp [] all is = let bad : None ≡ Some stamp = is in absurd (cc)
later_stamp s k stamp (y ∷ ys) all is = elim (cases_Bool (eqb y.key k)) [
  | inl equal ↦
      let here : Some y.stamp ≡ Some stamp = simp equal at is in
      let same : y.stamp ≡ stamp = cc in
      let later : s < y.stamp = All-head (λ y. s < y.stamp) y ys all in
      omega (arith, same, later)
  | inr differ ↦ later_stamp s k stamp ys (All-tail (λ y. s < y.stamp) y ys all) (simp differ at is)
]

-- A call that expires was queued with its stamp.
pub stamp_found : (calls : List (Option Expiration)) (k : ℕ) (call : Expiration) (items : List QueuedKey)
    → call_of calls k ≡ Some call → All (HasItsStamp calls) items → occurs k (keys_of items) ≡ true
    → stamp_of k items ≡ Some call.stamp
stamp_found calls k call [] is all has = absurd (false≢true has)
stamp_found calls k call (x ∷ xs) is all has = elim (cases_Bool (eqb x.key k)) [
  | inl equal ↦
      let here = All-head (HasItsStamp calls) x xs all in
      let read : call_of calls x.key ≡ Some call = ap (call_of calls) (eqb-true x.key k equal) ∙ is in
      let own : call.stamp ≡ x.stamp = subst (λ c. IfSome c (λ y. y.stamp ≡ x.stamp)) read here in
      simp equal (ap Some (sym own))
  | inr differ ↦ simp differ (stamp_found calls k call xs is (All-tail (HasItsStamp calls) x xs all)
      (tail_has k x.key (keys_of xs) has differ))
]

-- No call that is due has a stamp before the first.
not_earlier : (clock first stamp : ℕ) (o : Option Expiration) → has_come clock (option_map (λ x. x.time) o) ≡ true
    → IfSome o (λ x. x.stamp ≡ stamp) → IfSome o (λ x. x.time ≤ clock → first ≤ x.stamp) → first ≤ stamp
not_earlier clock first stamp None due own least = absurd (false≢true due)
not_earlier clock first stamp (Some x) due own least =
    let before : first ≤ x.stamp = least (leb-true x.time clock due) in
    omega (arith, own, before)

-- Of the keys whose time has come, the one with the least stamp is the first that was queued.
pub least_found : (clock : ℕ) (calls : List (Option Expiration)) (k stamp : ℕ) (items : List QueuedKey)
    → RiseBy (λ x. x.stamp) items → All (HasItsStamp calls) items → has_come clock (expiration_of calls k) ≡ true
    → ((j : ℕ) → IfSome (call_of calls j) (λ other. other.time ≤ clock → stamp ≤ other.stamp))
    → stamp_of k items ≡ Some stamp
    → Some k ≡ option_map (λ x. x.key) (find (λ x. has_come clock x.expires) (with_expirations calls items))
least_found clock calls k stamp [] rises own due least is = let bad : None ≡ Some stamp = is in absurd (cc)
least_found clock calls k stamp (x ∷ xs) rises own due least is = elim (cases_Bool (eqb x.key k)) [
  | inl equal ↦
      let same = eqb-true x.key k equal in
      let here : has_come clock (expiration_of calls x.key) ≡ true = rw same due in
      simp here (ap Some (sym same))
  | inr differ ↦
      let behind : stamp_of k xs ≡ Some stamp = simp differ at is in
      let later = later_stamp x.stamp k stamp xs rises.0 behind in
      elim (cases_Bool (has_come clock (expiration_of calls x.key))) [
        | inl here ↦
            let earlier = not_earlier clock stamp x.stamp (call_of calls x.key) here
            (All-head (HasItsStamp calls) x xs own) (least x.key) in
            absurd (omega (arith, later, earlier))
        | inr not_here ↦ simp not_here (least_found clock calls k stamp xs rises.1
            (All-tail (HasItsStamp calls) x xs own) due least behind)
      ]
]

-- If no time has come, none is found.
pub none_found : (clock : ℕ) (calls : List (Option Expiration)) (items : List QueuedKey)
    → ((k : ℕ) → has_come clock (expiration_of calls k) ≡ false)
    → None ≡ option_map (λ x. x.key) (find (λ x. has_come clock x.expires) (with_expirations calls items))
none_found clock calls [] none = refl
none_found clock calls (x ∷ xs) none = simp (none x.key) (none_found clock calls xs none)
