-- In which of two rows calls are, once one is added, taken out or moved, and which of them is due first.
use Rattle.std.proofs.Common.{◌≡◌, ℕ, zero, suc, ◌<◌, ◌≤◌, false, leb, List, [], ◌∷◌, length, set, get_or}
use Rattle.std.proofs.Common.{Option, Some, None, refl, sym, subst, ◌∙◌, inl, inr, arith}
use Rattle.std.specs.Prelude.{IsSome, IfSome}
use Rattle.std.specs.Option.{option_map}
use Rattle.std.proofs.lemmas.Bool.{cases_Bool, cases_lt, leb-true, false≢true}
use Rattle.std.proofs.lemmas.List.{get_or_past}
use Rattle.po_queues.specs.Arrived.{has_come}
use Rattle.po_queues.specs.Expiring.{IsFirstDue, call_of, expiration_of}
use Rattle.po_queues.specs.Least.{number_of, IsAtMost, IsLeastAt}
use Rattle.po_queues.specs.Timed.{IsPlaced, HoldsExpirations}
use Rattle.po_queues.specs.declared.expiration.Expiration.{Expiration}

-- a call stays placed if it and its numbers are replaced by equal ones
pub placed_same : (clock : ℕ) (o o' : Option Expiration) (l l' d d' : Option ℕ) → o' ≡ o → l' ≡ l → d' ≡ d
    → IsPlaced clock o l d → IsPlaced clock o' l' d'
placed_same clock o o' l l' d d' o_is l_is d_is p =
    subst (λ e. IsPlaced clock e l' d') (sym o_is)
    (subst (λ e. IsPlaced clock o e d') (sym l_is) (subst (λ e. IsPlaced clock o l e) (sym d_is) p))

-- if something is found at a key, the key is in the row
pub found_below : {A : Type 0} (row : List (Option A)) (key : ℕ) (x : A) → get_or row key None ≡ Some x → key < length row
found_below row key x is = elim (cases_lt key (length row)) [
  | inl below ↦ below
  | inr past ↦ let bad : None ≡ Some x = sym (get_or_past row key None past) ∙ is in absurd (cc)
]

module _ {clock : ℕ} {calls : List (Option Expiration)} {later due : List (Option ℕ)}
    (h : HoldsExpirations calls later due clock) where
  -- a key whose call doesn't expire is in neither row
  pub placed_free : (key : ℕ) → call_of calls key ≡ None → (number_of later key ≡ None) × (number_of due key ≡ None)
  placed_free key none = subst (λ o. IsPlaced clock o (number_of later key) (number_of due key)) none (h.placed key)

  -- a call is in one of the rows
  placed_at : (key : ℕ) (x : Expiration) → call_of calls key ≡ Some x
      → IsPlaced clock (Some x) (number_of later key) (number_of due key)
  placed_at key x is = subst (λ o. IsPlaced clock o (number_of later key) (number_of due key)) is (h.placed key)

  -- if a key has a time in the first row, it has a call
  pub has_call : (key n : ℕ) → number_of later key ≡ Some n → (x : Expiration) × (call_of calls key ≡ Some x)
  has_call key n time_is = go (call_of calls key) refl
    where
      go : (o : Option Expiration) → call_of calls key ≡ o → (x : Expiration) × (call_of calls key ≡ Some x)
      go None is = let bad : None ≡ Some n = sym (placed_free key is).0 ∙ time_is in absurd (cc)
      go (Some x) is = (x, is)

  module _ (ahead : (k : ℕ) → IfSome (number_of later k) (λ time. clock < time)) where
    -- a call whose time has come is only in the second row, with its stamp
    pub come_due : (key : ℕ) (x : Expiration) → call_of calls key ≡ Some x → x.time ≤ clock
        → (number_of later key ≡ None) × (number_of due key ≡ Some x.stamp)
    come_due key x is come = elim (placed_at key x is) [
      | inl w ↦
          let to_come : clock < x.time = subst (λ o. IfSome o (λ time. clock < time)) w.0 (ahead key) in
          absurd (omega (arith, to_come, come))
      | inr w ↦ (w.0, w.1)
    ]

    -- the key with the least stamp is that of the first call that is due
    pub least_is_first : (key : ℕ) → IsLeastAt due key → IsFirstDue (record { clock = clock; calls = calls }) key
    least_is_first key least = first (call_of calls key) refl
      where
        no_stamp : number_of due key ≡ None → ⊥
        no_stamp none = let bad : IsSome {T = ℕ} None = subst IsSome none least.0 in false≢true bad

        other : (x : Expiration) → number_of due key ≡ Some x.stamp → (k : ℕ) (o : Option Expiration) → call_of calls k ≡ o
            → IfSome o (λ y. y.time ≤ clock → x.stamp ≤ y.stamp)
        other x stamp_is k None is = tt
        other x stamp_is k (Some y) is = λ come. subst (λ a. IsAtMost a (Some y.stamp)) stamp_is
            (subst (IsAtMost (number_of due key)) (come_due k y is come).1 (least.1 k))

        first : (o : Option Expiration) → call_of calls key ≡ o → IsFirstDue (record { clock = clock; calls = calls }) key
        first None is = absurd (no_stamp (placed_free key is).1)
        first (Some x) is = elim (placed_at key x is) [
          | inl w ↦ absurd (no_stamp w.1)
          | inr w ↦ record {
            call = x;
            expires = is;
            has_come = w.2;
            first = λ k. other x w.1 k (call_of calls k) refl;
          }
        ]

    -- if there is no stamp, no call is due
    pub none_is_due : ((k : ℕ) → number_of due k ≡ None) → (key : ℕ) → has_come clock (expiration_of calls key) ≡ false
    none_is_due none key = go (call_of calls key) refl
      where
        go : (o : Option Expiration) → call_of calls key ≡ o → has_come clock (option_map (λ x. x.time) o) ≡ false
        go None is = refl
        go (Some x) is = elim (cases_Bool (leb x.time clock)) [
          | inl come ↦
              let bad : None ≡ Some x.stamp = sym (none key) ∙ (come_due key x is (leb-true x.time clock come)).1 in
              absurd (cc)
          | inr to_come ↦ to_come
        ]

-- the number of the least key in a row, if it is at most a bound
pub number_of_least : (row : List (Option ℕ)) (key bound : ℕ) → IsLeastAt row key
    → IfSome (number_of row key) (λ n. n ≤ bound) → (n : ℕ) × (number_of row key ≡ Some n) × (n ≤ bound)
number_of_least row key bound least within = number (number_of row key) least.0 within
  where
    number : (o : Option ℕ) → IsSome o → IfSome o (λ n. n ≤ bound) → (n : ℕ) × (o ≡ Some n) × (n ≤ bound)
    number None some _ = absurd (false≢true some)
    number (Some n) some few = (n, refl, few)

-- how many keys of a row have a number
pub numbers : List (Option ℕ) → ℕ
numbers [] = 0
numbers (None ∷ row) = numbers row
numbers (Some n ∷ row) = suc (numbers row)

-- once the number of a key is taken out, fewer keys have one
pub fewer_numbers : (row : List (Option ℕ)) (key n : ℕ) → number_of row key ≡ Some n
    → numbers (set row key None) < numbers row
unfolding numbers
fewer_numbers [] zero n is = absurd (cc)
fewer_numbers [] (suc key) n is = absurd (cc)
fewer_numbers (None ∷ row) zero n is = absurd (cc)
fewer_numbers (Some x ∷ row) zero n is = omega arith
fewer_numbers (None ∷ row) (suc key) n is = fewer_numbers row key n is
fewer_numbers (Some x ∷ row) (suc key) n is = omega (arith, fewer_numbers row key n is)
