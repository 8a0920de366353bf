-- The places at which the waiting calls arrived, as calls come and go.
use Rattle.std.proofs.Common.{◌≡◌, ℕ, ◌==◌, ◌<◌, ◌≤◌, List, [], ◌∷◌, ◌++◌, map, refl, ◌∙◌, ap, Bool, true, false, cond, Some, None, if◌then◌else◌, arith}
use Rattle.std.specs.List.{count_by, find, All}
use Rattle.std.proofs.lemmas.List.Elements.{All-cons, All-head, All-nil, All-push, All-tail, All-weaker}
use Rattle.std.proofs.lemmas.Bool.Decides.{nat_tests}
use Rattle.po_calls.specs.declared.call.Call.{Call}
use Rattle.po_engine.specs.WaitingCalls.{has_number, mark}
use Rattle.po_engine.specs.Finding.{without_first}
use Rattle.po_engine.specs.Arrival.{AreAt, Increases, noted}
use Rattle.po_engine.specs.Calls.{places_without}
use Rattle.po_engine.proofs.Sums.{sum_by-without}
use Rattle.po_engine.proofs.Absent.{IsAbsent, absent_from_count}
use Rattle.po_engine.proofs.Absent.{eq_self}

other_number : (k n : ℕ) → k < n → (k == n) ≡ false
other_number k n lt = grind (arith, nat_tests)

-- the call that is noted is at its place
pub noted_here : (f : ℕ → ℕ) (k n : ℕ) → noted f k (Some n) n ≡ k
noted_here f k n = rw (eq_self n) refl

-- one more place, above all others
pub increases_push : (ks : List ℕ) (k : ℕ) → All (λ j. j < k) ks → Increases ks → Increases (ks ++ k ∷ [])
increases_push [] k low h = (All-nil (λ j. k < j), tt)
increases_push (i ∷ ks) k low h = (All-push (λ j. i < j) ks k h.0 (All-head (λ j. j < k) i ks low), increases_push ks k (All-tail (λ j. j < k) i ks low) h.1)

module _ {V : Type 0} (f : ℕ → ℕ) where
  -- a call comes, at its place
  pub at_push : (xs : List (Call V)) (ks : List ℕ) (x : Call V) (k : ℕ) → f x.number ≡ k → AreAt f xs ks → AreAt f (xs ++ x ∷ []) (ks ++ k ∷ [])
  at_push [] [] x k is h = (is, tt)
  at_push [] (j ∷ ks) x k is h = absurd h
  at_push (y ∷ xs) [] x k is h = absurd h
  at_push (y ∷ xs) (j ∷ ks) x k is h = (h.0, at_push xs ks x k is h.1)

  at_left : (test : Call V → Bool) (b : Bool) (x : Call V) (xs : List (Call V)) (k : ℕ) (ks : List ℕ) → AreAt f (x ∷ xs) (k ∷ ks) → AreAt f (without_first test xs) (places_without test xs ks) → AreAt f (if b then xs else x ∷ without_first test xs) (if b then ks else k ∷ places_without test xs ks)
  at_left test true x xs k ks h i = h.1
  at_left test false x xs k ks h i = (h.0, i)

  -- a call goes, and its place with it
  pub at_without : (test : Call V → Bool) (xs : List (Call V)) (ks : List ℕ) → AreAt f xs ks → AreAt f (without_first test xs) (places_without test xs ks)
  at_without test [] [] h = h
  at_without test [] (k ∷ ks) h = absurd h
  at_without test (x ∷ xs) [] h = absurd h
  at_without test (x ∷ xs) (k ∷ ks) h = at_left test (test x) x xs k ks h (at_without test xs ks h.1)

  same_number : (b : Bool) (x : Call V) → (if b then record x { aborted = true } else x).number ≡ x.number
  same_number true x = refl
  same_number false x = refl

  -- a marked call keeps its place
  pub at_marked : (n : ℕ) (xs : List (Call V)) (ks : List ℕ) → AreAt f xs ks → AreAt f (map (mark n) xs) ks
  at_marked n [] [] h = h
  at_marked n [] (k ∷ ks) h = absurd h
  at_marked n (x ∷ xs) [] h = absurd h
  at_marked n (x ∷ xs) (k ∷ ks) h = (ap f (same_number (has_number n x) x) ∙ h.0, at_marked n xs ks h.1)

  -- if no call is noted, nothing changes
  pub at_no_other : (k : ℕ) (xs : List (Call V)) (ks : List ℕ) → AreAt f xs ks → AreAt (noted f k None) xs ks
  at_no_other k [] [] h = h
  at_no_other k [] (j ∷ ks) h = absurd h
  at_no_other k (x ∷ xs) [] h = absurd h
  at_no_other k (x ∷ xs) (j ∷ ks) h = (h.0, at_no_other k xs ks h.1)

  not_noted : (k n : ℕ) (x : Call V) → has_number n x ≡ false → noted f k (Some n) x.number ≡ f x.number
  not_noted k n x h = rw h refl

  -- a call that isn't among them is noted
  pub at_noted : (k n : ℕ) (xs : List (Call V)) (ks : List ℕ) → IsAbsent n xs → AreAt f xs ks → AreAt (noted f k (Some n)) xs ks
  at_noted k n [] [] a h = h
  at_noted k n [] (j ∷ ks) a h = absurd h
  at_noted k n (x ∷ xs) [] a h = absurd h
  at_noted k n (x ∷ xs) (j ∷ ks) a h =
      (not_noted k n x (All-head (λ y. has_number n y ≡ false) x xs a) ∙ h.0, at_noted k n xs ks (All-tail (λ y. has_number n y ≡ false) x xs a) h.1)

module _ {V : Type 0} where
  places_left : (P : ℕ → Type 0) (test : Call V → Bool) (b : Bool) (xs : List (Call V)) (k : ℕ) (ks : List ℕ) → All P (k ∷ ks) → All P (places_without test xs ks) → All P (if b then ks else k ∷ places_without test xs ks)
  places_left P test true xs k ks h i = All-tail P k ks h
  places_left P test false xs k ks h i = All-cons P k (places_without test xs ks) (All-head P k ks h) i

  -- what holds of all places holds of those that stay
  pub All-places : (P : ℕ → Type 0) (test : Call V → Bool) (xs : List (Call V)) (ks : List ℕ) → All P ks → All P (places_without test xs ks)
  All-places P test [] ks h = h
  All-places P test (x ∷ xs) [] h = h
  All-places P test (x ∷ xs) (k ∷ ks) h = places_left P test (test x) xs k ks h (All-places P test xs ks (All-tail P k ks h))

  increases_left : (test : Call V → Bool) (b : Bool) (xs : List (Call V)) (k : ℕ) (ks : List ℕ) → Increases (k ∷ ks) → Increases (places_without test xs ks) → Increases (if b then ks else k ∷ places_without test xs ks)
  increases_left test true xs k ks h i = h.1
  increases_left test false xs k ks h i = (All-places (λ j. k < j) test xs ks h.0, i)

  -- the places that stay rise as before
  pub increases_without : (test : Call V → Bool) (xs : List (Call V)) (ks : List ℕ) → Increases ks → Increases (places_without test xs ks)
  increases_without test [] ks h = h
  increases_without test (x ∷ xs) [] h = h
  increases_without test (x ∷ xs) (k ∷ ks) h = increases_left test (test x) xs k ks h (increases_without test xs ks h.1)

  -- the first call that passes a test was the only one of its number
  pub taken_absent : (test : Call V → Bool) (xs : List (Call V)) (x : Call V) → find test xs ≡ Some x → count_by (has_number x.number) xs ≤ 1 → IsAbsent x.number (without_first test xs)
  taken_absent test xs x h few =
      let parts = sum_by-without (λ y. cond (has_number x.number y) 1 0) test xs x h in
      let self : ◌≡◌ {A = ℕ} (cond (has_number x.number x) 1 0) 1 = rw (eq_self x.number) refl in
      absent_from_count x.number (without_first test xs) (omega (arith, parts, self, few))

  -- a call is taken, and noted
  pub at_taken : (f : ℕ → ℕ) (k : ℕ) (test : Call V → Bool) (xs : List (Call V)) (ks : List ℕ) (x : Call V) → find test xs ≡ Some x → count_by (has_number x.number) xs ≤ 1 → AreAt f xs ks → AreAt (noted f k (Some x.number)) (without_first test xs) (places_without test xs ks)
  at_taken f k test xs ks x h few at = at_noted f k x.number (without_first test xs) (places_without test xs ks) (taken_absent test xs x h few) (at_without f test xs ks at)

  -- no call has a number above those of all
  pub below_absent : (n : ℕ) (xs : List (Call V)) → All (λ x. x.number < n) xs → IsAbsent n xs
  below_absent n xs h = All-weaker (λ x. x.number < n) (λ x. has_number n x ≡ false) (λ x lt. other_number x.number n lt) xs h
