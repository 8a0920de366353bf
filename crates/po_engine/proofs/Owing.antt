-- How many events the waiting calls may still need, as calls come, go and are marked.
use Rattle.std.proofs.Common.{◌≡◌, ℕ, ◌+◌, ◌-◌, ◌*◌, ◌<◌, ◌≤◌, List, [], ◌∷◌, map, length, refl, subst, ap, sym, ◌∙◌, arith, Bool, true, false, cond, Some, if◌then◌else◌}
use Rattle.std.specs.List.{sum_by, count_by, find}
use Rattle.std.proofs.lemmas.List.Elements.{All-head, All-tail, All-map, All-weaker}
use Rattle.std.proofs.lemmas.List.Sums.{sum_by-le}
use Rattle.po_unit.specs.Meaning.{Meaning}
use Rattle.po_calls.specs.declared.call.Call.{Call}
use Rattle.po_engine.specs.WaitingCalls.{has_number, mark}
use Rattle.po_engine.specs.ObjectState.{ObjectState}
use Rattle.po_engine.specs.StateView.{AreLow}
use Rattle.po_engine.specs.Finding.{without_first}
use Rattle.po_engine.specs.Step.{take_out, attempt_cancel, cancel}
use Rattle.po_engine.specs.Pick.{owed}
use Rattle.po_engine.proofs.Sums.{sum_by-cons, sum_by-without}
use Rattle.po_engine.proofs.Absent.{All-without}
use Rattle.po_engine.proofs.Absent.{IsAbsent, absent_from_count}

module _ {V : Type 0} (n : ℕ) where
  unmarked : (b : Bool) (x : Call V) → b ≡ false → (if b then record x { aborted = true } else x) ≡ x
  unmarked true x h = cc
  unmarked false x h = refl

  -- if there is no such call, none is marked
  pub mark_absent : (xs : List (Call V)) → IsAbsent n xs → map (mark n) xs ≡ xs
  mark_absent [] a = refl
  mark_absent (x ∷ xs) a =
      let off = unmarked (has_number n x) x (All-head (λ y. has_number n y ≡ false) x xs a) in
      rw (off, mark_absent xs (All-tail (λ y. has_number n y ≡ false) x xs a)) refl

  abbrev IsOnce : List (Call V) → Type 0
  IsOnce xs = count_by (has_number n) xs ≤ 1

  counted : (x : Call V) (xs : List (Call V)) → count_by (has_number n) (x ∷ xs) ≡ cond (has_number n x) 1 0 + count_by (has_number n) xs
  counted x xs = sum_by-cons (λ y. cond (has_number n y) 1 0) x xs

  marked_already : (x : Call V) → x.aborted ≡ true → record x { aborted = true } ≡ x
  marked_already x h = ap (λ b. record x { aborted = b }) (sym h)

  again_first : (b : Bool) (x y : Call V) (xs : List (Call V)) → cond b (Some x) (find (has_number n) xs) ≡ Some y → y.aborted ≡ true → cond b 1 0 + count_by (has_number n) xs ≤ 1 → (find (has_number n) xs ≡ Some y → IsOnce xs → map (mark n) xs ≡ xs) → (if b then record x { aborted = true } else x) ∷ map (mark n) xs ≡ x ∷ xs
  again_first true x y xs h k few r =
      let same : x ≡ y = cc in
      rw (marked_already x (ap (λ z. z.aborted) same ∙ k), mark_absent xs (absent_from_count n xs (omega (arith, few)))) refl
  again_first false x y xs h k few r = ap (λ zs. x ∷ zs) (r h (omega (arith, few)))

  -- a call that is marked already isn't marked again
  pub mark_again : (xs : List (Call V)) (y : Call V) → find (has_number n) xs ≡ Some y → y.aborted ≡ true → IsOnce xs → map (mark n) xs ≡ xs
  mark_again [] y h k few = refl
  mark_again (x ∷ xs) y h k few = again_first (has_number n x) x y xs h k (omega (arith, few, counted x xs)) (λ i j. mark_again xs y i k j)

module _ {S V : Type 0} where
  -- an attempt to cancel a call that is marked already changes nothing
  pub attempt_again : (s : ObjectState S V) (n : ℕ) (x : Call V) → find (has_number n) s.waiting ≡ Some x → x.without_abort ≡ true → x.aborted ≡ true → count_by (has_number n) s.waiting ≤ 1 → attempt_cancel s n (find (has_number n) s.waiting) ≡ s
  attempt_again s n x h without_abort marked few =
      let same = ap (λ xs. record s { waiting = xs }) (mark_again n s.waiting x h marked few) in
      let by_mark = subst (λ b. (if b then record s { waiting = map (mark n) s.waiting } else cancel s n (Some x)) ≡ s) (sym without_abort) same in
      subst (λ o. attempt_cancel s n o ≡ s) (sym h) by_mark

module _ {S V : Type 0} (m : Meaning S V) where
  abbrev pub owes : Call V → ℕ
  owes x = m.rank x.entry x.value + (if x.aborted then 1 else 2)

  one_or_two : (b : Bool) → (if b then 1 else 2) ≤ 2
  one_or_two true = omega arith
  one_or_two false = omega arith

  none_or_one : (b : Bool) → (if b then 0 else 1) ≤ 1
  none_or_one true = omega arith
  none_or_one false = omega arith

  pub owed_few : (xs : List (Call V)) → AreLow m xs → sum_by owes xs ≤ length xs * 257
  owed_few xs low = sum_by-le owes 257 xs (All-weaker (λ x. m.rank x.entry x.value ≤ 255) (λ x. owes x ≤ 257) (λ x h. omega (arith, h, one_or_two x.aborted)) xs low)

  -- what is owed, with what one more call may need, fits 128 bits
  pub owed_fits : (s : ObjectState S V) (x : Call V) → AreLow m s.waiting → length s.waiting < 18_446_744_073_709_551_616 → m.rank x.entry x.value ≤ 255 → owed m s + owes x ≤ 9_000_000_000_000_000_000_000
  owed_fits s x low few rank = omega (arith, owed_few s.waiting low, few, rank, one_or_two x.aborted, none_or_one s.finalized)

  -- a call that is taken out takes what it owes with it
  pub owed_taken : (s : ObjectState S V) (test : Call V → Bool) (x : Call V) → find test s.waiting ≡ Some x → owed m s ≡ owes x + owed m (take_out s test)
  owed_taken s test x h = omega (arith, sum_by-without owes test s.waiting x h)

  marked_owes : (x : Call V) (a : Bool) → x.aborted ≡ a → a ≡ false → owes (record x { aborted = true }) + 1 ≡ owes x
  marked_owes x true e h = cc
  marked_owes x false e h = rw e (omega arith)

  marks_first : (n : ℕ) (b : Bool) (x y : Call V) (xs : List (Call V)) → cond b (Some x) (find (has_number n) xs) ≡ Some y → y.aborted ≡ false → cond b 1 0 + count_by (has_number n) xs ≤ 1 → (find (has_number n) xs ≡ Some y → count_by (has_number n) xs ≤ 1 → sum_by owes (map (mark n) xs) + 1 ≡ sum_by owes xs) → owes (if b then record x { aborted = true } else x) + sum_by owes (map (mark n) xs) + 1 ≡ owes x + sum_by owes xs
  marks_first n true x y xs h k few r =
      let same : x ≡ y = cc in
      let rest = ap (sum_by owes) (mark_absent n xs (absent_from_count n xs (omega (arith, few)))) in
      omega (arith, rest, marked_owes x x.aborted refl (ap (λ z. z.aborted) same ∙ k))
  marks_first n false x y xs h k few r = omega (arith, r h (omega (arith, few)))

  marks_one : (n : ℕ) (xs : List (Call V)) (y : Call V) → find (has_number n) xs ≡ Some y → y.aborted ≡ false → count_by (has_number n) xs ≤ 1 → sum_by owes (map (mark n) xs) + 1 ≡ sum_by owes xs
  marks_one n [] y h k few = cc
  marks_one n (x ∷ xs) y h k few = omega (arith, marks_first n (has_number n x) x y xs h k (omega (arith, few, counted n x xs)) (λ i j. marks_one n xs y i k j), sum_by-cons owes x xs, sum_by-cons owes (mark n x) (map (mark n) xs))

  -- a call that is marked owes one less
  pub owed_marked : (s : ObjectState S V) (n : ℕ) (y : Call V) → find (has_number n) s.waiting ≡ Some y → y.aborted ≡ false → count_by (has_number n) s.waiting ≤ 1 → owed m s ≡ owed m (record s { waiting = map (mark n) s.waiting }) + 1
  owed_marked s n y h k few = omega (arith, marks_one n s.waiting y h k few)

  rank_marked : (b : Bool) (x : Call V) → m.rank x.entry x.value ≤ 255 → m.rank (if b then record x { aborted = true } else x).entry (if b then record x { aborted = true } else x).value ≤ 255
  rank_marked true x h = h
  rank_marked false x h = h

  pub low_marked : (n : ℕ) (xs : List (Call V)) → AreLow m xs → AreLow m (map (mark n) xs)
  low_marked n xs h = All-map (λ x. m.rank x.entry x.value ≤ 255) (mark n) xs (All-weaker (λ x. m.rank x.entry x.value ≤ 255) (λ x. m.rank (mark n x).entry (mark n x).value ≤ 255) (λ x i. rank_marked (has_number n x) x i) xs h)

  -- the number of events owed after a call was taken out
  pub record IsPaid (s : ObjectState S V) (after : List (Call V)) (number part : ℕ) : Type 0 where
    pub enough : part ≤ number
    pub owed : number - part ≡ owed m (record s { waiting = after })
    pub ranks : AreLow m after

  pub paid : (s : ObjectState S V) (test : Call V → Bool) (x : Call V) (after : List (Call V)) (number part : ℕ) → find test s.waiting ≡ Some x → after ≡ without_first test s.waiting → number ≡ owed m s → part ≡ owes x → AreLow m s.waiting → IsPaid s after number part
  paid s test x after number part h is all one low =
      subst (λ xs. IsPaid s xs number part) (sym is) (record {
        enough = omega (arith, owed_taken s test x h, all, one);
        owed = omega (arith, owed_taken s test x h, all, one);
        ranks = All-without (λ y. m.rank y.entry y.value ≤ 255) test s.waiting low;
      })
