-- Each call stays in one place: what each part of a step does to the numbers that wait, are in service or have ended.
use Rattle.std.proofs.Common.{◌≡◌, ℕ, ◌+◌, ◌≤◌, map, refl, ap, ap₂, sym, subst, ◌∙◌, arith, Bool, true, false, cond, ◌&&◌, Option, Some, None, nat_le, nat_lt, if◌then◌else◌}
use Rattle.std.specs.List.{count_by, find}
use Rattle.po_calls.specs.declared.call.Call.{Call}
use Rattle.po_calls.specs.declared.end.End.{End}
use Rattle.po_calls.specs.declared.end.End.TheVariants.{Cancelled, ProgramError}
use Rattle.po_engine.specs.ObjectState.{ObjectState}
use Rattle.po_engine.specs.StateView.{StateView}
use Rattle.po_engine.specs.WaitingCalls.{has_number, is_on, mark}
use Rattle.po_engine.specs.Ending.{ended_as, has_ended}
use Rattle.po_engine.proofs.Lists.{without_none}
use Rattle.po_engine.specs.Step.{end_call, enter, is_full, queue, take_out, cancel, attempt_cancel}
use Rattle.po_engine.proofs.Sums.{sum_by-push, sum_by-without, sum_by-mapped}
use Rattle.po_driven.specs.OnePlace.{times_in_service, times_in, IsThereOnce}
use Rattle.po_engine.specs.Driving.{counted}
use Rattle.std.proofs.lemmas.Bool.Decides.{nat_tests}

abbrev one_if : ℕ → Call ℕ → ℕ
one_if n x = cond (has_number n x) 1 0

marked : (n : ℕ) (b : Bool) (x : Call ℕ) → has_number n (if b then record x { aborted = true } else x) ≡ has_number n x
marked n true x = refl
marked n false x = refl

abbrev S : Type 0
S = ObjectState ℕ ℕ

module _ (n : ℕ) where
  abbrev places_of : S → ℕ
  places_of p = count_by (has_number n) p.waiting + count_by (has_ended n) p.ended

  places-end_call : (p : S) (x : Call ℕ) (end : End ℕ) → places_of (end_call p x end) ≡ places_of p + one_if n x
  places-end_call p x end = omega (arith, sum_by-push (λ y. cond (has_ended n y) 1 0) p.ended (ended_as end x))

  places-take : (p : S) (test : Call ℕ → Bool) (x : Call ℕ) → find test p.waiting ≡ Some x → places_of (take_out p test) + one_if n x ≡ places_of p
  places-take p test x h = omega (arith, sum_by-without (λ y. cond (has_number n y) 1 0) test p.waiting x h)

  places-cancel : (p : S) (k : ℕ) (o : Option (Call ℕ)) → find (has_number k) p.waiting ≡ o → places_of (cancel p k o) ≡ places_of p
  places-cancel p k None h = refl
  places-cancel p k (Some x) h = places-end_call (take_out p (has_number k)) x Cancelled ∙ places-take p (has_number k) x h

  places-aborted : (p : S) (k : ℕ) (b : Bool) (x : Call ℕ) → find (has_number k) p.waiting ≡ Some x → places_of (if b then record p { waiting = map (mark k) p.waiting } else cancel p k (Some x)) ≡ places_of p
  places-aborted p k true x h = omega (arith, sum_by-mapped (λ y. cond (has_number n y) 1 0) (mark k) (λ y. cond (has_number n y) 1 0) (λ y. ap (λ b. cond b 1 0) (marked n (has_number k y) y)) p.waiting)
  places-aborted p k false x h = places-cancel p k (Some x) h

  places-attempt : (p : S) (k : ℕ) (o : Option (Call ℕ)) → find (has_number k) p.waiting ≡ o → places_of (attempt_cancel p k o) ≡ places_of p
  places-attempt p k None h = refl
  places-attempt p k (Some x) h = places-aborted p k x.without_abort x h

  spots-take : (p : S) (serving : Option (Call ℕ)) (test : Call ℕ → Bool) (o : Option (Call ℕ)) → serving ≡ None → find test p.waiting ≡ o → times_in n (take_out p test) o ≡ times_in n p serving
  spots-take p serving test None h f = omega (arith, ap (λ xs. count_by (has_number n) xs) (without_none test p.waiting f), ap (times_in_service n) h)
  spots-take p serving test (Some x) h f = omega (arith, places-take p test x f, ap (times_in_service n) h)

  spots-cancel : (p : S) (serving : Option (Call ℕ)) (k : ℕ) → serving ≡ None → times_in n (cancel p k (find (has_number k) p.waiting)) None ≡ times_in n p serving
  spots-cancel p serving k h = omega (arith, places-cancel p k (find (has_number k) p.waiting) refl, ap (times_in_service n) h)

  spots-attempt : (p : S) (serving : Option (Call ℕ)) (k : ℕ) → serving ≡ None → times_in n (attempt_cancel p k (find (has_number k) p.waiting)) None ≡ times_in n p serving
  spots-attempt p serving k h = omega (arith, places-attempt p k (find (has_number k) p.waiting) refl, ap (times_in_service n) h)

next-cancel : (p : S) (k : ℕ) (o : Option (Call ℕ)) → (cancel p k o).next ≡ p.next
next-cancel p k None = refl
next-cancel p k (Some x) = refl

next-aborted : (p : S) (k : ℕ) (b : Bool) (x : Call ℕ) → (if b then record p { waiting = map (mark k) p.waiting } else cancel p k (Some x)).next ≡ p.next
next-aborted p k true x = refl
next-aborted p k false x = refl

next-attempt : (p : S) (k : ℕ) (o : Option (Call ℕ)) → (attempt_cancel p k o).next ≡ p.next
next-attempt p k None = refl
next-attempt p k (Some x) = next-aborted p k x.without_abort x

-- if the state and the call in service are these, and each number is in as many places as before, each call is in one place
moved : (a b : StateView ℕ ℕ) (s : S) (serving : Option (Call ℕ)) → b.state ≡ s → b.serving ≡ serving → s.next ≡ a.state.next → ((n : ℕ) → times_in n s serving ≡ times_in n a.state a.serving) → IsThereOnce a → IsThereOnce b
moved a b s serving st ha nx k p =
    let next : b.state.next ≡ a.state.next = ap (λ t. t.next) st ∙ nx in record {
      low = subst (λ j. 1 ≤ j) (sym next) p.low;
      each = λ n. subst (λ j. times_in n b.state b.serving ≡ (if nat_le 1 n && nat_lt n j then 1 else 0)) (sym next) (ap₂ (times_in n) st ha ∙ (k n ∙ p.each n));
    }

-- a call that is in service ends
pub over : (a b : StateView ℕ ℕ) (x : Call ℕ) (end : End ℕ) → a.serving ≡ Some x → b.state ≡ end_call a.state x end → b.serving ≡ None → IsThereOnce a → IsThereOnce b
over a b x end h st ha p = moved a b (end_call a.state x end) None st ha refl (λ n. omega (arith, places-end_call n a.state x end, ap (times_in_service n) h)) p

in_range : (n k : ℕ) (x : Call ℕ) → x.number ≡ k → 1 ≤ k → (if nat_le 1 n && nat_lt n k then 1 else 0) + one_if n x ≡ (if nat_le 1 n && nat_lt n (k + 1) then 1 else 0)
in_range n k x is low = grind (arith, nat_tests)

-- a call with the next number is in service
pub begun : (a b : StateView ℕ ℕ) (x : Call ℕ) → a.serving ≡ None → x.number ≡ a.state.next → b.state ≡ counted a.state → b.serving ≡ Some x → IsThereOnce a → IsThereOnce b
begun a b x h number st ha p =
    let next : b.state.next ≡ a.state.next + 1 = ap (λ t. t.next) st in record {
      low = omega (arith, next);
      each = λ n. subst (λ j. times_in n b.state b.serving ≡ (if nat_le 1 n && nat_lt n j then 1 else 0)) (sym next)
          (ap₂ (times_in n) st ha ∙ omega (arith, p.each n, ap (times_in_service n) h, in_range n a.state.next x number p.low));
    }

-- a call with the next number is queued
pub joined : (a b : StateView ℕ ℕ) (x : Call ℕ) → a.serving ≡ None → x.number ≡ a.state.next → b.state ≡ queue (counted a.state) x → b.serving ≡ None → IsThereOnce a → IsThereOnce b
joined a b x h number st ha p =
    let next : b.state.next ≡ a.state.next + 1 = ap (λ t. t.next) st in record {
      low = omega (arith, next);
      each = λ n. subst (λ j. times_in n b.state b.serving ≡ (if nat_le 1 n && nat_lt n j then 1 else 0)) (sym next)
          (ap₂ (times_in n) st ha ∙ omega (arith, p.each n, ap (times_in_service n) h, in_range n a.state.next x number p.low, sum_by-push (λ y. cond (has_number n y) 1 0) a.state.waiting x));
    }

same_spot : (n : ℕ) (x y : Call ℕ) → y.number ≡ x.number → one_if n y ≡ one_if n x
same_spot n x y number = ap (λ k. one_if n (record y { number = k })) number

-- the call in service, with its number, is queued
pub rejoined : (a b : StateView ℕ ℕ) (x y : Call ℕ) → a.serving ≡ Some x → y.number ≡ x.number → b.state ≡ queue a.state y → b.serving ≡ None → IsThereOnce a → IsThereOnce b
rejoined a b x y h number st ha p = moved a b (queue a.state y) None st ha refl (λ n. omega (arith, ap (times_in_service n) h, sum_by-push (λ z. cond (has_number n z) 1 0) a.state.waiting y, same_spot n x y number)) p

-- the call in service, with its number, is queued, or ends if the queue is full
pub entered : (a b : StateView ℕ ℕ) (limit : Option ℕ) (x y : Call ℕ) → a.serving ≡ Some x → y.number ≡ x.number → b.state ≡ enter limit a.state y → b.serving ≡ None → IsThereOnce a → IsThereOnce b
entered a b limit x y h number st ha p = entered_if (is_full limit (count_by (is_on y.entry) a.state.waiting)) st
  where
    entered_if : (full : Bool) → b.state ≡ (if full then end_call a.state y ProgramError else queue a.state y) → IsThereOnce b
    entered_if true is = moved a b (end_call a.state y ProgramError) None is ha refl (λ n. omega (arith, places-end_call n a.state y ProgramError, ap (times_in_service n) h, same_spot n x y number)) p
    entered_if false is = rejoined a b x y h number is ha p

-- the same calls are there after a ticket is given up
pub same_calls : (a b : StateView ℕ ℕ) → b.state ≡ a.state → b.serving ≡ a.serving → IsThereOnce a → IsThereOnce b
same_calls a b st ha p = moved a b a.state a.serving st ha refl (λ n. refl) p

-- the call in service changes, but keeps its number
pub turned : (a b : StateView ℕ ℕ) (x y : Call ℕ) → a.serving ≡ Some x → y.number ≡ x.number → b.state ≡ a.state → b.serving ≡ Some y → IsThereOnce a → IsThereOnce b
turned a b x y h number st ha p = moved a b a.state (Some y) st ha refl (λ n. omega (arith, ap (times_in_service n) h, same_spot n x y number)) p

pub took : (a b : StateView ℕ ℕ) (test : Call ℕ → Bool) (o : Option (Call ℕ)) → a.serving ≡ None → find test a.state.waiting ≡ o → b.state ≡ take_out a.state test → b.serving ≡ o → IsThereOnce a → IsThereOnce b
took a b test o h f st ha p = moved a b (take_out a.state test) o st ha refl (λ n. spots-take n a.state a.serving test o h f) p

pub cancelled : (a b : StateView ℕ ℕ) (k : ℕ) → a.serving ≡ None → b.state ≡ cancel a.state k (find (has_number k) a.state.waiting) → b.serving ≡ None → IsThereOnce a → IsThereOnce b
cancelled a b k h st ha p = moved a b (cancel a.state k (find (has_number k) a.state.waiting)) None st ha (next-cancel a.state k (find (has_number k) a.state.waiting)) (λ n. spots-cancel n a.state a.serving k h) p

pub attempted : (a b : StateView ℕ ℕ) (k : ℕ) → a.serving ≡ None → b.state ≡ attempt_cancel a.state k (find (has_number k) a.state.waiting) → b.serving ≡ None → IsThereOnce a → IsThereOnce b
attempted a b k h st ha p = moved a b (attempt_cancel a.state k (find (has_number k) a.state.waiting)) None st ha (next-attempt a.state k (find (has_number k) a.state.waiting)) (λ n. spots-attempt n a.state a.serving k h) p
