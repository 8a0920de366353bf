-- The queues stay in order of arrival.
use Rattle.std.proofs.Common.{◌≡◌, ℕ, ◌+◌, ◌<◌, ◌≤◌, List, [], ◌∷◌, ◌++◌, length, map, get_or, refl, subst, ap, sym, ◌∙◌, arith, Bool, true, false, cond, not, ◌&&◌, nat_le, nat_lt, Option, Some, None, Result, Ok, Err, if◌then◌else◌}
use Rattle.std.specs.List.{count_by, find, All}
use Rattle.std.specs.Option.{option_map}
use Rattle.std.proofs.lemmas.List.Elements.{All-push, All-nil, All-head, All-tail, All-map, All-weaker}
use Rattle.std.proofs.lemmas.Bool.Decides.{nat_tests}
use Rattle.po_unit.specs.Meaning.{Meaning, IsLawful}
use Rattle.po_unit.specs.declared.outcome.Outcome.{Outcome}
use Rattle.po_unit.specs.declared.outcome.Outcome.TheVariants.{Complete, Raise, Requeue}
use Rattle.po_calls.specs.declared.call.Call.{Call}
use Rattle.po_calls.specs.declared.end.End.TheVariants.{Cancelled, ProgramError}
use Rattle.po_history.specs.declared.event.Event.{Event}
use Rattle.po_history.specs.declared.event.Event.TheVariants.{Issue, Procedure, Cancel, Tick, Finalize, Serve, Break, Expire}
use Rattle.po_engine.specs.ObjectState.{ObjectState, counts_in, barrier_in}
use Rattle.po_engine.specs.WaitingCalls.{has_number, is_on, mark}
use Rattle.po_engine.specs.Step.{is_full, enter, end_call, queue, conclude, run_body, arrive, take_out, cancel, attempt_cancel, serve, step, Needs, IsLegal, replay}
use Rattle.po_engine.specs.Finding.{without_first}
use Rattle.po_engine.specs.Ending.{has_ended}
use Rattle.po_engine.specs.Arrival.{noted, Rises, call_of, arrivals}
use Rattle.po_engine.proofs.Sums.{sum_by-without}
use Rattle.po_engine.proofs.Absent.{All-without}
use Rattle.po_core.proofs.Wells.{IsWell, well_after}
use Rattle.po_engine.proofs.Absent.{eq_self}
use Rattle.po_engine.proofs.Absent.{IsAbsent, absent_from_count}

pub noted_same : (places : ℕ → ℕ) (k n : ℕ) → noted places k (Some n) n ≡ k
noted_same places k n = rw (eq_self n) refl

module _ {V : Type 0} where
  -- the calls are in the order of their places, which are all below k
  pub record Ordered (places : ℕ → ℕ) (k : ℕ) (xs : List (Call V)) : Type 0 where
    pub rises : Rises places xs
    pub before : All (λ y. places y.number < k) xs

  rises_push : (places : ℕ → ℕ) (xs : List (Call V)) (x : Call V) → Rises places xs → All (λ y. places y.number < places x.number) xs → Rises places (xs ++ x ∷ [])
  rises_push places [] x h k = (All-nil (λ y. places x.number < places y.number), tt)
  rises_push places (z ∷ xs) x h k = (All-push (λ y. places z.number < places y.number) xs x h.0 (All-head (λ y. places y.number < places x.number) z xs k), rises_push places xs x h.1 (All-tail (λ y. places y.number < places x.number) z xs k))

  rises_left : (places : ℕ → ℕ) (p : Call V → Bool) (b : Bool) (x : Call V) (xs : List (Call V)) → Rises places (x ∷ xs) → Rises places (without_first p xs) → Rises places (cond b xs (x ∷ without_first p xs))
  rises_left places p true x xs h k = h.1
  rises_left places p false x xs h k = (All-without (λ y. places x.number < places y.number) p xs h.0, k)

  rises_without : (places : ℕ → ℕ) (p : Call V → Bool) (xs : List (Call V)) → Rises places xs → Rises places (without_first p xs)
  rises_without places p [] h = h
  rises_without places p (x ∷ xs) h = rises_left places p (p x) x xs h (rises_without places p xs h.1)

  -- the place of a call isn't changed by noting one for an absent call
  other_place : (places : ℕ → ℕ) (k n : ℕ) (y : Call V) → has_number n y ≡ false → noted places k (Some n) y.number ≡ places y.number
  other_place places k n y h = rw h refl

  rises_noted : (places : ℕ → ℕ) (k n : ℕ) (xs : List (Call V)) → IsAbsent n xs → Rises places xs → Rises (noted places k (Some n)) xs
  rises_noted places k n [] a h = tt
  rises_noted places k n (x ∷ xs) a h =
      let off = All-head (λ y. has_number n y ≡ false) x xs a in
      let rest = All-tail (λ y. has_number n y ≡ false) x xs a in
      (λ i d lt. rw (other_place places k n x off, other_place places k n (get_or xs i d) (rest i d lt)) (h.0 i d lt), rises_noted places k n xs rest h.1)

  before_noted : (places : ℕ → ℕ) (k n : ℕ) (xs : List (Call V)) → IsAbsent n xs → All (λ y. places y.number < k) xs → All (λ y. noted places k (Some n) y.number < k) xs
  before_noted places k n xs a h = λ i d lt. rw (other_place places k n (get_or xs i d) (a i d lt)) (h i d lt)

  pub ordered_later : (places : ℕ → ℕ) (k : ℕ) (xs : List (Call V)) → Ordered places k xs → Ordered places (k + 1) xs
  ordered_later places k xs h = record { rises = h.rises; before = λ i d lt. omega (arith, h.before i d lt) }

  pub ordered_noted : (places : ℕ → ℕ) (k n : ℕ) (xs : List (Call V)) → IsAbsent n xs → Ordered places k xs → Ordered (noted places k (Some n)) (k + 1) xs
  ordered_noted places k n xs a h = record { rises = rises_noted places k n xs a h.rises; before = λ i d lt. omega (arith, before_noted places k n xs a h.before i d lt) }

  pub ordered_push : (places : ℕ → ℕ) (k n : ℕ) (xs : List (Call V)) (x : Call V) → x.number ≡ n → IsAbsent n xs → Ordered places k xs → Ordered (noted places k (Some n)) (k + 1) (xs ++ x ∷ [])
  ordered_push places k n xs x is a h =
      let here : noted places k (Some n) x.number ≡ k = ap (noted places k (Some n)) is ∙ noted_same places k n in
      let now = ordered_noted places k n xs a h in record {
        rises = rises_push (noted places k (Some n)) xs x now.rises (λ i d lt. rw here (before_noted places k n xs a h.before i d lt));
        before = All-push (λ y. noted places k (Some n) y.number < k + 1) xs x now.before (rw here (omega arith));
      }

  pub ordered_without : (places : ℕ → ℕ) (k : ℕ) (p : Call V → Bool) (xs : List (Call V)) → Ordered places k xs → Ordered places k (without_first p xs)
  ordered_without places k p xs h = record { rises = rises_without places p xs h.rises; before = All-without (λ y. places y.number < k) p xs h.before }

  pub ordered_nil : (places : ℕ → ℕ) (k : ℕ) → Ordered places k []
  ordered_nil places k = record { rises = tt; before = All-nil (λ y. places y.number < k) }

  marked_number : (b : Bool) (x : Call V) → (if b then record x { aborted = true } else x).number ≡ x.number
  marked_number true x = refl
  marked_number false x = refl

  pub marked_all : (n : ℕ) (P : ℕ → Type 0) (xs : List (Call V)) → All (λ y. P y.number) xs → All (λ y. P y.number) (map (mark n) xs)
  marked_all n P xs h = All-map (λ y. P y.number) (mark n) xs (All-weaker (λ y. P y.number) (λ y. P (mark n y).number) (λ y q. subst P (sym (marked_number (has_number n y) y)) q) xs h)

  rises_marked : (places : ℕ → ℕ) (n : ℕ) (xs : List (Call V)) → Rises places xs → Rises places (map (mark n) xs)
  rises_marked places n [] h = tt
  rises_marked places n (x ∷ xs) h = (subst (λ j. All (λ y. places j < places y.number) (map (mark n) xs)) (sym (marked_number (has_number n x) x)) (marked_all n (λ j. places x.number < places j) xs h.0), rises_marked places n xs h.1)

  pub ordered_marked : (places : ℕ → ℕ) (k n : ℕ) (xs : List (Call V)) → Ordered places k xs → Ordered places k (map (mark n) xs)
  ordered_marked places k n xs h = record { rises = rises_marked places n xs h.rises; before = marked_all n (λ j. places j < k) xs h.before }

module _ {S V : Type 0} (m : Meaning S V) (law : IsLawful m) (limit : Option ℕ) (total first : ℕ) (places : ℕ → ℕ) (k : ℕ) where
  -- after a call that isn't queued is concluded
  entered : (b : Bool) (p : ObjectState S V) (n : ℕ) (x : Call V) → x.number ≡ n → IsAbsent n p.waiting → Ordered places k p.waiting → Ordered (noted places k (Some n)) (k + 1) (if b then end_call p x ProgramError else queue p x).waiting
  entered true p n x is a h = ordered_noted places k n p.waiting a h
  entered false p n x is a h = ordered_push places k n p.waiting x is a h

  ordered_enter : (p : ObjectState S V) (n : ℕ) (x : Call V) → x.number ≡ n → IsAbsent n p.waiting → Ordered places k p.waiting → Ordered (noted places k (Some n)) (k + 1) (enter limit p x).waiting
  ordered_enter p n x is a h = entered (is_full limit (count_by (is_on x.entry) p.waiting)) p n x is a h

  concluded : (b : Bool) (p : ObjectState S V) (n : ℕ) (x y : Call V) → y.number ≡ n → IsAbsent n p.waiting → Ordered places k p.waiting → Ordered (noted places k (Some n)) (k + 1) (if b then end_call p x Cancelled else enter limit p y).waiting
  concluded true p n x y is a h = ordered_noted places k n p.waiting a h
  concluded false p n x y is a h = ordered_enter p n y is a h

  ordered_conclude : (p : ObjectState S V) (n : ℕ) (x : Call V) (o : Outcome V) → x.number ≡ n → IsAbsent n p.waiting → Ordered places k p.waiting → Ordered (noted places k (Some n)) (k + 1) (conclude limit p x o).waiting
  ordered_conclude p n x (Complete v) is a h = ordered_noted places k n p.waiting a h
  ordered_conclude p n x (Raise j) is a h = ordered_noted places k n p.waiting a h
  ordered_conclude p n x (Requeue t b v) is a h = concluded (b && x.aborted) p n x (record x { entry = t; value = v; without_abort = not b }) is a h

  ordered_run_body : (p : ObjectState S V) (n : ℕ) (x : Call V) → x.number ≡ n → IsAbsent n p.waiting → Ordered places k p.waiting → Ordered (noted places k (Some n)) (k + 1) (run_body m limit p x).waiting
  ordered_run_body p n x is a h = let r = m.body p.unit x.entry x.value (counts_in m p) in ordered_conclude (record p { unit = r.0 }) n x r.1 is a h

  ordered_arrive : (p : ObjectState S V) (n : ℕ) (x : Call V) (r : Result Bool ℕ) → x.number ≡ n → IsAbsent n p.waiting → Ordered places k p.waiting → Ordered (noted places k (Some n)) (k + 1) (arrive m limit p x r).waiting
  ordered_arrive p n x (Ok true) is a h = ordered_run_body p n x is a h
  ordered_arrive p n x (Ok false) is a h = ordered_enter p n x is a h
  ordered_arrive p n x (Err j) is a h = ordered_nil (noted places k (Some n)) (k + 1)

  at_most : (b : Bool) (j : ℕ) → j ≡ (if b then 1 else 0) → j ≤ 1
  at_most true j h = omega arith
  at_most false j h = omega arith

  ordered_serve : (p : ObjectState S V) (e : ℕ) (o : Option (Call V)) → IsWell m law limit total first p → find (is_on e) p.waiting ≡ o → Ordered places k p.waiting → Ordered (noted places k (option_map (λ x. x.number) o)) (k + 1) (serve m limit p e o).waiting
  ordered_serve p e None w i h = ordered_later places k p.waiting h
  ordered_serve p e (Some x) w i h =
      let one : (ℕ → Bool) → ℕ = λ f. cond (f x.number) 1 0 in
      let few : count_by (has_number x.number) p.waiting ≤ 1 = omega (arith, at_most _ _ (w.placed x.number)) in
      let parts = sum_by-without (λ y. cond (has_number x.number y) 1 0) (is_on e) p.waiting x i in
      let self : cond (has_number x.number x) 1 0 ≡ one (λ j. true) = rw (eq_self x.number) refl in
      let none : count_by (has_number x.number) (without_first (is_on e) p.waiting) ≡ 0 = omega (arith, parts, self, few) in
      ordered_run_body (take_out p (is_on e)) x.number x refl (absent_from_count x.number (without_first (is_on e) p.waiting) none) (ordered_without places k (is_on e) p.waiting h)

  ordered_cancel : (p : ObjectState S V) (n : ℕ) (o : Option (Call V)) → Ordered places k p.waiting → Ordered places k (cancel p n o).waiting
  ordered_cancel p n None h = h
  ordered_cancel p n (Some x) h = ordered_without places k (has_number n) p.waiting h

  ordered_if : (b : Bool) (p q : ObjectState S V) → Ordered places k p.waiting → Ordered places k q.waiting → Ordered places k (if b then p else q).waiting
  ordered_if true p q h i = h
  ordered_if false p q h i = i

  ordered_attempt : (p : ObjectState S V) (n : ℕ) (o : Option (Call V)) → Ordered places k p.waiting → Ordered places k (attempt_cancel p n o).waiting
  ordered_attempt p n None h = h
  ordered_attempt p n (Some x) h = ordered_if x.without_abort (record p { waiting = map (mark n) p.waiting }) (cancel p n (Some x)) (ordered_marked places k n p.waiting h) (ordered_cancel p n (Some x) h)

  bit_new : (n next j : ℕ) → n ≡ next → j ≡ (if nat_le first n && nat_lt n next then 1 else 0) → j ≡ 0
  bit_new n next j is h = grind (arith, nat_tests)

  ordered_after : (p : ObjectState S V) (e : Event V) → Needs m p e → IsWell m law limit total first p → Ordered places k p.waiting → Ordered (noted places k (call_of p e)) (k + 1) (step m limit p e).waiting
  ordered_after p (Issue n owner e v d) need w h =
      let none = bit_new n p.next (count_by (has_number n) p.waiting + count_by (has_ended n) p.ended) need.2 (w.placed n) in
      ordered_arrive (record p { next = p.next + 1 }) n (record { number = n; owner = owner; entry = e; value = v; without_abort = false; aborted = false; deadline = d }) (barrier_in m p e) refl (absent_from_count n p.waiting (omega (arith, none))) h
  ordered_after p (Procedure owner op v reply) need w h = ordered_later places k p.waiting h
  ordered_after p (Cancel n) need w h = ordered_later places k (step m limit p (Cancel n)).waiting (ordered_attempt p n (find (has_number n) p.waiting) h)
  ordered_after p (Tick t) need w h = ordered_later places k p.waiting h
  ordered_after p Finalize need w h = ordered_nil (noted places k None) (k + 1)
  ordered_after p (Serve e) need w h = ordered_serve p e (find (is_on e) p.waiting) w refl h
  ordered_after p (Break e) need w h = ordered_nil (noted places k None) (k + 1)
  ordered_after p (Expire n) need w h = ordered_later places k (step m limit p (Expire n)).waiting (ordered_cancel p n (find (has_number n) p.waiting) h)

module _ {S V : Type 0} (m : Meaning S V) (law : IsLawful m) (limit : Option ℕ) (total first : ℕ) where
  pub ordered_all : (places : ℕ → ℕ) (k : ℕ) (p : ObjectState S V) (es : List (Event V)) → IsLegal m limit p es → IsWell m law limit total first p → Ordered places k p.waiting → Ordered (arrivals m limit p k places es) (k + length es) (replay m limit p es).waiting
  ordered_all places k p [] l w h = subst (λ j. Ordered places j p.waiting) (omega arith) h
  ordered_all places k p (e ∷ es) l w h =
      let q = step m limit p e in
      let to = noted places k (call_of p e) in
      subst (λ j. Ordered (arrivals m limit q (k + 1) to es) j (replay m limit q es).waiting) (omega arith) (ordered_all to (k + 1) q es l.1 (well_after m law limit total first p e l.0 w) (ordered_after m law limit total first places k p e l.0 w h))
