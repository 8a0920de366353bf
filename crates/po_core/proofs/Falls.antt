-- Each inner event lowers the weight and the room that is owed.
use Rattle.std.proofs.Common.{◌≡◌, ℕ, ◌+◌, ◌<◌, ◌≤◌, List, [], ◌∷◌, map, refl, subst, ap, sym, ◌∙◌, arith, Bool, true, false, cond, not, ◌&&◌, Option, Some, None, Result, Ok, Err, if◌then◌else◌, IsSome}
use Rattle.std.specs.List.{sum_by, count_by, find}
use Rattle.po_unit.specs.Meaning.{Meaning, IsLawful, LowersRank}
use Rattle.po_unit.specs.declared.outcome.Outcome.{Outcome}
use Rattle.po_unit.specs.declared.outcome.Outcome.TheVariants.{Complete, Raise, Requeue}
use Rattle.po_calls.specs.declared.call.Call.{Call}
use Rattle.po_calls.specs.declared.call.Deadline.{Deadline}
use Rattle.po_calls.specs.declared.end.End.TheVariants.{Cancelled, ProgramError}
use Rattle.po_history.specs.declared.event.Event.{Event}
use Rattle.po_history.specs.declared.event.Event.TheVariants.{Issue, Procedure, Cancel, Tick, Finalize, Serve, Break, Expire}
use Rattle.po_engine.specs.ObjectState.{ObjectState, barrier_in, counts_in}
use Rattle.po_engine.specs.WaitingCalls.{has_number, is_on, is_due, mark}
use Rattle.po_engine.specs.Step.{is_full, enter, end_call, end_all, queue, conclude, run_body, take_out, arrive, attempt_cancel, cancel, serve, step, Needs, IsLegal, replay}
use Rattle.po_engine.specs.Finding.{IsFound}
use Rattle.po_engine.specs.Pick.{weight, owed, Fits}
use Rattle.po_engine.proofs.Sums.{sum_by-cons, sum_by-push, sum_by-without}

-- each call weighs its rank and an extra that depends on whether it is marked
module _ {S V : Type 0} (m : Meaning S V) (law : IsLawful m) (limit : Option ℕ) (extra : Bool → ℕ) (some : (b : Bool) → 1 ≤ extra b) where
  abbrev pub weight_of : Call V → ℕ
  weight_of x = m.rank x.entry x.value + extra x.aborted

  abbrev pub load : ObjectState S V → ℕ
  load p = sum_by weight_of p.waiting

  -- the load is lower by one, and whether the object is finalized stays
  pub record Lower (p q : ObjectState S V) (k : ℕ) : Type 0 where
    pub lower : load q + 1 ≤ load p + k
    pub finalized : q.finalized ≡ p.finalized

  lower_if : (b : Bool) (p q r : ObjectState S V) (k : ℕ) → Lower p q k → Lower p r k → Lower p (if b then q else r) k
  lower_if true p q r k h i = h
  lower_if false p q r k h i = i

  lower_entered : (b : Bool) (p : ObjectState S V) (x : Call V) (k : ℕ) → weight_of x + 1 ≤ k → Lower p (if b then end_call p x ProgramError else queue p x) k
  lower_entered true p x k h = record { lower = omega (arith, h); finalized = refl }
  lower_entered false p x k h = record { lower = omega (arith, h, sum_by-push weight_of p.waiting x); finalized = refl }

  lower_enter : (p : ObjectState S V) (x : Call V) (k : ℕ) → weight_of x + 1 ≤ k → Lower p (enter limit p x) k
  lower_enter p x k h = lower_entered (is_full limit (count_by (is_on x.entry) p.waiting)) p x k h

  lower_conclude : (u : S) (p : ObjectState S V) (x : Call V) (o : Outcome V) → LowersRank m u x.entry x.value o → Lower p (conclude limit p x o) (weight_of x)
  lower_conclude u p x (Complete v) l = record { lower = omega (arith, some x.aborted); finalized = refl }
  lower_conclude u p x (Raise k) l = record { lower = omega (arith, some x.aborted); finalized = refl }
  lower_conclude u p x (Requeue t a v) l =
      let y : Call V = record x { entry = t; value = v; without_abort = not a } in
      lower_if (a && x.aborted) p (end_call p x Cancelled) (enter limit p y) (weight_of x)
      (record { lower = omega (arith, some x.aborted); finalized = refl })
      (lower_enter p y (weight_of x) (omega (arith, l.1)))

  lower_run_body : (p : ObjectState S V) (x : Call V) → Lower p (run_body m limit p x) (weight_of x)
  lower_run_body p x =
      let c = counts_in m p in
      let r = m.body p.unit x.entry x.value c in
      let h = lower_conclude p.unit (record p { unit = r.0 }) x r.1 (law.requeues p.unit x.entry x.value c) in
      record { lower = h.lower; finalized = h.finalized }

  lower_serve : (p : ObjectState S V) (e : ℕ) (o : Option (Call V)) → find (is_on e) p.waiting ≡ o → IsSome o → Lower p (serve m limit p e o) 0
  lower_serve p e None h is = cc
  lower_serve p e (Some x) h is =
      let k = lower_run_body (take_out p (is_on e)) x in
      record { lower = omega (arith, k.lower, sum_by-without weight_of (is_on e) p.waiting x h); finalized = k.finalized }

  lower_break : (p : ObjectState S V) (e : ℕ) (o : Option (Call V)) → find (is_on e) p.waiting ≡ o → IsSome o → Lower p (end_all p ProgramError) 0
  lower_break p e None h is = cc
  lower_break p e (Some x) h is = record { lower = omega (arith, some x.aborted, sum_by-without weight_of (is_on e) p.waiting x h); finalized = refl }

  lower_cancel : (P : Call V → Type 0) (p : ObjectState S V) (n : ℕ) (o : Option (Call V)) → find (has_number n) p.waiting ≡ o → IsFound P o → Lower p (cancel p n o) 0
  lower_cancel P p n None h is = absurd is
  lower_cancel P p n (Some x) h is = record { lower = omega (arith, some x.aborted, sum_by-without weight_of (has_number n) p.waiting x h); finalized = refl }

  pub lower_inner : (p : ObjectState S V) (e : Event V) → Fits m p e → Lower p (step m limit p e) 0
  lower_inner p (Serve e) h = lower_serve p e (find (is_on e) p.waiting) refl h.1
  lower_inner p (Break e) h = lower_break p e (find (is_on e) p.waiting) refl h.1
  lower_inner p (Expire n) h = lower_cancel (λ x. is_due p.clock x ≡ true) p n (find (has_number n) p.waiting) refl h.1
  lower_inner p (Issue n owner e v d) h = absurd h
  lower_inner p (Procedure owner op v reply) h = absurd h
  lower_inner p (Cancel n) h = absurd h
  lower_inner p (Tick t) h = absurd h
  lower_inner p Finalize h = absurd h

  -- a new call adds at most its own weight
  pub lower_arrive : (p : ObjectState S V) (x : Call V) (r : Result Bool ℕ) → (load (arrive m limit p x r) ≤ load p + weight_of x) × ((arrive m limit p x r).finalized ≡ p.finalized)
  lower_arrive p x (Ok true) = let h = lower_run_body p x in (omega (arith, h.lower), h.finalized)
  lower_arrive p x (Ok false) = let h = lower_enter p x (weight_of x + 1) (omega arith) in (omega (arith, h.lower), h.finalized)
  lower_arrive p x (Err k) = (omega arith, refl)

abbrev pub one_more : Bool → ℕ
one_more b = 1

abbrev pub one_or_two : Bool → ℕ
one_or_two b = if b then 1 else 2

one_or_two_some : (b : Bool) → 1 ≤ one_or_two b
one_or_two_some true = omega arith
one_or_two_some false = omega arith

module _ {S V : Type 0} (m : Meaning S V) (law : IsLawful m) (limit : Option ℕ) where
  pub weight_falls : (p : ObjectState S V) (e : Event V) → Fits m p e → weight m (step m limit p e) < weight m p
  weight_falls p e h = omega (arith, (lower_inner m law limit one_more (λ b. omega arith) p e h).lower)

  pub owed_falls : (p : ObjectState S V) (e : Event V) → Fits m p e → owed m (step m limit p e) + 1 ≤ owed m p
  owed_falls p e h =
      let k = lower_inner m law limit one_or_two one_or_two_some p e h in
      let bit : Bool → ℕ = λ b. if b then 0 else 1 in
      omega (arith, k.lower, ap bit k.finalized)

  bit : Bool → ℕ
  bit b = if b then 0 else 1

  -- an issue makes up for what its call may need, and every other own event needs nothing new
  pub owed_issue : (p : ObjectState S V) (n owner e : ℕ) (v : V) (d : Deadline) → owed m (step m limit p (Issue n owner e v d)) ≤ owed m p + (m.rank e v + 2)
  unfolding bit
  owed_issue p n owner e v d =
      let x : Call V = record { number = n; owner = owner; entry = e; value = v; without_abort = false; aborted = false; deadline = d } in
      let k = lower_arrive m law limit one_or_two one_or_two_some (record p { next = p.next + 1 }) x (barrier_in m p e) in
      omega (arith, k.0, ap bit k.1)

  abbrev weighs : Call V → ℕ
  weighs x = m.rank x.entry x.value + one_or_two x.aborted

  mark_le : (b : Bool) (x : Call V) → weighs (if b then record x { aborted = true } else x) ≤ weighs x
  mark_le true x = omega (arith, one_or_two_some x.aborted)
  mark_le false x = omega arith

  marks_le : (n : ℕ) (xs : List (Call V)) → sum_by weighs (map (mark n) xs) ≤ sum_by weighs xs
  marks_le n [] = omega arith
  marks_le n (x ∷ xs) = omega (arith, mark_le (has_number n x) x, marks_le n xs, sum_by-cons weighs x xs, sum_by-cons weighs (mark n x) (map (mark n) xs))

  unmarked : (x : Call V) (a : Bool) → x.aborted ≡ a → a ≡ false → weighs (record x { aborted = true }) + 1 ≡ weighs x
  unmarked x true e h = cc
  unmarked x false e h = rw e (omega arith)

  marks_first : (n : ℕ) (b : Bool) (x y : Call V) (xs : List (Call V)) → has_number n x ≡ b → cond b (Some x) (find (has_number n) xs) ≡ Some y → y.aborted ≡ false → (find (has_number n) xs ≡ Some y → sum_by weighs (map (mark n) xs) + 1 ≤ sum_by weighs xs) → weighs (if b then record x { aborted = true } else x) + sum_by weighs (map (mark n) xs) + 1 ≤ weighs x + sum_by weighs xs
  marks_first n true x y xs e h k r =
      let same : x ≡ y = cc in
      omega (arith, marks_le n xs, unmarked x x.aborted refl (ap (λ z. z.aborted) same ∙ k))
  marks_first n false x y xs e h k r = omega (arith, r h)

  marks_lower : (n : ℕ) (xs : List (Call V)) (y : Call V) → find (has_number n) xs ≡ Some y → y.aborted ≡ false → sum_by weighs (map (mark n) xs) + 1 ≤ sum_by weighs xs
  marks_lower n [] y h k = cc
  marks_lower n (x ∷ xs) y h k = omega (arith, marks_first n (has_number n x) x y xs refl h k (λ i. marks_lower n xs y i k), sum_by-cons weighs x xs, sum_by-cons weighs (mark n x) (map (mark n) xs))

  with_abort_or : (b c : Bool) → b ≡ true → (b && c) ≡ false → c ≡ false
  with_abort_or true c h k = k
  with_abort_or false c h k = cc

  attempted_owed : (p : ObjectState S V) (n : ℕ) (b : Bool) (x : Call V) → x.without_abort ≡ b → find (has_number n) p.waiting ≡ Some x → (x.without_abort && x.aborted) ≡ false → owed m (if b then record p { waiting = map (mark n) p.waiting } else cancel p n (Some x)) + 1 ≤ owed m p
  attempted_owed p n true x s h k = omega (arith, marks_lower n p.waiting x h (with_abort_or x.without_abort x.aborted s k))
  attempted_owed p n false x s h k = omega (arith, one_or_two_some x.aborted, sum_by-without weighs (has_number n) p.waiting x h)

  attempt_owed : (p : ObjectState S V) (n : ℕ) (o : Option (Call V)) → find (has_number n) p.waiting ≡ o → IsFound (λ x. (x.without_abort && x.aborted) ≡ false) o → owed m (attempt_cancel p n o) + 1 ≤ owed m p
  attempt_owed p n None h k = absurd k
  attempt_owed p n (Some x) h k = attempted_owed p n x.without_abort x refl h k

  pub owed_attempt : (p : ObjectState S V) (n : ℕ) → IsFound (λ x. (x.without_abort && x.aborted) ≡ false) (find (has_number n) p.waiting) → owed m (step m limit p (Cancel n)) + 1 ≤ owed m p
  owed_attempt p n k = attempt_owed p n (find (has_number n) p.waiting) refl k

-- A finalized object has no waiting call.
abbrev pub IsEmptied : {S V : Type 0} → ObjectState S V → Type 0
IsEmptied p = p.finalized ≡ true → p.waiting ≡ []

module _ {S V : Type 0} (m : Meaning S V) (law : IsLawful m) (limit : Option ℕ) where
  still_alive : (p q : ObjectState S V) → q.finalized ≡ p.finalized → p.finalized ≡ false → IsEmptied q
  still_alive p q same alive h = let bad : false ≡ true = sym alive ∙ (sym same ∙ h) in cc

  none_found : (p : ObjectState S V) (test : Call V → Bool) (o : Option (Call V)) → find test p.waiting ≡ o → IsSome o → p.waiting ≡ [] → (q : List (Call V)) → q ≡ []
  none_found p test o h is e q = let none : find test p.waiting ≡ None = rw e refl in let bad : o ≡ None = sym h ∙ none in let also : IsSome {T = Call V} None = subst IsSome bad is in cc

  some_found : (P : Call V → Type 0) (o : Option (Call V)) → IsFound P o → IsSome o
  some_found P None h = absurd h
  some_found P (Some x) h = refl

  dead_cancel : (p : ObjectState S V) (n : ℕ) (o : Option (Call V)) → (cancel p n o).finalized ≡ p.finalized
  dead_cancel p n None = refl
  dead_cancel p n (Some x) = refl

  dead_if : (b : Bool) (p q r : ObjectState S V) → q.finalized ≡ p.finalized → r.finalized ≡ p.finalized → (if b then q else r).finalized ≡ p.finalized
  dead_if true p q r h k = h
  dead_if false p q r h k = k

  dead_attempt : (p : ObjectState S V) (n : ℕ) (o : Option (Call V)) → (attempt_cancel p n o).finalized ≡ p.finalized
  dead_attempt p n None = refl
  dead_attempt p n (Some x) = dead_if x.without_abort p (record p { waiting = map (mark n) p.waiting }) (cancel p n (Some x)) refl refl

  dead_arrive : (p : ObjectState S V) (x : Call V) (r : Result Bool ℕ) → (arrive m limit p x r).finalized ≡ p.finalized
  dead_arrive p x r = (lower_arrive m law limit one_more (λ b. omega arith) p x r).1

  emptied_after : (p : ObjectState S V) (e : Event V) → Needs m p e → IsEmptied p → IsEmptied (step m limit p e)
  emptied_after p (Issue n owner e v d) need h = still_alive p (step m limit p (Issue n owner e v d)) (dead_arrive (record p { next = p.next + 1 }) (record { number = n; owner = owner; entry = e; value = v; without_abort = false; aborted = false; deadline = d }) (barrier_in m p e)) need.0.alive
  emptied_after p (Procedure owner op v reply) need h = still_alive p (step m limit p (Procedure owner op v reply)) refl need.0.alive
  emptied_after p (Cancel n) need h = still_alive p (step m limit p (Cancel n)) (dead_attempt p n (find (has_number n) p.waiting)) need.0.alive
  emptied_after p (Tick t) need h = still_alive p (step m limit p (Tick t)) refl need.alive
  emptied_after p Finalize need h = λ _. refl
  emptied_after p (Break e) need h = λ _. refl
  emptied_after p (Serve e) need h = λ k. none_found p (is_on e) (find (is_on e) p.waiting) refl need.0 (h (sym (lower_serve m law limit one_more (λ b. omega arith) p e (find (is_on e) p.waiting) refl need.0).finalized ∙ k)) _
  emptied_after p (Expire n) need h = λ k. none_found p (has_number n) (find (has_number n) p.waiting) refl (some_found (λ x. is_due p.clock x ≡ true) (find (has_number n) p.waiting) need.1) (h (sym (dead_cancel p n (find (has_number n) p.waiting)) ∙ k)) _

  pub emptied : (p : ObjectState S V) (es : List (Event V)) → IsLegal m limit p es → IsEmptied p → IsEmptied (replay m limit p es)
  emptied p [] l h = h
  emptied p (e ∷ es) l h = emptied (step m limit p e) es l.1 (emptied_after p e l.0 h)
