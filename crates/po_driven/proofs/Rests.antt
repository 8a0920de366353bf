-- When an object is at rest.
use Rattle.std.proofs.Common.{◌≡◌, ◌∙◌, ◌++◌, ℕ, ◌<◌, List, [], ◌∷◌, map, Bool, true, false, Option, Some, None, cond, sym, refl, subst, arith}
use Rattle.std.specs.Prelude.{if◌then◌else◌, IsSome}
use Rattle.std.specs.List.{All, find}
use Rattle.std.proofs.lemmas.List.Elements.{All-head, All-nil, All-map, All-push, All-weaker}
use Rattle.po_calls.specs.declared.call.Call.{Call}
use Rattle.po_engine.specs.WaitingCalls.{has_number, is_due, mark}
use Rattle.po_engine.specs.ObjectState.{ObjectState}
use Rattle.po_engine.specs.StateView.{StateView}
use Rattle.po_engine.specs.Step.{attempt_cancel}
use Rattle.po_driven.specs.AtRest.{AskedBelow, IsAtRest, told}

marked_entry : (b : Bool) (x : Call ℕ) → (if b then record x { aborted = true } else x).entry ≡ x.entry
marked_entry true x = refl
marked_entry false x = refl

marked_due : (t : ℕ) (b : Bool) (x : Call ℕ) → is_due t (if b then record x { aborted = true } else x) ≡ is_due t x
marked_due t true x = refl
marked_due t false x = refl

none_if : (b : Bool) (x : Call ℕ) (rest : Option (Call ℕ)) → cond b (Some x) rest ≡ None → b ≡ false
none_if true x rest h = let bad : Some x ≡ None = h in absurd (cc)
none_if false x rest h = refl

-- if no call is due, none is due after one is marked
none_marked : (t n : ℕ) (xs : List (Call ℕ)) → find (is_due t) xs ≡ None → find (is_due t) (map (mark n) xs) ≡ None
none_marked t n [] h = refl
none_marked t n (x ∷ xs) h =
    let off = none_if (is_due t x) x (find (is_due t) xs) h in
    let later : find (is_due t) xs ≡ None = simp off at h in
    let still : is_due t (mark n x) ≡ false = marked_due t (has_number n x) x ∙ off in
    simp still (none_marked t n xs later)

pub marks : (s : ObjectState ℕ ℕ) (n : ℕ) (x : Call ℕ) (o : Option (Call ℕ)) → o ≡ Some x → x.without_abort ≡ true → attempt_cancel s n o ≡ record s { waiting = map (mark n) s.waiting }
marks s n x o found without_abort = rw (found, without_abort) refl

-- a mark leaves an object at rest
pub rests_marked : (o new : StateView ℕ ℕ) (n : ℕ) (x : Call ℕ) → find (has_number n) o.state.waiting ≡ Some x → x.without_abort ≡ true
    → new.state ≡ attempt_cancel o.state n (find (has_number n) o.state.waiting) → new.serving ≡ o.serving → (closed : List ℕ) → IsAtRest o closed → IsAtRest new closed
rests_marked o new n x found without_abort is serving closed rest =
    let now = is ∙ marks o.state n x (find (has_number n) o.state.waiting) found without_abort in record {
      idle = serving ∙ rest.idle;
      closed = subst (λ s. All (λ y. told closed y.entry ≡ true) s.waiting) (sym now)
          (All-map (λ y. told closed y.entry ≡ true) (mark n) o.state.waiting (All-weaker (λ y. told closed y.entry ≡ true) (λ y. told closed (mark n y).entry ≡ true) (λ y k. subst (λ e. told closed e ≡ true) (sym (marked_entry (has_number n y) y)) k) o.state.waiting rest.closed));
      none_due = subst (λ s. find (is_due s.clock) s.waiting ≡ None) (sym now) (none_marked o.state.clock n o.state.waiting rest.none_due);
    }

-- an option that is no call is none
pub is_none : (o : Option (Call ℕ)) → ((x : Call ℕ) → o ≡ Some x → ⊥) → o ≡ None
is_none None h = refl
is_none (Some x) h = absurd (h x refl)

-- no call is on an entry below the first
pub none_waits : (xs : List (Call ℕ)) → All (λ x. x.entry < 0) xs → xs ≡ []
none_waits [] h = refl
none_waits (x ∷ xs) h = absurd (omega (arith, All-head (λ y. y.entry < 0) x xs h))

-- an object with no queued call and no body that runs is at rest
pub rests_idle : (o : StateView ℕ ℕ) (closed : List ℕ) → o.serving ≡ None → o.state.waiting ≡ [] → IsAtRest o closed
rests_idle o closed idle none = record {
  idle = idle;
  closed = subst (All (λ x. told closed x.entry ≡ true)) (sym none) (All-nil (λ x. told closed x.entry ≡ true));
  none_due = subst (λ xs. find (is_due o.state.clock) xs ≡ None) (sym none) refl;
}

-- if no call is queued, none is found
pub none_found : (p : Call ℕ → Bool) (xs : List (Call ℕ)) → xs ≡ [] → IsSome (find p xs) → ⊥
none_found p xs none found = let bad : false ≡ true = subst (λ l. IsSome (find p l)) none found in absurd (cc)

-- Once the entry that was asked for is reported closed, only entries below the next one were.
pub asked_through : (closed : List ℕ) (e next : ℕ) → AskedBelow closed e → e < next → AskedBelow (closed ++ e ∷ []) next
asked_through closed e next below lt =
    All-push (λ n. n < next) closed e (All-weaker (λ n. n < e) (λ n. n < next) (λ n k. omega (arith, k, lt)) closed below) lt
