-- Which inner event follows in textual order.
use Rattle.std.proofs.Common.{ℕ, ◌≡◌, ◌∙◌, ◌<◌, ◌==◌, ◌||◌, List, [], ◌∷◌, Bool, true, false, cond, Ok, Err, Some, None, ap, refl, sym, subst, arith}
use Rattle.std.specs.Prelude.{IsSome}
use Rattle.std.specs.List.{All, find, list_any}
use Rattle.std.specs.Option.{option_map, option_or}
use Rattle.std.proofs.lemmas.Bool.{eqb-true}
use Rattle.std.proofs.lemmas.List.Elements.{All-head, All-tail}
use Rattle.po_unit.specs.Meaning.{Meaning}
use Rattle.po_calls.specs.declared.call.Call.{Call}
use Rattle.po_engine.specs.WaitingCalls.{is_due, is_on}
use Rattle.po_queues.specs.Turns.{selection_if, tells_nothing, turn}
use Rattle.po_queues.specs.declared.selection.Selection.{Selection}
use Rattle.po_queues.specs.declared.selection.Selection.TheVariants.{Broken, Quiet, Ready}
use Rattle.po_queues.specs.declared.order.Order.TheVariants.{Textual}
use Rattle.po_queues.proofs.RangeLemmas.{range_found, range_quiet}
use Rattle.po_history.specs.declared.event.Event.TheVariants.{Break, Expire, Serve}
use Rattle.po_engine.specs.ObjectState.{IsQuiet, ObjectState, barrier_in}
use Rattle.po_engine.specs.Pick.{event_of, next_turn, pick, turn_of}

module _ (P : ℕ → Type 0) (k : ℕ) where
  any_if : (b : Bool) (x : Call ℕ) (xs : List (Call ℕ)) → (x.entry == k) ≡ b → (b || list_any (is_on k) xs) ≡ true → P x.entry → (list_any (is_on k) xs ≡ true → P k) → P k
  any_if true x xs is any here rest = subst P (eqb-true x.entry k is) here
  any_if false x xs is any here rest = rest any

  -- what holds of the entries of all queued calls holds of an entry on which one is queued
  pub any_holds : (xs : List (Call ℕ)) → All (λ x. P x.entry) xs → list_any (is_on k) xs ≡ true → P k
  any_holds [] all any = let bad : false ≡ true = any in absurd (cc)
  any_holds (x ∷ xs) all any = any_if (x.entry == k) x xs refl any (All-head (λ y. P y.entry) x xs all) (any_holds xs (All-tail (λ y. P y.entry) x xs all))

found_if : (b : Bool) (e : ℕ) (x : Call ℕ) (xs : List (Call ℕ)) → IsSome (cond b (Some x) (find (is_on e) xs)) → (IsSome (find (is_on e) xs) → list_any (is_on e) xs ≡ true) → (b || list_any (is_on e) xs) ≡ true
found_if true e x xs some rest = refl
found_if false e x xs some rest = rest some

any_found : (e : ℕ) (xs : List (Call ℕ)) → IsSome (find (is_on e) xs) → list_any (is_on e) xs ≡ true
any_found e [] some = let bad : false ≡ true = some in absurd (cc)
any_found e (x ∷ xs) some = found_if (x.entry == e) e x xs some (any_found e xs)

module _ {S : Type 0} (m : Meaning S ℕ) (s : ObjectState S ℕ) where
  quiet_if : (k : ℕ) (b : Bool) → (b ≡ true → barrier_in m s k ≡ Ok false) → selection_if b (turn k (barrier_in m s k)) ≡ Quiet
  quiet_if k true closed = ap (λ o. turn k o) (closed refl)
  quiet_if k false closed = refl

  -- an entry is passed over if it is closed, or no call is queued on it
  passed : (k : ℕ) → (list_any (is_on k) s.waiting ≡ true → barrier_in m s k ≡ Ok false) → turn_of m s k ≡ Quiet
  passed k closed = quiet_if k (list_any (is_on k) s.waiting) closed

  module _ (e : ℕ) (there : e < m.entries s.unit) (below : All (λ x. x.entry < e → barrier_in m s x.entry ≡ Ok false) s.waiting) (busy : IsSome (find (is_on e) s.waiting)) where
    next_is : (look : Selection) → turn e (barrier_in m s e) ≡ look → tells_nothing look ≡ false → next_turn m Textual None s ≡ look
    next_is look is told =
        let here : turn_of m s e ≡ look = ap (λ b. selection_if b (turn e (barrier_in m s e))) (any_found e s.waiting busy) ∙ is in
        range_found (turn_of m s) 0 (m.entries s.unit) e (omega arith) there
        (λ k low lt. passed k (λ any. any_holds (λ j. j < e → barrier_in m s j ≡ Ok false) k s.waiting below any lt)) (subst (λ l. tells_nothing l ≡ false) (sym here) told) ∙ here

    pub serves_next : barrier_in m s e ≡ Ok true → pick m Textual None s ≡ Some (Serve e)
    serves_next barrier =
        ap (λ l. option_or (event_of l) (option_map (λ x. Expire x.number) (find (is_due s.clock) s.waiting))) (next_is (Ready e) (ap (turn e) barrier) refl)

    pub breaks_next : (j : ℕ) → barrier_in m s e ≡ Err j → pick m Textual None s ≡ Some (Break e)
    breaks_next j barrier =
        ap (λ l. option_or (event_of l) (option_map (λ x. Expire x.number) (find (is_due s.clock) s.waiting))) (next_is (Broken e) (ap (turn e) barrier) refl)

  -- if all queued calls are on closed entries, the first call that is due is next
  pub expires_next : IsQuiet m s → (x : Call ℕ) → find (is_due s.clock) s.waiting ≡ Some x → pick m Textual None s ≡ Some (Expire x.number)
  expires_next calm x found =
      let none : next_turn m Textual None s ≡ Quiet = range_quiet (turn_of m s) 0 (m.entries s.unit) (λ k low lt. passed k (λ any. any_holds (λ j. barrier_in m s j ≡ Ok false) k s.waiting calm any)) in
      ap (λ l. option_or (event_of l) (option_map (λ y. Expire y.number) (find (is_due s.clock) s.waiting))) none ∙ ap (option_map (λ y. Expire y.number)) found
