-- The event that is picked meets its needs. If none is picked, the object is at rest.
use Rattle.std.proofs.Common.{◌≡◌, ℕ, zero, suc, ◌<◌, ◌≤◌, List, [], ◌∷◌, map, refl, subst, ap, sym, ◌∙◌, arith, Bool, true, false, cond, ◌||◌, Option, Some, None, Result, Ok, Err, if◌then◌else◌, IsSome, length, get_or}
use Rattle.std.specs.List.{count_by, find, All, list_any}
use Rattle.std.specs.Option.{option_map, option_or}
use Rattle.std.proofs.lemmas.List.Elements.{All-cons, All-nil, All-map, All-weaker}
use Rattle.po_unit.specs.Meaning.{Meaning, IsLawful}
use Rattle.po_unit.specs.declared.decl.Decl.{Decl}
use Rattle.po_calls.specs.declared.call.Call.{Call}
use Rattle.po_queues.specs.declared.selection.Selection.{Selection}
use Rattle.po_queues.specs.declared.selection.Selection.TheVariants.{Quiet, Ready, Broken}
use Rattle.po_queues.specs.declared.order.Order.{Order}
use Rattle.po_queues.specs.Turns.{turn, selection_if, examined}
use Rattle.po_history.specs.declared.event.Event.{Event}
use Rattle.po_history.specs.declared.event.Event.TheVariants.{Issue, Procedure, Cancel, Tick, Finalize, Serve, Break, Expire}
use Rattle.po_engine.specs.ObjectState.{ObjectState, barrier_in, IsQuiet, IsAtRest}
use Rattle.po_engine.specs.WaitingCalls.{has_number, is_on, is_due}
use Rattle.po_engine.specs.Step.{Needs}
use Rattle.po_core.specs.Public.{NamesPublic}
use Rattle.po_core.specs.Base.{is_ran}
use Rattle.po_engine.specs.Pick.{event_of, turn_of, next_turn, pick, Fits}
use Rattle.po_queues.proofs.ExaminedLemmas.{mapped_each, examined_covers, examined_range, closed, none_each, first_selection_each}
use Rattle.po_engine.proofs.Lists.{found_passes}
use Rattle.po_core.proofs.Wells.{IsWell}
use Rattle.po_engine.proofs.Absent.{eq_self}
use Rattle.po_engine.proofs.Alone.{found_alone}

module _ {X : Type 0} (p : X → Bool) where
  any_some : (b : Bool) (x : X) (xs : List X) → (b || list_any p xs) ≡ true → (list_any p xs ≡ true → IsSome (find p xs)) → IsSome (cond b (Some x) (find p xs))
  any_some true x xs h k = refl
  any_some false x xs h k = k h

  pub found_from_any : (xs : List X) → list_any p xs ≡ true → IsSome (find p xs)
  found_from_any [] h = cc
  found_from_any (x ∷ xs) h = any_some (p x) x xs h (found_from_any xs)

  or_true : (b : Bool) → (b || true) ≡ true
  or_true true = refl
  or_true false = refl

  pub any_at : (xs : List X) (k : ℕ) (d : X) → k < length xs → p (get_or xs k d) ≡ true → list_any p xs ≡ true
  any_at [] k d lt h = absurd (omega arith)
  any_at (x ∷ xs) zero d lt h = rw h refl
  any_at (x ∷ xs) (suc k) d lt h = rw (any_at xs k d (omega arith) h) (or_true (p x))

  none_passes : (b : Bool) (x : X) (xs : List X) → p x ≡ b → cond b (Some x) (find p xs) ≡ None → (find p xs ≡ None → All (λ y. p y ≡ false) xs) → All (λ y. p y ≡ false) (x ∷ xs)
  none_passes true x xs e h k = cc
  none_passes false x xs e h k = All-cons (λ y. p y ≡ false) x xs e (k h)

  pub find_none_all : (xs : List X) → find p xs ≡ None → All (λ y. p y ≡ false) xs
  find_none_all [] h = All-nil (λ y. p y ≡ false)
  find_none_all (x ∷ xs) h = none_passes (p x) x xs refl h (find_none_all xs)

pub bit_le : (b : Bool) (n : ℕ) → n ≡ (if b then 1 else 0) → n ≤ 1
bit_le true n h = omega arith
bit_le false n h = omega arith

pub needs_from_fits : {S V : Type 0} (m : Meaning S V) (p : ObjectState S V) (e : Event V) → Fits m p e → Needs m p e
needs_from_fits m p (Serve e) h = (h.1, h.2)
needs_from_fits m p (Break e) h = (h.1, h.2)
needs_from_fits m p (Expire n) h = h
needs_from_fits m p (Issue n owner e v d) h = absurd h
needs_from_fits m p (Procedure owner op v reply) h = absurd h
needs_from_fits m p (Cancel n) h = absurd h
needs_from_fits m p (Tick t) h = absurd h
needs_from_fits m p Finalize h = absurd h

-- an inner event issues no call
pub public_from_fits : {S V : Type 0} (m : Meaning S V) (row : List Decl) (p : ObjectState S V) (e : Event V) → Fits m p e → NamesPublic row e
public_from_fits m row p (Serve e) h = tt
public_from_fits m row p (Break e) h = tt
public_from_fits m row p (Expire n) h = tt
public_from_fits m row p (Issue n owner e v d) h = absurd h
public_from_fits m row p (Procedure owner op v reply) h = tt
public_from_fits m row p (Cancel n) h = tt
public_from_fits m row p (Tick t) h = tt
public_from_fits m row p Finalize h = tt

-- an inner event runs no procedure
pub no_procedure : {S V : Type 0} (m : Meaning S V) (p : ObjectState S V) (e : Event V) → Fits m p e → cond (is_ran e) 1 0 ≡ zero
no_procedure m p (Serve e) h = omega arith
no_procedure m p (Break e) h = omega arith
no_procedure m p (Expire n) h = omega arith
no_procedure m p (Issue n owner e v d) h = absurd h
no_procedure m p (Procedure owner op v reply) h = absurd h
no_procedure m p (Cancel n) h = absurd h
no_procedure m p (Tick t) h = absurd h
no_procedure m p Finalize h = absurd h

module _ {S V : Type 0} (m : Meaning S V) (law : IsLawful m) (limit : Option ℕ) (total first : ℕ) (p : ObjectState S V) (well : IsWell m law limit total first p) where
  turned : (e : ℕ) (y : Event V) (b : Bool) (r : Result Bool ℕ) → e < m.entries p.unit → list_any (is_on e) p.waiting ≡ b → barrier_in m p e ≡ r → event_of (selection_if b (turn e r)) ≡ Some y → Fits m p y
  turned e y true (Ok true) lt a g h = let same : Serve e ≡ y = cc in subst (λ z. Fits m p z) same (lt, found_from_any (is_on e) p.waiting a, g)
  turned e y true (Ok false) lt a g h = cc
  turned e y true (Err k) lt a g h = let same : Break e ≡ y = cc in subst (λ z. Fits m p z) same (lt, found_from_any (is_on e) p.waiting a, (k, g))
  turned e y false r lt a g h = cc

  -- the entries of the queued calls
  abbrev queued : List ℕ
  queued = map (λ x. x.entry) p.waiting

  -- all of them are entries
  in_range : All (λ e. e < m.entries p.unit) queued
  in_range = All-map (λ e. e < m.entries p.unit) (λ x. x.entry) p.waiting (λ k d lt. rw well.range.entries (well.range.calls k d lt))

  pub quiet : (order : Order) (last : Option ℕ) → next_turn m order last p ≡ Quiet → IsQuiet m p
  quiet order last h k d lt =
      let x = get_or p.waiting k d in
      let T : ℕ → Type 0 = λ e. turn_of m p e ≡ Quiet in
      let none = none_each (turn_of m p) (examined order last (m.entries p.unit) queued) h in
      let all = mapped_each T (λ x. x.entry) p.waiting (examined_covers T order last (m.entries p.unit) queued in_range none) in
      closed x.entry (barrier_in m p x.entry) (sym (ap (λ b. selection_if b (turn x.entry (barrier_in m p x.entry))) (any_at (is_on x.entry) p.waiting k d lt (eq_self x.entry))) ∙ all k d lt)

  expires : (order : Order) (last : Option ℕ) (x : Call V) → next_turn m order last p ≡ Quiet → find (is_due p.clock) p.waiting ≡ Some x → Fits m p (Expire x.number)
  expires order last x h k =
      let few : count_by (has_number x.number) p.waiting ≤ 1 = omega (arith, bit_le _ _ (well.placed x.number)) in
      let found : find (has_number x.number) p.waiting ≡ Some x = found_alone (is_due p.clock) (has_number x.number) p.waiting x k (eq_self x.number) few in
      (quiet order last h, rw found (found_passes (is_due p.clock) p.waiting x k))

  -- the event of the next turn
  turn_fits : (order : Order) (last : Option ℕ) (y : Event V) → event_of (next_turn m order last p) ≡ Some y → Fits m p y
  turn_fits order last =
      let es = examined order last (m.entries p.unit) queued in
      let P : Selection → Type 0 = λ look. (y : Event V) → event_of look ≡ Some y → Fits m p y in
      first_selection_each (turn_of m p) P (λ y h. cc) es (All-weaker (λ e. e < m.entries p.unit) (λ e. P (turn_of m p e)) (λ e lt y. turned e y (list_any (is_on e) p.waiting) (barrier_in m p e) lt refl refl) es (examined_range order last (m.entries p.unit) queued in_range))

  picked : (order : Order) (last : Option ℕ) (look : Selection) (d : Option (Call V)) (y : Event V) → next_turn m order last p ≡ look → find (is_due p.clock) p.waiting ≡ d → option_or (event_of look) (option_map (λ x. Expire x.number) d) ≡ Some y → Fits m p y
  picked order last (Ready i) d y h k e = turn_fits order last y (ap event_of h ∙ e)
  picked order last (Broken i) d y h k e = turn_fits order last y (ap event_of h ∙ e)
  picked order last Quiet (Some x) y h k e = let same : Expire x.number ≡ y = cc in subst (λ z. Fits m p z) same (expires order last x h k)
  picked order last Quiet None y h k e = cc

  pub pick_fits : (order : Order) (last : Option ℕ) (y : Event V) → pick m order last p ≡ Some y → Fits m p y
  pick_fits order last y h = picked order last (next_turn m order last p) (find (is_due p.clock) p.waiting) y refl refl h

  rests : (order : Order) (last : Option ℕ) (look : Selection) (d : Option (Call V)) → next_turn m order last p ≡ look → find (is_due p.clock) p.waiting ≡ d → option_or (event_of {V = V} look) (option_map (λ x. Expire x.number) d) ≡ None → IsAtRest m p
  rests order last (Ready i) d h k e = cc
  rests order last (Broken i) d h k e = cc
  rests order last Quiet (Some x) h k e = cc
  rests order last Quiet None h k e = record { quiet = quiet order last h; none_due = find_none_all (is_due p.clock) p.waiting k }

  pub pick_none_rests : (order : Order) (last : Option ℕ) → pick m order last p ≡ None → IsAtRest m p
  pick_none_rests order last h = rests order last (next_turn m order last p) (find (is_due p.clock) p.waiting) refl refl h
