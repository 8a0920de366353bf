-- What a command leads to is what the function of the definitions says.
use Rattle.std.proofs.Common.{ℕ, zero, suc, ◌≡◌, ◌≤◌, ◌==◌, arith, List, [], ◌∷◌, ◌++◌, map, get_or, refl, ap, sym, subst, ◌∙◌, Bool, true, false, Ok, Option, Some, None, cond, length, ◌||◌, ◌&&◌, if◌then◌else◌, append-nil, MatchOption}
use Rattle.std.specs.List.{find, All, list_any}
use Rattle.std.proofs.lemmas.List.Elements.{All-head, All-tail}
use Rattle.std.proofs.lemmas.Bool.Decides.{nat_tests}
use Rattle.po_unit.specs.Meaning.{Meaning}
use Rattle.po_calls.specs.declared.call.Call.{Call}
use Rattle.po_history.specs.declared.event.Event.{Event}
use Rattle.po_queues.specs.declared.selection.Selection.TheVariants.{Quiet}
use Rattle.po_queues.specs.declared.order.Order.{Order}
use Rattle.po_queues.specs.Turns.{turn, selection_if, examined}
use Rattle.po_queues.proofs.ExaminedLemmas.{first_selection_each}
use Rattle.po_engine.specs.ObjectState.{ObjectState, barrier_in, IsQuiet, IsAtRest}
use Rattle.po_engine.specs.WaitingCalls.{has_number, is_on, is_due}
use Rattle.po_engine.specs.Step.{replay, step}
use Rattle.po_core.specs.Setup.{Setup}
use Rattle.po_core.specs.View.{View, last_served}
use Rattle.po_core.specs.Base.{Base}
use Rattle.po_core.specs.Progress.{Settles, IsSameCommand, Happens, Begins}
use Rattle.po_core.specs.ProtectedAction.{settling, inner_events, begun, settled, after_action, after_attempt, after_attempt_of, without_event}
use Rattle.po_engine.specs.Pick.{turn_of, next_turn, pick, ArePicks, served_last, last_from, weight}
use Rattle.po_history.specs.declared.event.Event.TheVariants.{Cancel}

module _ {X : Type 0} (p : X → Bool) where
  none_here : (b : Bool) (x : X) (xs : List X) → p x ≡ b → b ≡ false → find p xs ≡ None → cond b (Some x) (find p xs) ≡ None
  none_here true x xs e f h = cc
  none_here false x xs e f h = h

  pub none_found : (xs : List X) → All (λ x. p x ≡ false) xs → find p xs ≡ None
  none_found [] h = refl
  none_found (x ∷ xs) h = none_here (p x) x xs refl (All-head (λ y. p y ≡ false) x xs h) (none_found xs (All-tail (λ y. p y ≡ false) x xs h))

  any_here : (Q : X → Type 0) (b : Bool) (x : X) (xs : List X) → p x ≡ b → Q x → (b || list_any p xs) ≡ true → (list_any p xs ≡ true → (y : X) × (p y ≡ true) × Q y) → (y : X) × (p y ≡ true) × Q y
  any_here Q true x xs e q h r = (x, e, q)
  any_here Q false x xs e q h r = r h

  -- if some element passes the test, one passes that has what all have
  pub any_has : (Q : X → Type 0) (xs : List X) → All Q xs → list_any p xs ≡ true → (y : X) × (p y ≡ true) × Q y
  any_has Q [] h k = cc
  any_has Q (x ∷ xs) h k = any_here Q (p x) x xs refl (All-head Q x xs h) k (any_has Q xs (All-tail Q x xs h))

eq_of : (a b : ℕ) → (a == b) ≡ true → a ≡ b
eq_of a b h = grind (arith, nat_tests)

module _ {S V : Type 0} (m : Meaning S V) where
  -- an entry on which a call is queued is closed
  no_turn : (p : ObjectState S V) (e : ℕ) (b : Bool) → list_any (is_on e) p.waiting ≡ b → IsQuiet m p → selection_if b (turn e (barrier_in m p e)) ≡ Quiet
  no_turn p e false h q = refl
  no_turn p e true h q =
      let y = any_has (is_on e) (λ x. barrier_in m p x.entry ≡ Ok false) p.waiting q h in
      let shut : barrier_in m p e ≡ Ok false = ap (barrier_in m p) (sym (eq_of y.0.entry e y.1)) ∙ y.2 in
      rw shut refl

  -- so no turn comes next
  none_next : (order : Order) (last : Option ℕ) (p : ObjectState S V) → IsQuiet m p → next_turn m order last p ≡ Quiet
  none_next order last p h =
      let es = examined order last (m.entries p.unit) (map (λ x. x.entry) p.waiting) in
      first_selection_each (turn_of m p) (λ look. look ≡ Quiet) refl es (λ k d lt. no_turn p (get_or es k d) (list_any (is_on (get_or es k d)) p.waiting) refl h)

  -- at rest nothing follows
  pub rest_picks_none : (order : Order) (last : Option ℕ) (p : ObjectState S V) → IsAtRest m p → pick m order last p ≡ None
  rest_picks_none order last p r =
      rw (none_next order last p r.quiet, none_found (is_due p.clock) p.waiting r.none_due) refl

  stops : (limit : Option ℕ) (order : Order) (last : Option ℕ) (k : ℕ) (p : ObjectState S V) → pick m order last p ≡ None → settling m limit order last k p ≡ []
  stops limit order last zero p h = refl
  stops limit order last (suc k) p h = rw h refl

  -- any events that are picked up to rest are the inner events, and more steps change nothing
  pub settling_is : (limit : Option ℕ) (order : Order) (last : Option ℕ) (k : ℕ) (p : ObjectState S V) (es : List (Event V)) → ArePicks m limit order last p es → length es ≤ k → pick m order (last_from last es) (replay m limit p es) ≡ None → settling m limit order last k p ≡ es
  settling_is limit order last k p [] h le n = stops limit order last k p n
  settling_is limit order last zero p (e ∷ es) h le n = absurd (omega arith)
  settling_is limit order last (suc k) p (e ∷ es) h le n =
      rw h.0 (ap (λ l. e ∷ l) (settling_is limit order (served_last last e) k (step m limit p e) es h.1 (omega arith) n))

  same_parts : (a a2 : Setup S) (b b2 : Base S V) (es es2 : List (Event V)) (p p2 : ObjectState S V) (k k2 : ℕ) → a ≡ a2 → b ≡ b2 → es ≡ es2 → p ≡ p2 → k ≡ k2 → ◌≡◌ {A = View S V} (record { setup = a; base = b; events = es; state = p; ended_before = k }) (record { setup = a2; base = b2; events = es2; state = p2; ended_before = k2 })
  same_parts a a2 b b2 es es2 p p2 k k2 x y z t u = rw (x, y, z, t, u) refl

  -- views are equal by their parts
  pub same_view : (s t : View S V) → s.setup ≡ t.setup → s.base ≡ t.base → s.events ≡ t.events → s.state ≡ t.state → s.ended_before ≡ t.ended_before → s ≡ t
  same_view s t a b c d e = same_parts s.setup t.setup s.base t.base s.events t.events s.state t.state s.ended_before t.ended_before a b c d e

  settled_by : (s t : View S V) → Settles m s t → IsAtRest m t.state → IsSameCommand s t → t ≡ settled m s
  settled_by s t h r same =
      let limit = s.setup.max_queue in
      let none = rest_picks_none s.setup.order (last_from (last_served s) h.inner) (replay m limit s.state h.inner) (subst (IsAtRest m) h.state r) in
      let is : inner_events m s ≡ h.inner = settling_is limit s.setup.order (last_served s) (weight m s.state) s.state h.inner h.picks (omega (arith, h.bounded)) none in
      same_view t (settled m s) same.setup same.base (h.events ∙ ap (λ l. s.events ++ l) (sym is)) (h.state ∙ ap (replay m limit s.state) (sym is)) same.ended_before

  -- the settled object, given what the last step says
  pub settled_at : (s t u : View S V) (o : Option (Event V)) → MatchOption o ((false ≡ false) × (u ≡ t)) (λ e. (false ≡ true) × Happens m t u e) → Settles m s t → IsAtRest m u.state → IsSameCommand s t → u ≡ settled m s
  settled_at s t u None k h r same = k.1 ∙ settled_by s t h (subst (λ w. IsAtRest m w.state) k.1 r) same
  settled_at s t u (Some e) k h r same = let bad = k.0 in cc

  pub begun_by : (s t : View S V) (own : Event V) → Begins m s t own → t ≡ begun m s own
  begun_by s t own h = same_view t (begun m s own) h.setup h.base h.happens.events h.happens.state h.ended_before

  -- a command's own event, and the inner events that follow it
  pub led_by : (s t u : View S V) (own : Event V) → Begins m s t own → u ≡ settled m t → u ≡ after_action m s own
  led_by s t u own h k = k ∙ ap (settled m) (begun_by s t own h)

  -- if the own event leaves the object at rest, nothing follows
  pub rest_settled : (s : View S V) → IsAtRest m s.state → s ≡ settled m s
  rest_settled s r =
      let limit = s.setup.max_queue in
      let none : inner_events m s ≡ [] = stops limit s.setup.order (last_served s) (weight m s.state) s.state (rest_picks_none s.setup.order (last_served s) s.state r) in
      same_view s (settled m s) refl refl (sym (append-nil s.events) ∙ ap (λ l. s.events ++ l) (sym none)) (ap (replay m limit s.state) (sym none)) refl

  -- the object after an attempt to cancel the call that is found
  pub attempted_as : (s : View S V) (n : ℕ) (x : Call V) → Some x ≡ find (has_number n) s.state.waiting → after_attempt m s n ≡ (if x.without_abort && x.aborted then without_event s else after_action m s (Cancel n))
  attempted_as s n x h = ap (after_attempt_of m s n) (sym h)
