-- While calls are leaving a meeting, only their servings can follow.
use Rattle.std.proofs.Common.{◌≡◌, ℕ, ◌+◌, ◌==◌, ◌<◌, List, [], ◌∷◌, ◌++◌, map, length, refl, ap, sym, subst, ◌∙◌, arith, true, false, ◌||◌, Option, Some, Ok, Err, IsSome, append_assoc, nat_lt}
use Rattle.std.specs.List.{find, count_by, All}
use Rattle.std.proofs.lemmas.Bool.Decides.{nat_tests}
use Rattle.std.proofs.lemmas.List.{append-nil}
use Rattle.std.proofs.lemmas.List.Elements.{All-head, All-tail}
use Rattle.po_calls.specs.declared.call.Call.{Call}
use Rattle.po_history.specs.declared.event.Event.{Event}
use Rattle.po_history.specs.declared.event.Event.TheVariants.{Issue, Procedure, Cancel, Tick, Finalize, Serve, Break, Expire}
use Rattle.po_engine.specs.WaitingCalls.{is_on}
use Rattle.po_engine.specs.ObjectState.{barrier_in, IsQuiet, IsAtRest}
use Rattle.po_engine.specs.Step.{step, serve, Needs, IsLegal, replay}
use Rattle.po_engine.specs.Finding.{without_first}
use Rattle.po_laws.specs.Gathered.{with_own_value, servings}
use Rattle.po_classic_units.specs.Meeting.{MeetingState, meeting_barrier}
use Rattle.po_laws.proofs.MeetingStates.{m, State, OnWait, on_wait, all_on_wait, barrier_is, not_both, found_entry, one_longer}

-- Wait is open for these calls, and closed once there are none.
abbrev pub Opens : MeetingState → List (Call ℕ) → Type 0
Opens u [] = u.leaving ≡ false
Opens u (x ∷ xs) = meeting_barrier u (length (x ∷ xs)) ≡ true

-- These calls, all that wait, are leaving a meeting.
pub record AreLeaving (size : ℕ) (s : State) (calls : List (Call ℕ)) : Type 0 where
  pub sized : s.unit.size ≡ size
  pub waiting : s.waiting ≡ calls
  pub on_wait : OnWait calls
  pub opens : Opens s.unit calls

-- From the old state to the new one the first call is served and completes with its own value, and these calls are left.
pub record IsServed (old new : State) (x : Call ℕ) (left : List (Call ℕ)) : Type 0 where
  pub unit : new.unit ≡ record old.unit { leaving = nat_lt 0 (length left) }
  pub waiting : new.waiting ≡ left
  pub ended : new.ended ≡ old.ended ++ with_own_value x ∷ []

positive : (n k : ℕ) → n ≡ 1 + k → nat_lt 0 n ≡ true
positive n k h = grind (arith, nat_tests)

-- once a call has gone, Wait is open for those that are left
pub opens_left : (u : MeetingState) (left : List (Call ℕ)) → Opens (record u { leaving = nat_lt 0 (length left) }) left
opens_left u [] = refl
opens_left u (x ∷ xs) =
    ap (λ b. b || (length (x ∷ xs) == u.size)) (positive (length (x ∷ xs)) (length xs) (one_longer x xs))

pub open_first : (size : ℕ) (s : State) (x : Call ℕ) (xs : List (Call ℕ)) → AreLeaving size s (x ∷ xs) → (e : ℕ)
    → barrier_in m s e ≡ Ok true
open_first size s x xs b e =
    barrier_is s e (subst OnWait (sym b.waiting) b.on_wait)
    ∙ ap (λ t. Ok t) (ap (λ w. meeting_barrier s.unit (length w)) b.waiting ∙ b.opens)

pub not_quiet : (size : ℕ) (s : State) (x : Call ℕ) (xs : List (Call ℕ)) → AreLeaving size s (x ∷ xs) → IsQuiet m s → ⊥
not_quiet size s x xs b q =
    let all : All (λ y. barrier_in m s y.entry ≡ Ok false) (x ∷ xs) =
    subst (All (λ y. barrier_in m s y.entry ≡ Ok false)) b.waiting q in
    not_both (barrier_in m s x.entry) (open_first size s x xs b x.entry)
    (All-head (λ y. barrier_in m s y.entry ≡ Ok false) x xs all)

-- if calls are leaving, only Wait can be served
pub only_serves : (size : ℕ) (s : State) (x : Call ℕ) (xs : List (Call ℕ)) (event : Event ℕ)
    → AreLeaving size s (x ∷ xs) → Needs m s event → event ≡ Serve 0
only_serves size s x xs (Serve e) b h =
    ap (λ k. Serve k) (found_entry e (x ∷ xs) b.on_wait (subst (λ w. IsSome (find (is_on e) w)) b.waiting h.0))
only_serves size s x xs (Break e) b h = let bad : barrier_in m s e ≡ Err h.1.0 = h.1.1 in cc
only_serves size s x xs (Expire n) b h = absurd (not_quiet size s x xs b h.0)
only_serves size s x xs (Issue n owner e v d) b h = absurd (not_quiet size s x xs b h.0.rest.quiet)
only_serves size s x xs (Procedure owner op v reply) b h = absurd (not_quiet size s x xs b h.0.rest.quiet)
only_serves size s x xs (Cancel n) b h = absurd (not_quiet size s x xs b h.0.rest.quiet)
only_serves size s x xs (Tick t) b h = absurd (not_quiet size s x xs b h.rest.quiet)
only_serves size s x xs Finalize b h = absurd (not_quiet size s x xs b h.rest.quiet)

module _ (limit : Option ℕ) where
  -- the first of the calls is served
  pub served : (s : State) (x : Call ℕ) (left : List (Call ℕ)) → s.waiting ≡ x ∷ left → OnWait (x ∷ left)
      → IsServed s (step m limit s (Serve 0)) x left
  served s x left w a =
      let here : is_on 0 x ≡ true = on_wait x (All-head (λ y. y.entry < 1) x left a) in
      let found : find (is_on 0) s.waiting ≡ Some x = ap (find (is_on 0)) w ∙ rw here refl in
      let rest : without_first (is_on 0) s.waiting ≡ left = ap (without_first (is_on 0)) w ∙ rw here refl in
      let many : count_by (is_on 0) (without_first (is_on 0) s.waiting) ≡ length left =
      ap (count_by (is_on 0)) rest ∙ all_on_wait left (All-tail (λ y. y.entry < 1) x left a) in
      let is = ap (serve m limit s 0) found in
      record {
        unit = ap (λ z. z.unit) is ∙ ap (λ k. record s.unit { leaving = nat_lt 0 k }) many;
        waiting = ap (λ z. z.waiting) is ∙ rest;
        ended = ap (λ z. z.ended) is;
      }

  -- after the serving of the first the others are leaving
  pub leaving_on : (size : ℕ) (s : State) (x : Call ℕ) (xs : List (Call ℕ)) → AreLeaving size s (x ∷ xs)
      → AreLeaving size (step m limit s (Serve 0)) xs
  leaving_on size s x xs b =
      let g = served s x xs b.waiting b.on_wait in
      record {
        sized = ap (λ u. u.size) g.unit ∙ b.sized;
        waiting = g.waiting;
        on_wait = All-tail (λ y. y.entry < 1) x xs b.on_wait;
        opens = subst (λ u. Opens u xs) (sym g.unit) (opens_left s.unit xs);
      }

  -- The events begin with a serving of Wait, and go on legally up to rest.
  pub record BeginsWithServing (s : State) (events : List (Event ℕ)) : Type 0 where
    pub later : List (Event ℕ)
    pub first : events ≡ Serve 0 ∷ later
    pub legal : IsLegal m limit (step m limit s (Serve 0)) later
    pub rest : IsAtRest m (replay m limit (step m limit s (Serve 0)) later)

  -- Wait is served next
  first_serving : (size : ℕ) (s : State) (x : Call ℕ) (xs : List (Call ℕ)) (events : List (Event ℕ))
      → AreLeaving size s (x ∷ xs) → IsLegal m limit s events → IsAtRest m (replay m limit s events)
      → BeginsWithServing s events
  first_serving size s x xs [] b l r = absurd (not_quiet size s x xs b r.quiet)
  first_serving size s x xs (event ∷ events) b l r =
      let is : event ≡ Serve 0 = only_serves size s x xs event b l.0 in
      record {
        later = events;
        first = ap (λ y. y ∷ events) is;
        legal = subst (λ y. IsLegal m limit (step m limit s y) events) is l.1;
        rest = subst (λ y. IsAtRest m (replay m limit (step m limit s y) events)) is r;
      }

  -- The events begin with as many servings as calls are leaving, and these complete the calls, each with its own value.
  pub record LetsGo (s : State) (calls : List (Call ℕ)) (events : List (Event ℕ)) : Type 0 where
    pub rest : List (Event ℕ)
    pub trail : events ≡ servings 0 (length calls) ++ rest
    pub emptied : (replay m limit s (servings 0 (length calls))).waiting ≡ []
    pub ended : (replay m limit s (servings 0 (length calls))).ended ≡ s.ended ++ map with_own_value calls

  -- If calls are leaving, a history that ends at rest lets all of them go.
  pub lets_go : (size : ℕ) (s : State) (calls : List (Call ℕ)) (events : List (Event ℕ)) → AreLeaving size s calls
      → IsLegal m limit s events → IsAtRest m (replay m limit s events) → LetsGo s calls events
  lets_go size s [] events b l r =
      record { rest = events; trail = refl; emptied = b.waiting; ended = sym (append-nil s.ended) }
  lets_go size s (x ∷ xs) events b l r =
      let f = first_serving size s x xs events b l r in
      let g = served s x xs b.waiting b.on_wait in
      let k = lets_go size (step m limit s (Serve 0)) xs f.later (leaving_on size s x xs b) f.legal f.rest in
      record {
        rest = k.rest;
        trail = f.first ∙ ap (λ l. Serve 0 ∷ l) k.trail;
        emptied = k.emptied;
        ended = k.ended
            ∙ (ap (λ l. l ++ map with_own_value xs) g.ended
            ∙ append_assoc s.ended (with_own_value x ∷ []) (map with_own_value xs));
      }
