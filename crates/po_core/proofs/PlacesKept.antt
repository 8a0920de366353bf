-- The places at which the waiting calls arrived, and how they change with one more event.
use Rattle.std.proofs.Common.{◌≡◌, ℕ, ◌+◌, ◌<◌, ◌==◌, List, [], ◌∷◌, ◌++◌, length, map, refl, ap, sym, ◌∙◌, subst, arith, Option, Some, None, if◌then◌else◌}
use Rattle.std.specs.List.{All}
use Rattle.std.proofs.lemmas.List.Elements.{All-nil, All-cons, All-head, All-tail}
use Rattle.po_unit.specs.Meaning.{Meaning, IsLawful}
use Rattle.po_calls.specs.declared.call.Call.{Call}
use Rattle.po_history.specs.declared.event.Event.{Event}
use Rattle.po_unit.specs.Numbering.{entry_count}
use Rattle.po_engine.specs.ObjectState.{ObjectState}
use Rattle.po_engine.specs.Step.{step, replay}
use Rattle.po_core.specs.Setup.{Setup}
use Rattle.po_core.specs.Base.{Base, state_at, arrived}
use Rattle.po_engine.specs.Arrival.{AreAt, noted, call_of, arrivals}
use Rattle.po_core.specs.History.{IsHistory}
use Rattle.po_core.proofs.Wells.{well_base}
use Rattle.po_core.proofs.Orders.{ordered_all}

module _ {V : Type 0} where
  -- Calls have the same places by two functions that agree on each number.
  pub are_at_by : (f g : ℕ → ℕ) → ((n : ℕ) → g n ≡ f n) → (xs : List (Call V)) (ks : List ℕ) → AreAt f xs ks → AreAt g xs ks
  are_at_by f g same [] [] h = tt
  are_at_by f g same [] (k ∷ ks) h = h
  are_at_by f g same (x ∷ xs) [] h = h
  are_at_by f g same (x ∷ xs) (k ∷ ks) h = (same x.number ∙ h.0, are_at_by f g same xs ks h.1)

  -- The places are those that are noted for the calls.
  pub arrivals_are_places : (f : ℕ → ℕ) (xs : List (Call V)) (ks : List ℕ) → AreAt f xs ks → map (λ x. f x.number) xs ≡ ks
  arrivals_are_places f [] [] h = refl
  arrivals_are_places f [] (k ∷ ks) h = absurd h
  arrivals_are_places f (x ∷ xs) [] h = absurd h
  arrivals_are_places f (x ∷ xs) (k ∷ ks) h = rw (h.0, arrivals_are_places f xs ks h.1) refl

  -- What holds of each noted place holds of the places.
  pub places_all : (P : ℕ → Type 0) (f : ℕ → ℕ) (xs : List (Call V)) (ks : List ℕ) → AreAt f xs ks → All (λ x. P (f x.number)) xs → All P ks
  places_all P f [] [] h all = All-nil P
  places_all P f [] (k ∷ ks) h all = absurd h
  places_all P f (x ∷ xs) [] h all = absurd h
  places_all P f (x ∷ xs) (k ∷ ks) h all =
      All-cons P k ks (subst P h.0 (All-head (λ y. P (f y.number)) x xs all)) (places_all P f xs ks h.1 (All-tail (λ y. P (f y.number)) x xs all))

noted_by : (f : ℕ → ℕ) (j k : ℕ) (o : Option ℕ) (n : ℕ) → j ≡ k → noted f j o n ≡ noted f k o n
noted_by f j k o n same = ap (λ i. noted f i o n) same

module _ {S V : Type 0} (m : Meaning S V) (limit : Option ℕ) where
  noted_first : (s : ObjectState S V) (k : ℕ) (f : ℕ → ℕ) (o : Option ℕ) (n : ℕ) → noted f k o n ≡ noted (arrivals m limit s k f []) (k + 0) o n
  noted_first s k f None n = refl
  noted_first s k f (Some j) n = ap (λ i. if n == j then i else f n) (omega arith)

  -- One more event notes its place for its call.
  pub arrivals_push : (s : ObjectState S V) (k : ℕ) (f : ℕ → ℕ) (es : List (Event V)) (e : Event V) (n : ℕ) → arrivals m limit s k f (es ++ e ∷ []) n ≡ noted (arrivals m limit s k f es) (k + length es) (call_of (replay m limit s es) e) n
  arrivals_push s k f [] e n = noted_first s k f (call_of s e) n
  arrivals_push s k f (x ∷ es) e n =
      let q = step m limit s x in
      let g = noted f k (call_of s x) in
      arrivals_push q (k + 1) g es e n ∙ noted_by (arrivals m limit q (k + 1) g es) (k + 1 + length es) (k + length (x ∷ es)) (call_of (replay m limit q es) e) n (omega arith)

module _ {S V : Type 0} (m : Meaning S V) (setup : Setup S) where
  -- the place at which each call arrived, by the events from the base to this state
  abbrev pub arrived_by : Base S V → ObjectState S V → List (Event V) → ℕ → ℕ
  arrived_by b s events n = arrivals m setup.max_queue (state_at b s.ended) b.place (arrived b) events n

  -- After one more event it is known at which place each call arrived.
  pub places_go_on : (b : Base S V) (p r : ObjectState S V) (es : List (Event V)) (e : Event V) (k : ℕ) (ks : List ℕ) → replay m setup.max_queue (state_at b p.ended) es ≡ p → state_at b p.ended ≡ state_at b r.ended → k ≡ b.place + length es → AreAt (noted (arrived_by b p es) k (call_of p e)) r.waiting ks → AreAt (arrived_by b r (es ++ e ∷ [])) r.waiting ks
  places_go_on b p r es e k ks leads same is h =
      let limit = setup.max_queue in
      let s = state_at b p.ended in
      let now : ℕ → ℕ = arrivals m limit s b.place (arrived b) (es ++ e ∷ []) in
      let f = noted (arrived_by b p es) k (call_of p e) in
      let each : (n : ℕ) → now n ≡ f n = λ n. subst (λ q. now n ≡ noted (arrived_by b p es) k (call_of q e) n) leads (subst (λ i. now n ≡ noted (arrived_by b p es) i (call_of (replay m limit s es) e) n) (sym is) (arrivals_push m limit s b.place (arrived b) es e n)) in
      subst (λ q. AreAt (arrivals m limit q b.place (arrived b) (es ++ e ∷ [])) r.waiting ks) same (are_at_by f now each r.waiting ks h)

  -- Each waiting call arrived before the next event.
  pub arrived_earlier : (law : IsLawful m) (b : Base S V) (s : ObjectState S V) (es : List (Event V)) → IsHistory m setup b s es → All (λ x. arrived_by b s es x.number < b.place + length es) s.waiting
  arrived_earlier law b s es h =
      let limit = setup.max_queue in
      subst (λ p. All (λ x. arrived_by b s es x.number < b.place + length es) p.waiting) h.leads
      (ordered_all m law limit (entry_count setup.shape) setup.first_number (arrived b) b.place (state_at b s.ended) es h.legal (well_base m law setup b s.ended h.base) (record { rises = h.base.rises; before = h.base.before })).before
