-- How a cut of the history changes the present picture and the volumes.
use Rattle.std.proofs.Common.{◌≡◌, ℕ, ◌+◌, ◌<◌, ◌≤◌, ◌==◌, List, [], ◌∷◌, ◌++◌, length, map, refl, subst, ap, sym, ◌∙◌, arith, Bool, true, false, cond, Option, None, if◌then◌else◌}
use Rattle.std.specs.List.{All, count_by}
use Rattle.std.proofs.lemmas.List.{take_all}
use Rattle.std.proofs.lemmas.List.Elements.{All-nil, All-cons, All-head, All-tail, All-weaker, All-append}
use Rattle.std.proofs.lemmas.List.Sums.{sum_by-append}
use Rattle.std.proofs.lemmas.Bool.Decides.{nat_tests}
use Rattle.po_unit.specs.Meaning.{Meaning, IsLawful}
use Rattle.po_unit.specs.Numbering.{entry_count}
use Rattle.po_calls.specs.declared.call.Call.{Call}
use Rattle.po_history.specs.Histories.{VolumeView, joined}
use Rattle.po_history.proofs.Volumes.{run_on-append, joined-append}
use Rattle.po_engine.specs.ObjectState.{opening_state}
use Rattle.po_engine.specs.WaitingCalls.{has_number}
use Rattle.po_engine.specs.Step.{replay, IsLegal}
use Rattle.po_core.specs.Base.{Base, opening_base, state_with, state_at, arrived, arrived_among, is_ran}
use Rattle.po_core.specs.Public.{NamesPublic}
use Rattle.po_engine.specs.Pick.{last_from}
use Rattle.po_core.specs.View.{View, Replays, IsInOnePlace, base_state, next_place}
use Rattle.po_engine.specs.Arrival.{Rises, AreAt, arrivals}
use Rattle.po_core.specs.Arrival.{arrival}
use Rattle.po_core.specs.History.{IsBase, IsHistory}
use Rattle.po_core.specs.Cutting.{present_base, cut, cut_off, Leads, AreVolumes, KeepsArrivals, arrival_in, procedures_run}
use Rattle.po_core.proofs.Joining.{arrivals_agree, arrivals_append, ends-at}
use Rattle.po_core.proofs.PlacesKept.{arrivals_are_places}
use Rattle.po_core.proofs.Settling.{last-append}
use Rattle.po_core.proofs.Counting.{replay-next, counted-apart}
use Rattle.po_core.proofs.Runs.{replay-append, legal-append}
use Rattle.po_core.proofs.Wells.{well, well_base}
use Rattle.po_core.proofs.Orders.{Ordered, ordered_all}
use Rattle.po_core.proofs.Falls.{emptied, IsEmptied}
use Rattle.po_engine.proofs.Absent.{eq_self}

-- a list of no length is empty
nothing : {X : Type 0} (xs : List X) → length xs ≡ 0 → xs ≡ []
nothing [] h = refl
nothing (x ∷ xs) h = absurd (omega (arith, h))

eq_of : (a b : ℕ) → (a == b) ≡ true → a ≡ b
eq_of a b h = grind (arith, nat_tests)

module _ {V : Type 0} where
  -- each call is at its own place
  at_own : (f : ℕ → ℕ) (xs : List (Call V)) → AreAt f xs (map (λ x. f x.number) xs)
  at_own f [] = tt
  at_own f (x ∷ xs) = (refl, at_own f xs)

  -- Both functions give each of the calls the same place.
  abbrev pub Agree : (ℕ → ℕ) → (ℕ → ℕ) → List (Call V) → Type 0
  Agree f g xs = All (λ x. g x.number ≡ f x.number) xs

  past_one : (f : ℕ → ℕ) (b : Bool) (x y : Call V) (k j : ℕ) → has_number y.number x ≡ b → f x.number ≡ k → j ≡ f y.number → (if b then k else j) ≡ f y.number
  past_one f true x y k j e at h = sym at ∙ ap f (eq_of x.number y.number e)
  past_one f false x y k j e at h = h

  agree_arrived : (f : ℕ → ℕ) (xs : List (Call V)) (places : List ℕ) → AreAt f xs places → Agree f (arrived_among xs places) xs
  agree_arrived f [] places h = All-nil (λ x. arrived_among {V = V} [] places x.number ≡ f x.number)
  agree_arrived f (x ∷ xs) [] h = absurd h
  agree_arrived f (x ∷ xs) (k ∷ places) h =
      let P = λ (y : Call V). arrived_among (x ∷ xs) (k ∷ places) y.number ≡ f y.number in
      All-cons P x xs (rw (eq_self x.number) (sym h.0)) (All-weaker (λ y. arrived_among xs places y.number ≡ f y.number) P (λ y is. past_one f (has_number y.number x) x y k (arrived_among xs places y.number) refl h.0 is) xs (agree_arrived f xs places h.1))

  rises_by : (f g : ℕ → ℕ) (xs : List (Call V)) → Agree f g xs → Rises f xs → Rises g xs
  rises_by f g [] a h = tt
  rises_by f g (x ∷ xs) a h =
      let same = All-head (λ y. g y.number ≡ f y.number) x xs a in
      let rest = All-tail (λ y. g y.number ≡ f y.number) x xs a in
      (λ i d lt. rw (same, rest i d lt) (h.0 i d lt), rises_by f g xs rest h.1)

  before_by : (f g : ℕ → ℕ) (k : ℕ) (xs : List (Call V)) → Agree f g xs → All (λ y. f y.number < k) xs → All (λ y. g y.number < k) xs
  before_by f g k xs a h = λ i d lt. rw (a i d lt) (h i d lt)

  pub at_by : (f g : ℕ → ℕ) (xs : List (Call V)) (places : List ℕ) → Agree f g xs → AreAt f xs places → AreAt g xs places
  at_by f g [] [] a h = tt
  at_by f g [] (k ∷ places) a h = absurd h
  at_by f g (x ∷ xs) [] a h = absurd h
  at_by f g (x ∷ xs) (k ∷ places) a h =
      (All-head (λ y. g y.number ≡ f y.number) x xs a ∙ h.0, at_by f g xs places (All-tail (λ y. g y.number ≡ f y.number) x xs a) h.1)

-- bases are equal if their parts are
pub same_base : {S V : Type 0} (a b : Base S V) → a.unit ≡ b.unit → a.waiting ≡ b.waiting → a.arrivals ≡ b.arrivals → a.ended ≡ b.ended → a.next ≡ b.next → a.clock ≡ b.clock → a.finalized ≡ b.finalized → a.place ≡ b.place → a.ran ≡ b.ran → a.last ≡ b.last → a ≡ b
same_base {S} {V} a b unit waiting arrivals ended next clock finalized place ran last =
    parts a.unit b.unit a.waiting b.waiting a.arrivals b.arrivals a.ended b.ended a.next b.next a.clock b.clock a.finalized b.finalized a.place b.place a.ran b.ran a.last b.last unit waiting arrivals ended next clock finalized place ran last
  where
    parts : (u u2 : S) (w w2 : List (Call V)) (l l2 : List ℕ) (e e2 n n2 c c2 : ℕ) (d d2 : Bool) (p p2 r r2 : ℕ) (o o2 : Option ℕ) → u ≡ u2 → w ≡ w2 → l ≡ l2 → e ≡ e2 → n ≡ n2 → c ≡ c2 → d ≡ d2 → p ≡ p2 → r ≡ r2 → o ≡ o2 → ◌≡◌ {A = Base S V} (record { unit = u; waiting = w; arrivals = l; ended = e; next = n; clock = c; finalized = d; place = p; ran = r; last = o }) (record { unit = u2; waiting = w2; arrivals = l2; ended = e2; next = n2; clock = c2; finalized = d2; place = p2; ran = r2; last = o2 })
    parts u u2 w w2 l l2 e e2 n n2 c c2 d d2 p p2 r r2 o o2 h0 h1 h2 h3 h4 h5 h6 h7 h8 h9 = rw (h0, h1, h2, h3, h4, h5, h6, h7, h8, h9) refl

module _ {S V : Type 0} (m : Meaning S V) where
  -- at the present picture as a base, the state is the present one
  pub present_state : (view : View S V) → base_state (cut m view) ≡ view.state
  present_state view = ap (state_with (present_base m view)) (take_all (length view.state.ended) view.state.ended (omega arith))

  -- a waiting call keeps its place
  pub keeps_arrivals : (view : View S V) → KeepsArrivals m view (cut m view)
  keeps_arrivals view =
      let f = arrival m view in
      agree_arrived f view.state.waiting (map (λ x. f x.number) view.state.waiting) (at_own f view.state.waiting)

  -- the events lead from the base to the present picture
  pub leads_there : (view : View S V) → Replays m view → Leads m view.setup view.events (base_state view) (base_state (cut m view))
  leads_there view h = record { legal = h.legal; to_there = h.leads ∙ sym (present_state view); public = h.public }

  -- A waiting call's place by all events since the opening is its place by the base and the events after it.
  arrived_there : (view : View S V) → Replays m view → (volumes : List (VolumeView V)) → AreVolumes m view volumes → Agree (arrival m view) (arrival_in m view.setup (joined volumes ++ view.events)) view.state.waiting
  arrived_there view h volumes are =
      let limit = view.setup.max_queue in
      let start = opening_state view.setup.opening view.setup.first_number in
      let before = arrival_in m view.setup (joined volumes) in
      let there = AreAt before view.base.waiting in
      let based = agree_arrived before view.base.waiting view.base.arrivals (subst there (sym are.arrivals) (at_own before view.base.waiting)) in
      let same = All-weaker (λ x. arrived view.base x.number ≡ before x.number) (λ x. before x.number ≡ arrived view.base x.number) (λ x is. sym is) view.base.waiting based in
      let since = arrivals_agree m limit (arrived view.base) before view.base.place (base_state view) view.events same in
      let at = sym (ends-at view.setup.first_place volumes view.base.place are.run_on) in
      All-weaker (λ x. arrivals m limit (base_state view) view.base.place before view.events x.number ≡ arrival m view x.number)
      (λ x. arrival_in m view.setup (joined volumes ++ view.events) x.number ≡ arrival m view x.number)
      (λ x is. arrivals_append m limit start view.setup.first_place (λ k. 0) (joined volumes) view.events x.number
      ∙ (ap (λ s. arrivals m limit s (view.setup.first_place + length (joined volumes)) before view.events x.number) are.leads.to_there
      ∙ (ap (λ k. arrivals m limit (base_state view) k before view.events x.number) at ∙ is)))
      view.state.waiting
      (subst (λ s. All (λ x. arrivals m limit (base_state view) view.base.place before view.events x.number ≡ arrival m view x.number) s.waiting) h.leads since)

  pub joins : (view : View S V) → Replays m view → (volumes : List (VolumeView V)) → AreVolumes m view volumes → AreVolumes m (cut m view) (volumes ++ cut_off view ∷ [])
  joins view h volumes are =
      let limit = view.setup.max_queue in
      let start = opening_state view.setup.opening view.setup.first_number in
      let one = leads_there view h in
      let joined_now = sym (joined-append volumes (cut_off view)) in
      let whole = arrival_in m view.setup (joined volumes ++ view.events) in
      let now = map (λ x. arrival m view x.number) view.state.waiting in
      let all : Leads m view.setup (joined volumes ++ view.events) start (base_state (cut m view)) = record {
        legal = legal-append m limit start (joined volumes) view.events are.leads.legal (subst (λ s. IsLegal m limit s view.events) (sym are.leads.to_there) one.legal);
        to_there = replay-append m limit start (joined volumes) view.events ∙ (ap (λ s. replay m limit s view.events) are.leads.to_there ∙ one.to_there);
        public = All-append (NamesPublic view.setup.shape) (joined volumes) view.events are.leads.public one.public;
      } in record {
        run_on = run_on-append view.setup.first_place volumes view.base.place (cut_off view) are.run_on refl;
        leads = subst (λ events. Leads m view.setup events start (base_state (cut m view))) joined_now all;
        arrivals = subst (λ events. map (λ x. arrival m view x.number) view.state.waiting ≡ map (λ x. arrival_in m view.setup events x.number) view.state.waiting) joined_now
            (sym (arrivals_are_places whole view.state.waiting now (at_by (arrival m view) whole view.state.waiting now (arrived_there view h volumes are) (at_own (arrival m view) view.state.waiting))));
        last = ap (λ last. last_from last view.events) are.last ∙ (sym (last-append None (joined volumes) view.events) ∙ ap (last_from None) joined_now);
        ran = ap (λ n. n + count_by is_ran view.events) are.ran
            ∙ sym (ap (count_by is_ran) (joined-append volumes (cut_off view)) ∙ sum_by-append (λ event. cond (is_ran event) 1 0) (joined volumes) view.events);
      }

  -- each call and each procedure of the history is an event
  pub counted_so_far : (view : View S V) → IsHistory m view.setup view.base view.state view.events → view.setup.first_place + view.state.next + procedures_run view ≤ view.setup.first_number + next_place view
  counted_so_far view h =
      let issued = replay-next m view.setup.max_queue (base_state view) view.events in
      omega (arith, issued, counted-apart view.events, h.base.counted, ap (λ s. s.next) h.leads)

  -- the base isn't before the first place
  pub base_begun : (view : View S V) → IsHistory m view.setup view.base view.state view.events → view.setup.first_place ≤ view.base.place
  base_begun view h = omega (arith, h.base.counted, h.base.low)

  -- if no events follow the opening, the present picture is the opening
  picture_opens : (view : View S V) → view.base ≡ opening_base view.setup.opening view.setup.first_number view.setup.first_place → view.events ≡ [] → replay m view.setup.max_queue (base_state view) view.events ≡ view.state → present_base m view ≡ opening_base view.setup.opening view.setup.first_number view.setup.first_place
  picture_opens view base none leads =
      let setup = view.setup in
      let unchanged : view.state ≡ opening_state setup.opening setup.first_number =
      sym leads ∙ (ap (replay m setup.max_queue (base_state view)) none ∙ ap (λ b. state_at b view.state.ended) base) in
      let place : next_place view ≡ setup.first_place = omega (arith, ap (λ b. b.place) base, ap length none) in
      let ran : procedures_run view ≡ 0 = omega (arith, ap (λ b. b.ran) base, ap (count_by is_ran) none) in
      same_base (present_base m view) (opening_base setup.opening setup.first_number setup.first_place)
      (ap (λ s. s.unit) unchanged)
      (ap (λ s. s.waiting) unchanged)
      (ap (λ s. map (λ x. arrival m view x.number) s.waiting) unchanged)
      (ap (λ s. length s.ended) unchanged)
      (ap (λ s. s.next) unchanged)
      (ap (λ s. s.clock) unchanged)
      (ap (λ s. s.finalized) unchanged)
      place
      ran
      (ap (λ b. last_from b.last view.events) base ∙ ap (last_from None) none)

  -- a picture at the place of the first event is the opening, since no event came before
  pub opened_so_far : (view : View S V) → IsHistory m view.setup view.base view.state view.events → next_place view ≡ view.setup.first_place → present_base m view ≡ opening_base view.setup.opening view.setup.first_number view.setup.first_place
  opened_so_far view h at =
      let none : length view.events ≡ 0 = omega (arith, base_begun view h, at) in
      picture_opens view (h.base.opened (omega (arith, at, none))) (nothing view.events none) h.leads

  -- the present picture is a base
  pub present_is_base : IsLawful m → (view : View S V) → IsHistory m view.setup view.base view.state view.events → IsBase m view.setup (present_base m view) view.state.ended
  present_is_base law view h =
      let setup = view.setup in
      let limit = setup.max_queue in
      let total = entry_count setup.shape in
      let first = setup.first_number in
      let w = well m law setup view.base view.state view.events h in
      let f = arrival m view in
      let k = view.base.place + length view.events in
      let start = well_base m law setup view.base view.state.ended h.base in
      let o : Ordered f k view.state.waiting = subst (λ s. Ordered f k s.waiting) h.leads (ordered_all m law limit total first (arrived view.base) view.base.place (base_state view) view.events h.legal start (record { rises = h.base.rises; before = h.base.before })) in
      let agree = keeps_arrivals view in
      record {
        shaped = w.range.entries;
        low = w.low;
        placed = subst (IsInOnePlace first) (sym (present_state view)) w.placed;
        range = subst (λ n. All (λ x. x.entry < n) view.state.waiting) (sym w.range.entries) w.range.calls;
        rises = rises_by f (arrived (present_base m view)) view.state.waiting agree o.rises;
        before = before_by f (arrived (present_base m view)) k view.state.waiting agree o.before;
        emptied = subst IsEmptied h.leads (emptied m law limit (base_state view) view.events h.legal h.base.emptied);
        ended = omega arith;
        counted = counted_so_far view h;
        opened = opened_so_far view h;
      }
