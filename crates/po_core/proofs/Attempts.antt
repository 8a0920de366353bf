-- An attempt to cancel a call requeued without abort: it is marked, and the object stays at rest.
use Rattle.std.proofs.Common.{◌≡◌, ℕ, zero, suc, ◌==◌, List, [], ◌∷◌, ◌++◌, map, refl, subst, ap, sym, ◌∙◌, Bool, true, false, cond, Option, Some, Ok, if◌then◌else◌, append_assoc, drop, length, arith}
use Rattle.std.specs.List.{count_by, find}
use Rattle.std.proofs.lemmas.List.{map-append}
use Rattle.std.proofs.lemmas.List.Elements.{All-map, All-weaker}
use Rattle.po_unit.specs.Meaning.{Meaning}
use Rattle.po_calls.specs.declared.call.Call.{Call}
use Rattle.po_history.specs.declared.event.Event.{Event}
use Rattle.po_history.specs.declared.event.Event.TheVariants.{Cancel}
use Rattle.po_queues.specs.Turns.{below}
use Rattle.po_engine.specs.WaitingCalls.{is_on, has_number, is_due, counts_of, mark}
use Rattle.po_engine.specs.ObjectState.{ObjectState, barrier_in, IsAtRest}
use Rattle.po_engine.specs.Step.{step, replay}
use Rattle.po_engine.specs.Finding.{IsFound}
use Rattle.po_engine.specs.Pick.{ArePicks, weight}
use Rattle.po_core.specs.View.{View, last_served}
use Rattle.po_core.specs.Progress.{Begins, Settles, IsSameCommand}
use Rattle.po_core.specs.ProtectedAction.{after_attempt, IsProtectedAction, IsAttemptOnCall, IsAttemptOf}
use Rattle.po_engine.proofs.Sums.{sum_by-mapped}
use Rattle.po_core.proofs.Settling.{settles_none}
use Rattle.po_core.proofs.Trails.{begun_by, led_by, rest_settled, attempted_as}

module _ {V : Type 0} (n : ℕ) where
  -- a mark changes neither the entry of a call nor whether it is due
  marked_if : (b : Bool) (x : Call V) → ((if b then record x { aborted = true } else x).entry ≡ x.entry) × ((clock : ℕ) → is_due clock (if b then record x { aborted = true } else x) ≡ is_due clock x)
  marked_if true x = (refl, λ clock. refl)
  marked_if false x = (refl, λ clock. refl)

  counted_one : (e : ℕ) (xs : List (Call V)) → count_by (is_on e) (map (mark n) xs) ≡ count_by (is_on e) xs
  counted_one e xs = sum_by-mapped (λ x. cond (is_on e x) 1 0) (mark n) (λ x. cond (is_on e x) 1 0) (λ x. ap (λ k. cond (k == e) 1 0) (marked_if (has_number n x) x).0) xs

  counts-marked : (total : ℕ) (xs : List (Call V)) → counts_of total (map (mark n) xs) ≡ counts_of total xs
  counts-marked zero xs = refl
  counts-marked (suc total) xs = push total (map (mark n) xs) ∙ (ap (λ l. l ++ count_by (is_on total) (map (mark n) xs) ∷ []) (counts-marked total xs) ∙ (ap (λ k. counts_of total xs ++ k ∷ []) (counted_one total xs) ∙ sym (push total xs)))
    where
      push : (e : ℕ) (ys : List (Call V)) → counts_of (suc e) ys ≡ counts_of e ys ++ count_by (is_on e) ys ∷ []
      push e ys = map-append (λ k. count_by (is_on k) ys) (below e) (e ∷ [])

module _ {S V : Type 0} (m : Meaning S V) where
  rest_marked : (s : ObjectState S V) (n : ℕ) → IsAtRest m s → IsAtRest m (record s { waiting = map (mark n) s.waiting })
  rest_marked s n r =
      let same = counts-marked n (m.entries s.unit) s.waiting in record {
        quiet = All-map (λ x. m.barrier s.unit x.entry (counts_of (m.entries s.unit) (map (mark n) s.waiting)) ≡ Ok false) (mark n) s.waiting (rw same (All-weaker (λ x. barrier_in m s x.entry ≡ Ok false) (λ x. barrier_in m s (mark n x).entry ≡ Ok false) (λ x k. ap (barrier_in m s) (marked_if n (has_number n x) x).0 ∙ k) s.waiting r.quiet));
        none_due = All-map (λ x. is_due s.clock x ≡ false) (mark n) s.waiting (All-weaker (λ x. is_due s.clock x ≡ false) (λ x. is_due s.clock (mark n x) ≡ false) (λ x k. (marked_if n (has_number n x) x).1 s.clock ∙ k) s.waiting r.none_due);
      }

  rest_attempted : (limit : Option ℕ) (s : ObjectState S V) (n : ℕ) (x : Call V) → Some x ≡ find (has_number n) s.waiting → x.without_abort ≡ true → IsAtRest m s → IsAtRest m (step m limit s (Cancel n))
  rest_attempted limit s n x found without_abort r = rw (← found, without_abort) (rest_marked s n r)

  -- a command's own event and the inner events that follow are a protected action
  pub action_of : (s t u : View S V) (own : Event V) → Begins m s t own → Settles m t u → IsAtRest m u.state → IsSameCommand t u → IsProtectedAction m s u own
  action_of s t u own b h rest same =
      let limit = s.setup.max_queue in
      let is = begun_by m s t own b in
      let state : u.state ≡ replay m limit (step m limit s.state own) h.inner = subst (λ v. u.state ≡ replay m v.setup.max_queue v.state h.inner) is h.state in record {
        inner = h.inner;
        events = h.events ∙ (ap (λ l. l ++ h.inner) b.happens.events ∙ append_assoc s.events (own ∷ []) h.inner);
        picks = subst (λ v. ArePicks m v.setup.max_queue v.setup.order (last_served v) v.state h.inner) is h.picks;
        bounded = omega (arith, h.bounded, ap (weight m) b.happens.state);
        state = state;
        rest = rest;
        ended_now = ap (λ k. drop k u.state.ended) (same.ended_before ∙ b.ended_before) ∙ ap (λ p. drop (length s.state.ended) p.ended) state;
        setup = same.setup ∙ b.setup;
        base = same.base ∙ b.base;
      }

  -- What comes of an attempt to cancel a call that was requeued without abort and isn't marked.
  pub record Marks (s t : View S V) (n : ℕ) : Type 0 where
    pub rest : IsAtRest m t.state
    pub after : t ≡ after_attempt m s n
    pub action : IsAttemptOf m s t n

  found_action : (s t : View S V) (n : ℕ) (x : Call V) (o : Option (Call V)) → Some x ≡ o → IsAttemptOnCall m s t n x → IsFound (IsAttemptOnCall m s t n) o
  found_action s t n x o is h = subst (IsFound (IsAttemptOnCall m s t n)) is h

  pub marks : (s t : View S V) (n : ℕ) (x : Call V) → Some x ≡ find (has_number n) s.state.waiting → x.without_abort ≡ true → x.aborted ≡ false → IsAtRest m s.state → Begins m s t (Cancel n) → Marks s t n
  marks s t n x found without_abort unmarked r b =
      let rest : IsAtRest m t.state = subst (IsAtRest m) (sym b.happens.state) (rest_attempted s.setup.max_queue s.state n x found without_abort r) in
      let same : IsSameCommand t t = record { setup = refl; base = refl; ended_before = refl } in
      let action = action_of s t t (Cancel n) b (settles_none m t) rest same in record {
        rest = rest;
        after = led_by m s t t (Cancel n) b (rest_settled m t rest) ∙ sym (attempted_as m s n x found ∙ rw (without_abort, unmarked) refl);
        action = found_action s t n x (find (has_number n) s.state.waiting) found (record {
          cancelled = λ open_now. absurd (no (sym open_now ∙ without_abort));
          marked = λ _ _. (action, b.happens.events);
          kept = λ _ marked_now. absurd (no (sym unmarked ∙ marked_now));
        });
      }
    where
      no : false ≡ true → ⊥
      no e = cc
