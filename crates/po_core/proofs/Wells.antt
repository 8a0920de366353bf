-- What holds after each legal history: the entries are in range, and each call is in one place.
use Rattle.std.proofs.Common.{◌≡◌, ℕ, ◌+◌, ◌==◌, ◌<◌, ◌≤◌, List, [], ◌∷◌, map, refl, subst, ap, sym, ◌∙◌, arith, Bool, true, false, cond, not, ◌&&◌, nat_le, nat_lt, Option, Some, None, Result, Ok, Err, if◌then◌else◌}
use Rattle.std.specs.List.{find, count_by, All}
use Rattle.std.proofs.lemmas.List.Elements.{All-push, All-nil, All-map, All-weaker}
use Rattle.std.proofs.lemmas.Bool.Decides.{nat_tests}
use Rattle.po_unit.specs.Meaning.{Meaning, IsLawful, LowersRank}
use Rattle.po_unit.specs.declared.outcome.Outcome.{Outcome}
use Rattle.po_unit.specs.declared.outcome.Outcome.TheVariants.{Complete, Raise, Requeue}
use Rattle.po_calls.specs.declared.call.Call.{Call}
use Rattle.po_calls.specs.declared.call.Deadline.{Deadline}
use Rattle.po_calls.specs.declared.end.End.TheVariants.{Completed, Raised, Cancelled, ProgramError}
use Rattle.po_history.specs.declared.event.Event.{Event}
use Rattle.po_history.specs.declared.event.Event.TheVariants.{Issue, Procedure, Cancel, Tick, Finalize, Serve, Break, Expire}
use Rattle.po_engine.specs.ObjectState.{ObjectState, counts_in, barrier_in}
use Rattle.po_engine.specs.WaitingCalls.{has_number, is_on, mark}
use Rattle.po_engine.specs.Step.{is_full, enter, end_call, end_all, queue, conclude, run_body, arrive, take_out, cancel, attempt_cancel, serve, step, Needs, IsLegal, replay}
use Rattle.po_core.specs.Setup.{Setup}
use Rattle.po_engine.specs.Pick.{Fits}
use Rattle.po_core.specs.View.{IsInOnePlace}
use Rattle.po_core.specs.Base.{Base, state_at}
use Rattle.po_engine.specs.declared.ended.Ended.{Ended}
use Rattle.po_core.specs.History.{IsBase, IsHistory}
use Rattle.po_unit.specs.Numbering.{entry_count}
use Rattle.po_core.proofs.Counting.{next-arrive, next-serve, next-cancel, next-attempt}
use Rattle.po_engine.proofs.Places.{places_of, places-step}
use Rattle.po_engine.proofs.Absent.{All-without}

-- All of what is left, and of what is found
module _ {S V : Type 0} (m : Meaning S V) (law : IsLawful m) (limit : Option ℕ) (total : ℕ) where
  -- the unit has this many entries, and each queued call is on one of them
  pub record InRange (p : ObjectState S V) : Type 0 where
    pub entries : m.entries p.unit ≡ total
    pub calls : All (λ x. x.entry < total) p.waiting

  range-queue : (p : ObjectState S V) (x : Call V) → x.entry < total → InRange p → InRange (queue p x)
  range-queue p x lt h = record { entries = h.entries; calls = All-push (λ y. y.entry < total) p.waiting x h.calls lt }

  range-take : (p : ObjectState S V) (test : Call V → Bool) → InRange p → InRange (take_out p test)
  range-take p test h = record { entries = h.entries; calls = All-without (λ y. y.entry < total) test p.waiting h.calls }

  range-none : (p : ObjectState S V) (q : ObjectState S V) → q.unit ≡ p.unit → q.waiting ≡ [] → InRange p → InRange q
  range-none p q u w h = record { entries = ap m.entries u ∙ h.entries; calls = subst (λ l. All (λ y. y.entry < total) l) (sym w) (All-nil (λ y. y.entry < total)) }

  range-same : (p q : ObjectState S V) → q.unit ≡ p.unit → q.waiting ≡ p.waiting → InRange p → InRange q
  range-same p q u w h = record { entries = ap m.entries u ∙ h.entries; calls = subst (λ l. All (λ y. y.entry < total) l) (sym w) h.calls }

  entered : (b : Bool) (p : ObjectState S V) (x : Call V) → x.entry < total → InRange p → InRange (if b then end_call p x ProgramError else queue p x)
  entered true p x lt h = range-same p (end_call p x ProgramError) refl refl h
  entered false p x lt h = range-queue p x lt h

  range-enter : (p : ObjectState S V) (x : Call V) → x.entry < total → InRange p → InRange (enter limit p x)
  range-enter p x lt h = entered (is_full limit (count_by (is_on x.entry) p.waiting)) p x lt h

  requeued : (b : Bool) (p : ObjectState S V) (x y : Call V) → y.entry < total → InRange p → InRange (if b then end_call p x Cancelled else enter limit p y)
  requeued true p x y lt h = range-same p (end_call p x Cancelled) refl refl h
  requeued false p x y lt h = range-enter p y lt h

  range-conclude : (u : S) (e : ℕ) (v : V) (p : ObjectState S V) (x : Call V) (o : Outcome V) → m.entries u ≡ total → LowersRank m u e v o → InRange p → InRange (conclude limit p x o)
  range-conclude u e v p x (Complete w) is l h = range-same p (end_call p x (Completed w)) refl refl h
  range-conclude u e v p x (Raise k) is l h = range-same p (end_call p x (Raised k)) refl refl h
  range-conclude u e v p x (Requeue t a w) is l h = requeued (a && x.aborted) p x (record x { entry = t; value = w; without_abort = not a }) (subst (λ k. t < k) is l.0) h

  range-run_body : (p : ObjectState S V) (x : Call V) → InRange p → InRange (run_body m limit p x)
  range-run_body p x h =
      let c = counts_in m p in
      let r = m.body p.unit x.entry x.value c in
      range-conclude p.unit x.entry x.value (record p { unit = r.0 }) x r.1 h.entries (law.requeues p.unit x.entry x.value c)
      (record { entries = (law.body_numbers p.unit x.entry x.value c).entries ∙ h.entries; calls = h.calls })

  range-arrive : (p : ObjectState S V) (x : Call V) (r : Result Bool ℕ) → x.entry < total → InRange p → InRange (arrive m limit p x r)
  range-arrive p x (Ok true) lt h = range-run_body p x h
  range-arrive p x (Ok false) lt h = range-enter p x lt h
  range-arrive p x (Err k) lt h = range-none p (end_call (end_all p ProgramError) x ProgramError) refl refl h

  range-serve : (p : ObjectState S V) (e : ℕ) (o : Option (Call V)) → InRange p → InRange (serve m limit p e o)
  range-serve p e None h = h
  range-serve p e (Some x) h = range-run_body (take_out p (is_on e)) x (range-take p (is_on e) h)

  range-cancel : (p : ObjectState S V) (n : ℕ) (o : Option (Call V)) → InRange p → InRange (cancel p n o)
  range-cancel p n None h = h
  range-cancel p n (Some x) h = range-same (take_out p (has_number n)) (end_call (take_out p (has_number n)) x Cancelled) refl refl (range-take p (has_number n) h)

  marked : (b : Bool) (x : Call V) → x.entry < total → (if b then record x { aborted = true } else x).entry < total
  marked true x h = h
  marked false x h = h

  range-aborted : (b : Bool) (p : ObjectState S V) (n : ℕ) (x : Call V) → InRange p → InRange (if b then record p { waiting = map (mark n) p.waiting } else cancel p n (Some x))
  range-aborted true p n x h = record { entries = h.entries; calls = All-map (λ y. y.entry < total) (mark n) p.waiting (All-weaker (λ y. y.entry < total) (λ y. (mark n y).entry < total) (λ y k. marked (has_number n y) y k) p.waiting h.calls) }
  range-aborted false p n x h = range-cancel p n (Some x) h

  range-attempt : (p : ObjectState S V) (n : ℕ) (o : Option (Call V)) → InRange p → InRange (attempt_cancel p n o)
  range-attempt p n None h = h
  range-attempt p n (Some x) h = range-aborted x.without_abort p n x h

  pub range-step : (p : ObjectState S V) (e : Event V) → Needs m p e → InRange p → InRange (step m limit p e)
  range-step p (Issue n owner e v d) need h = range-arrive (record p { next = p.next + 1 }) (record { number = n; owner = owner; entry = e; value = v; without_abort = false; aborted = false; deadline = d }) (barrier_in m p e) (subst (λ k. e < k) h.entries need.1) (range-same p (record p { next = p.next + 1 }) refl refl h)
  range-step p (Procedure owner op v reply) need h = record { entries = (law.procedure_numbers p.unit op v (counts_in m p)).entries ∙ h.entries; calls = h.calls }
  range-step p (Cancel n) need h = range-attempt p n (find (has_number n) p.waiting) h
  range-step p (Tick t) need h = record { entries = h.entries; calls = h.calls }
  range-step p Finalize need h = range-none p (step m limit p Finalize) refl refl h
  range-step p (Serve e) need h = range-serve p e (find (is_on e) p.waiting) h
  range-step p (Break e) need h = range-none p (end_all p ProgramError) refl refl h
  range-step p (Expire n) need h = range-cancel p n (find (has_number n) p.waiting) h

  -- a new call has the next number
  pub next-issue : (p : ObjectState S V) (n owner e : ℕ) (v : V) (d : Deadline) → (step m limit p (Issue n owner e v d)).next ≡ p.next + 1
  next-issue p n owner e v d = next-arrive m limit (record p { next = p.next + 1 }) (record { number = n; owner = owner; entry = e; value = v; without_abort = false; aborted = false; deadline = d }) (barrier_in m p e)

  -- an attempt to cancel a call issues none
  pub next_attempt : (p : ObjectState S V) (n : ℕ) → (step m limit p (Cancel n)).next ≡ p.next
  next_attempt p n = next-attempt m limit p n (find (has_number n) p.waiting)

  -- an inner event issues no call
  pub next_inner : (p : ObjectState S V) (e : Event V) → Fits m p e → (step m limit p e).next ≡ p.next
  next_inner p (Serve e) h = next-serve m limit p e (find (is_on e) p.waiting)
  next_inner p (Break e) h = refl
  next_inner p (Expire n) h = next-cancel m limit p n (find (has_number n) p.waiting)
  next_inner p (Issue n owner e v d) h = absurd h
  next_inner p (Procedure owner op v reply) h = absurd h
  next_inner p (Cancel n) h = absurd h
  next_inner p (Tick t) h = absurd h
  next_inner p Finalize h = absurd h

  -- numbers are never taken back
  pub next_le : (p : ObjectState S V) (e : Event V) → p.next ≤ (step m limit p e).next
  next_le p (Issue n owner e v d) = omega (arith, next-issue p n owner e v d)
  next_le p (Procedure owner op v reply) = omega arith
  next_le p (Cancel n) = omega (arith, next-attempt m limit p n (find (has_number n) p.waiting))
  next_le p (Tick t) = omega arith
  next_le p Finalize = omega arith
  next_le p (Serve e) = omega (arith, next-serve m limit p e (find (is_on e) p.waiting))
  next_le p (Break e) = omega arith
  next_le p (Expire n) = omega (arith, next-cancel m limit p n (find (has_number n) p.waiting))

  pub next_le_all : (p : ObjectState S V) (es : List (Event V)) → p.next ≤ (replay m limit p es).next
  next_le_all p [] = omega arith
  next_le_all p (e ∷ es) = omega (arith, next_le p e, next_le_all (step m limit p e) es)

  pub record IsWell (first : ℕ) (p : ObjectState S V) : Type 0 where
    pub low : first ≤ p.next
    pub placed : IsInOnePlace first p
    pub range : InRange p

  -- an event that issues nothing
  placed_same : (first : ℕ) (p q : ObjectState S V) → q.next ≡ p.next → ((n : ℕ) → places_of n q ≡ places_of n p + 0) → first ≤ p.next → IsInOnePlace first p → (first ≤ q.next) × IsInOnePlace first q
  placed_same first p q n k low h = (subst (λ j. first ≤ j) (sym n) low, λ j. rw n (omega (arith, k j, h j)))

  bit_next : (first next n k : ℕ) → first ≤ next → n ≡ next → (if nat_le first k && nat_lt k (next + 1) then 1 else 0) ≡ (if nat_le first k && nat_lt k next then 1 else 0) + cond (n == k) 1 0
  bit_next first next n k low is = grind (arith, nat_tests)

  placed_next : (first n : ℕ) (p q : ObjectState S V) → q.next ≡ p.next + 1 → n ≡ p.next → ((k : ℕ) → places_of k q ≡ places_of k p + cond (n == k) 1 0) → first ≤ p.next → IsInOnePlace first p → (first ≤ q.next) × IsInOnePlace first q
  placed_next first n p q is num k low h = (subst (λ j. first ≤ j) (sym is) (omega arith), λ j. rw is (k j ∙ (ap (λ i. i + cond (n == j) 1 0) (h j) ∙ sym (bit_next first p.next n j low num))))

  placed_after : (first : ℕ) (p : ObjectState S V) (e : Event V) → Needs m p e → first ≤ p.next → IsInOnePlace first p → (first ≤ (step m limit p e).next) × IsInOnePlace first (step m limit p e)
  placed_after first p (Issue n owner e v d) need low h =
      let x : Call V = record { number = n; owner = owner; entry = e; value = v; without_abort = false; aborted = false; deadline = d } in
      placed_next first n p (step m limit p (Issue n owner e v d)) (next-arrive m limit (record p { next = p.next + 1 }) x (barrier_in m p e)) need.2 (λ k. places-step k m limit p (Issue n owner e v d)) low h
  placed_after first p (Procedure owner op v reply) need low h = placed_same first p (step m limit p (Procedure owner op v reply)) refl (λ k. places-step k m limit p (Procedure owner op v reply)) low h
  placed_after first p (Cancel n) need low h = placed_same first p (step m limit p (Cancel n)) (next-attempt m limit p n (find (has_number n) p.waiting)) (λ k. places-step k m limit p (Cancel n)) low h
  placed_after first p (Tick t) need low h = placed_same first p (step m limit p (Tick t)) refl (λ k. places-step k m limit p (Tick t)) low h
  placed_after first p Finalize need low h = placed_same first p (step m limit p Finalize) refl (λ k. places-step k m limit p Finalize) low h
  placed_after first p (Serve e) need low h = placed_same first p (step m limit p (Serve e)) (next-serve m limit p e (find (is_on e) p.waiting)) (λ k. places-step k m limit p (Serve e)) low h
  placed_after first p (Break e) need low h = placed_same first p (step m limit p (Break e)) refl (λ k. places-step k m limit p (Break e)) low h
  placed_after first p (Expire n) need low h = placed_same first p (step m limit p (Expire n)) (next-cancel m limit p n (find (has_number n) p.waiting)) (λ k. places-step k m limit p (Expire n)) low h

  pub well_after : (first : ℕ) (p : ObjectState S V) (e : Event V) → Needs m p e → IsWell first p → IsWell first (step m limit p e)
  well_after first p e need h =
      let k = placed_after first p e need h.low h.placed in
      record { low = k.0; placed = k.1; range = range-step p e need h.range }

  pub well_run : (first : ℕ) (p : ObjectState S V) (es : List (Event V)) → IsLegal m limit p es → IsWell first p → IsWell first (replay m limit p es)
  well_run first p [] l h = h
  well_run first p (e ∷ es) l h = well_run first (step m limit p e) es l.1 (well_after first p e l.0 h)

module _ {S V : Type 0} (m : Meaning S V) (law : IsLawful m) (setup : Setup S) where
  pub well_base : (b : Base S V) (ended : List (Ended V)) → IsBase m setup b ended → IsWell m law setup.max_queue (entry_count setup.shape) setup.first_number (state_at b ended)
  well_base b ended h = record {
    low = h.low;
    placed = h.placed;
    range = record { entries = h.shaped; calls = subst (λ n. All (λ x. x.entry < n) b.waiting) h.shaped h.range };
  }

  -- what holds of any state that a history leads to
  pub well : (b : Base S V) (s : ObjectState S V) (events : List (Event V)) → IsHistory m setup b s events → IsWell m law setup.max_queue (entry_count setup.shape) setup.first_number s
  well b s events h = subst (λ q. IsWell m law setup.max_queue (entry_count setup.shape) setup.first_number q) h.leads (well_run m law setup.max_queue (entry_count setup.shape) setup.first_number (state_at b s.ended) events h.legal (well_base b s.ended h.base))
