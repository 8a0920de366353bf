-- Each turn of a client leads the serial object on.
use Rattle.std.proofs.Common.{ℕ, ◌≡◌, ◌∙◌, ◌<◌, List, [], ◌∷◌, Bool, true, false, not, ◌&&◌, if◌then◌else◌, Result, Ok, Err, Option, Some, None, ap, refl, sym, subst}
use Rattle.std.specs.Prelude.{IsSome}
use Rattle.std.specs.List.{All, count_by, find, slice_index}
use Rattle.std.proofs.lemmas.List.{append-nil}
use Rattle.po_unit.specs.Meaning.{Meaning}
use Rattle.po_unit.specs.declared.outcome.Outcome.{Outcome}
use Rattle.po_unit.specs.declared.outcome.Outcome.TheVariants.{Complete, Raise, Requeue as RequeueTo}
use Rattle.po_calls.specs.declared.call.Call.{Call}
use Rattle.po_calls.specs.declared.call.Deadline.{Deadline}
use Rattle.po_calls.specs.declared.end.End.{End}
use Rattle.po_calls.specs.declared.end.End.TheVariants.{Cancelled as IsCancelled, Completed as HasCompleted, ProgramError as IsProgramError, Raised as HasRaised}
use Rattle.po_engine.specs.declared.ended.Ended.{Ended}
use Rattle.po_engine.specs.WaitingCalls.{is_due, is_on}
use Rattle.po_history.specs.declared.event.Event.TheVariants.{Issue}
use Rattle.po_engine.specs.Driving.{counted, new_call}
use Rattle.po_engine.specs.ObjectState.{ObjectState, barrier_in}
use Rattle.po_engine.specs.Step.{MayBegin as Begins, arrive, end_all, end_call, enter, is_full, conclude, queue}
use Rattle.po_driven.specs.Answering.{AnswersCall, Breaks, LooksOn, Moves, WaitsForNext}
use Rattle.po_driven.specs.AtRest.{told}
use Rattle.po_driven.specs.DrivenView.{DrivenView, Fresh, IsDriven, KeepsSetup, MayIssue, Tells}
use Rattle.po_driven.specs.Happening.{Driving, after_end, after_requeue, cancellation_of, happen, replay as led_to}
use Rattle.po_driven.specs.Noted.{EndsWhereFull, Notes, issued, concluded, longest_on, serviced}
use Rattle.po_driven.specs.Steps.{EndsBody, GoesOn, Issues}
use Rattle.po_driven.specs.DrivenCallsView.{led_by}
use Rattle.po_driven.specs.declared.action.Action.{Action}
use Rattle.po_driven.specs.declared.action.Action.TheVariants.{Cancelled, Evaluate, NoMemory, ProgramError, Queued, Refused, Rest, Run}
use Rattle.po_driven.specs.declared.happening.Happening.TheVariants.{Arrived, Broken, Ended as HasEnded, Requeued as WasRequeued, Served}
use Rattle.po_driven.specs.declared.phase.Phase.{Phase}
use Rattle.po_driven.specs.declared.phase.Phase.TheVariants.{Asked, Breaking, Resting, Running, Settling}
use Rattle.po_driven.specs.declared.words.Barrier.TheVariants.{Closed, Open, Raised}
use Rattle.po_driven.specs.declared.words.BodyEnd.TheVariants.{Completed, Requeued}
use Rattle.po_driven.specs.declared.words.Requeue.{Requeue}
use Rattle.po_driven.specs.declared.words.NamedCall.{NamedCall}
use Rattle.po_laws.specs.Client.{IsCarriedOut, KeepsValue, ended_with, entry_call, said}
use Rattle.po_laws.specs.Serial.{IsSame, as_known}
use Rattle.po_laws.proofs.Words.{base, known_all, last_same, oldest_same, other_end, queue_same, run_same, with_ended}
use Rattle.po_laws.proofs.Moments.{AreClosed, Follows, IsToldSo, Leads, NoLimits, follows, led_after, longest_none, none_closed, none_told, rests, serial_of}

-- which answers a call gets if its barrier is open, closed or raised
open_runs : (a : Action) (e v : ℕ) (t : Deadline) (n : DrivenView) → IsCarriedOut a → AnswersCall a (entry_call e v t) Open n → a ≡ Run e
open_runs Rest e v t n carried f = absurd f.1
open_runs (Evaluate k) e v t n carried f = absurd f.1
open_runs (Run k) e v t n carried f = ap Run f.1.1
open_runs (Queued k) e v t n carried f = let bad : Open ≡ Closed = f.1 in absurd (cc)
open_runs Cancelled e v t n carried f = let bad : false ≡ true = f in absurd (cc)
open_runs ProgramError e v t n carried f = absurd f.1
open_runs NoMemory e v t n carried f = absurd carried
open_runs Refused e v t n carried f = absurd carried

never_full : (n : ℕ) (limit : Option ℕ) → limit ≡ None → is_full limit n ≡ true → ⊥
never_full n limit none full = let bad : false ≡ true = subst (λ l. is_full l n ≡ true) none full in cc

closed_queues : (a : Action) (e v : ℕ) (t : Deadline) (d n : DrivenView) → NoLimits d → IsCarriedOut a → EndsWhereFull a e d → AnswersCall a (entry_call e v t) Closed n → (k : ℕ) × (a ≡ Queued k)
closed_queues Rest e v t d n none carried full f = absurd f.1
closed_queues (Evaluate k) e v t d n none carried full f = absurd f.1
closed_queues (Run k) e v t d n none carried full f = let bad : Closed ≡ Open = f.1.0 in absurd (cc)
closed_queues (Queued k) e v t d n none carried full f = (k, refl)
closed_queues Cancelled e v t d n none carried full f = let bad : false ≡ true = f in absurd (cc)
closed_queues ProgramError e v t d n none carried full f = absurd (never_full (count_by (is_on e) d.calls.object.state.waiting) (longest_on d e) (longest_none d e none) full)
closed_queues NoMemory e v t d n none carried full f = absurd carried
closed_queues Refused e v t d n none carried full f = absurd carried

raised_breaks : (a : Action) (e v : ℕ) (t : Deadline) (n : DrivenView) → IsCarriedOut a → AnswersCall a (entry_call e v t) Raised n → (a ≡ ProgramError) × (n.phase ≡ Breaking)
raised_breaks Rest e v t n carried f = absurd f.1
raised_breaks (Evaluate k) e v t n carried f = absurd f.1
raised_breaks (Run k) e v t n carried f = let bad : Raised ≡ Open = f.1.0 in absurd (cc)
raised_breaks (Queued k) e v t n carried f = let bad : Raised ≡ Closed = f.1 in absurd (cc)
raised_breaks Cancelled e v t n carried f = let bad : false ≡ true = f in absurd (cc)
raised_breaks ProgramError e v t n carried f = (refl, f.1)
raised_breaks NoMemory e v t n carried f = absurd carried
raised_breaks Refused e v t n carried f = absurd carried

pub none_found : (p : Call ℕ → Bool) (xs : List (Call ℕ)) → xs ≡ [] → IsSome (find p xs) → ⊥
none_found p xs none found = let bad : false ≡ true = subst (λ l. IsSome (find p l)) none found in cc

module _ {S : Type 0} (m : Meaning S ℕ) where
  emptied_of : (t : ObjectState S ℕ) (xs : List (Call ℕ)) → xs ≡ [] → end_all (record t { waiting = xs }) IsProgramError ≡ record t { waiting = xs }
  emptied_of t [] none = ap (λ l. record t { waiting = []; ended = l }) (append-nil t.ended)
  emptied_of t (x ∷ xs) none = absurd (cc)

  -- if none is queued, none ends
  emptied : (t : ObjectState S ℕ) → t.waiting ≡ [] → end_all t IsProgramError ≡ t
  emptied t none = emptied_of t t.waiting none

  module _ (u v : S) (d n : DrivenView) (numbered : m.entries v ≡ m.entries u) (entries : m.entries u ≡ d.calls.object.state.unit) (limits : NoLimits d) (before : IsDriven d) (setup : KeepsSetup d n) (after : IsDriven n) where
    abbrev g : Driving
    g = led_by d.calls

    pub goes : (s : ObjectState S ℕ) (p : Phase) (h : Driving) → n.phase ≡ p → led_by n.calls ≡ h → IsSame s (serial_of m p v h) → IsToldSo m p (base v h) n.closed → Follows m s v n
    goes s p h phase led is closed = follows m s v n p h after (numbered ∙ entries ∙ sym setup.entries) (λ e. ap (λ l. slice_index l e) setup.limits ∙ limits e) phase led is closed

    -- the queues are examined again
    settled : (s : ObjectState S ℕ) (h : Driving) (a : Action) → IsSame s (base v h) → led_by n.calls ≡ led_to h (serviced a d) → Tells a n → Fresh a n → LooksOn a d.calls.object.state.waiting n.closed → Follows m s v n
    settled s h Rest is led tells fresh looks = goes s Resting h tells led is (none_closed m (base v h) n.closed fresh)
    settled s h (Evaluate k) is led tells fresh looks = goes s (Asked k) h tells led is (none_closed m (base v h) n.closed fresh)
    settled s h (Run k) is led tells fresh looks = absurd looks
    settled s h (Queued k) is led tells fresh looks = absurd looks
    settled s h Cancelled is led tells fresh looks =
        let none = none_told d.calls.object.state.waiting (subst (λ l. All (λ x. told l x.entry ≡ true) d.calls.object.state.waiting) fresh looks) in
        goes s Settling h tells (led ∙ ap (λ xs. led_to h (cancellation_of (find (is_due d.calls.object.state.clock) xs))) none) is tt
    settled s h ProgramError is led tells fresh looks = absurd looks
    settled s h NoMemory is led tells fresh looks = absurd looks
    settled s h Refused is led tells fresh looks = absurd looks

    -- one more queued call ends, or none is left
    pub broken : (s : ObjectState S ℕ) (h : Driving) (a : Action) → h.state.waiting ≡ d.calls.object.state.waiting → IsSame s (end_all (base v h) IsProgramError) → led_by n.calls ≡ led_to h (serviced a d) → Tells a n → Fresh a n → Breaks a d n → Follows m s v n
    broken s h Rest waiting is led tells fresh breaks =
        goes s Resting h tells led (subst (λ t. IsSame s t) (emptied (base v h) (waiting ∙ breaks)) is) (none_closed m (base v h) n.closed fresh)
    broken s h (Evaluate k) waiting is led tells fresh breaks = absurd breaks
    broken s h (Run k) waiting is led tells fresh breaks = absurd breaks
    broken s h (Queued k) waiting is led tells fresh breaks = absurd breaks
    broken s h Cancelled waiting is led tells fresh breaks = absurd breaks
    broken s h ProgramError waiting is led tells fresh breaks = goes s Breaking (happen Broken h) breaks led (subst (λ t. IsSame s t) (sym (oldest_same v h)) is) tt
    broken s h NoMemory waiting is led tells fresh breaks = absurd breaks
    broken s h Refused waiting is led tells fresh breaks = absurd breaks

    -- what comes next
    pub next_on : (s : ObjectState S ℕ) (p : Phase) (a : Action) (step : NamedCall) → d.phase ≡ p → WaitsForNext d.phase → IsSame s (serial_of m p v g) → GoesOn step d n a → Follows m s v n
    next_on s Resting a step phase waits is k =
        settled s g a is (led_after d n (serviced a d) setup k.noted) k.tells k.fresh (k.looks_on (λ b. let bad : Resting ≡ Breaking = sym phase ∙ b in cc) (k.accepted waits))
    next_on s (Asked e) a step phase waits is k = absurd (subst WaitsForNext phase waits)
    next_on s Running a step phase waits is k = absurd (subst WaitsForNext phase waits)
    next_on s Settling a step phase waits is k =
        settled s g a is (led_after d n (serviced a d) setup k.noted) k.tells k.fresh (k.looks_on (λ b. let bad : Settling ≡ Breaking = sym phase ∙ b in cc) (k.accepted waits))
    next_on s Breaking a step phase waits is k =
        broken s g a (sym (ap (λ t. t.waiting) before.traced.leads.state)) is (led_after d n (serviced a d) setup k.noted) k.tells k.fresh (k.breaks phase)

    -- the body of the call in service has ended, and the serial object has run it
    module _ (x : Call ℕ) (serving : d.calls.object.serving ≡ Some x) (s : ObjectState S ℕ) (a : Action) (step : NamedCall) (carried : IsCarriedOut a) where
      held : g.serving ≡ Some x
      held = sym before.traced.leads.serving ∙ serving

      over : (end : End ℕ) → Notes (HasEnded end ∷ serviced a d) d n → led_by n.calls ≡ led_to (record g { state = end_call g.state x end; serving = None }) (serviced a d)
      over end noted = led_after d n (HasEnded end ∷ serviced a d) setup noted ∙ ap (λ o. led_to (after_end g o end) (serviced a d)) held

      completed_on : (end : End ℕ) → as_known end ≡ HasCompleted 0 → IsSame s (end_call (base v g) x end) → EndsBody Completed step d n a → Follows m s v n
      completed_on end alike is k =
          let h : Driving = record g { state = end_call g.state x (HasCompleted x.value); serving = None } in
          settled s h a (other_end s (base v g) x end (HasCompleted x.value) alike is) (over (HasCompleted x.value) (k.noted x serving)) k.tells k.fresh (k.looks_on (subst (λ o. IsSome o) (sym serving) refl) refl)

      module _ (target w : ℕ) (with_abort : Bool) (kept : w ≡ x.value) where
        abbrev asked : Requeue
        asked = record { target = target; with_abort = with_abort; aborted = false; due = false }

        abbrev moved : ℕ → Call ℕ
        moved value = record x { entry = target; value = value; without_abort = not with_abort }

        cancelled_if : (b : Bool) → b ≡ true → IsSame s (if b then end_call (base v g) x IsCancelled else enter None (base v g) (moved w)) → IsSame s (end_call (base v g) x IsCancelled)
        cancelled_if true on is = is
        cancelled_if false on is = absurd (cc)

        queued_if : (b : Bool) → b ≡ false → IsSame s (if b then end_call (base v g) x IsCancelled else enter None (base v g) (moved w)) → IsSame s (queue (base v g) (moved w))
        queued_if true off is = absurd (cc)
        queued_if false off is = is

        concluded_if : (b : Bool) → b ≡ false → queue (base v g) (moved x.value) ≡ base v (record g { state = if b then end_call g.state x IsCancelled else enter None g.state (moved x.value); serving = None })
        concluded_if true off = absurd (cc)
        concluded_if false off = refl

        cancelled_on : n.phase ≡ Settling → Notes (HasEnded IsCancelled ∷ []) d n → IsSame s (end_call (base v g) x IsCancelled) → Follows m s v n
        cancelled_on tells noted is =
            goes s Settling (record g { state = end_call g.state x IsCancelled; serving = None }) tells
            (led_after d n (HasEnded IsCancelled ∷ []) setup noted ∙ ap (λ o. after_end g o IsCancelled) held) is tt

        queued_on : (k : ℕ) → with_abort && x.aborted ≡ false → n.phase ≡ Asked k → n.closed ≡ [] → Notes (WasRequeued (RequeueTo target with_abort x.value) (longest_on d target) ∷ []) d n
            → IsSame s (queue (base v g) (moved w)) → Follows m s v n
        queued_on k off tells fresh noted is =
            let o : Outcome ℕ = RequeueTo target with_abort x.value in
            let h : Driving = record g { state = conclude None g.state x o; serving = None } in
            let led = led_after d n (WasRequeued o (longest_on d target) ∷ []) setup noted ∙ ap (λ l. after_requeue g g.serving o l) (longest_none d target limits) ∙ ap (λ q. after_requeue g q o None) held in
            goes s (Asked k) h tells led (subst (λ t. IsSame s t) (concluded_if (with_abort && x.aborted) off) (subst (λ value. IsSame s (queue (base v g) (moved value))) kept is)) (none_closed m (base v h) n.closed fresh)

        requeued_on : (b : Action) → b ≡ a → Moves b asked x step d → IsSame s (conclude None (base v g) x (RequeueTo target with_abort w)) → EndsBody (Requeued asked) step d n a → Follows m s v n
        requeued_on Rest is_a moves is k = absurd moves
        requeued_on (Evaluate e) is_a moves is k = absurd moves
        requeued_on (Run e) is_a moves is k = absurd moves
        requeued_on (Queued e) is_a moves is k =
            queued_on e moves.0 (subst (λ b. Tells b n) (sym is_a) k.tells) (subst (λ b. Fresh b n) (sym is_a) k.fresh)
            (subst (λ b. Notes (concluded (Requeued asked) x b d) d n) (sym is_a) (k.noted x serving)) (queued_if (with_abort && x.aborted) moves.0 is)
        requeued_on Cancelled is_a moves is k =
            cancelled_on (subst (λ b. Tells b n) (sym is_a) k.tells)
            (subst (λ b. Notes (concluded (Requeued asked) x b d) d n) (sym is_a) (k.noted x serving)) (cancelled_if (with_abort && x.aborted) moves.0 is)
        requeued_on ProgramError is_a moves is k =
            absurd (never_full (count_by (is_on target) d.calls.object.state.waiting) (longest_on d target) (longest_none d target limits) (subst (λ b. EndsWhereFull b target d) (sym is_a) (k.full asked refl)))
        requeued_on NoMemory is_a moves is k = absurd moves
        requeued_on Refused is_a moves is k = absurd (subst IsCarriedOut (sym is_a) carried)

      pub concluded_on : (o : Outcome ℕ) → KeepsValue x.value o → IsSame s (conclude None (base v g) x o) → EndsBody (ended_with o) step d n a → Follows m s v n
      concluded_on (Complete w) kept is k = completed_on (HasCompleted w) refl is k
      concluded_on (Raise w) kept is k = completed_on (HasRaised w) refl is k
      concluded_on (RequeueTo target with_abort w) kept is k =
          requeued_on target w with_abort kept a refl (k.moves (record { target = target; with_abort = with_abort; aborted = false; due = false }) x refl serving) is k

  -- the same object with another list of ended calls
  module _ (u : S) (d n : DrivenView) (entries : m.entries u ≡ d.calls.object.state.unit) (limits : NoLimits d) (before : IsDriven d) (setup : KeepsSetup d n) (after : IsDriven n)
      (left : List (Ended ℕ)) (h : known_all left ≡ known_all (led_by d.calls).state.ended) where
    abbrev now : ObjectState S ℕ
    now = base u (led_by d.calls)

    abbrev there : ObjectState S ℕ
    there = with_ended left now

    on : (s : ObjectState S ℕ) (p : Phase) (k : Driving) → n.phase ≡ p → led_by n.calls ≡ k → IsSame s (serial_of m p u k) → IsToldSo m p (base u k) n.closed → Follows m s u n
    on = goes u u d n refl entries limits before setup after

    pub begins : d.phase ≡ Resting → AreClosed m now d.closed → d.calls.object.state.finalized ≡ false → Begins m there
    begins phase are alive =
        let r = rests m u d before phase are in record {
          rest = record { quiet = r.quiet; none_due = r.none_due };
          alive = sym (ap (λ s. s.finalized) before.traced.leads.state) ∙ alive;
        }

    -- a call arrives
    module _ (e v : ℕ) (t : Deadline) (step : NamedCall) (a : Action) (carried : IsCarriedOut a) where
      abbrev x : Call ℕ
      x = new_call now.next (entry_call e v t)

      arrived : (longest : Option ℕ) → longest ≡ None → Notes (Arrived (entry_call e v t) longest ∷ []) d n → led_by n.calls ≡ happen (Arrived (entry_call e v t) None) (led_by d.calls)
      arrived longest none noted = led_after d n (Arrived (entry_call e v t) longest ∷ []) setup noted ∙ ap (λ l. happen (Arrived (entry_call e v t) l) (led_by d.calls)) none

      issued_on : (o : Result Bool ℕ) → Issues (entry_call e v t) (said o) step d n a → Follows m (arrive m None (counted there) x o) u n
      issued_on (Ok true) i =
          let runs = open_runs a e v t n carried i.follows in
          on (arrive m None (counted there) x (Ok true)) Running (happen (Served (entry_call e v t)) (led_by d.calls)) (subst (λ b. Tells b n) runs i.tells)
          (led_after d n (Served (entry_call e v t) ∷ []) setup (subst (λ b. Notes (issued b (entry_call e v t) Open d) d n) runs i.noted)) (run_same left m (counted now) x h) tt
      issued_on (Ok false) i =
          let q = closed_queues a e v t d n limits carried (i.full (λ b. let bad : Closed ≡ Raised = b in cc)) i.follows in
          let k = happen (Arrived (entry_call e v t) None) (led_by d.calls) in
          on (arrive m None (counted there) x (Ok false)) (Asked q.0) k (subst (λ b. Tells b n) q.1 i.tells)
          (arrived (longest_on d e) (longest_none d e limits) (subst (λ b. Notes (issued b (entry_call e v t) Closed d) d n) q.1 i.noted))
          (queue_same left (counted now) x h) (none_closed m (base u k) n.closed (subst (λ b. Fresh b n) q.1 i.fresh))
      issued_on (Err j) i =
          let r = raised_breaks a e v t n carried i.follows in
          let k = happen (Arrived (entry_call e v t) None) (led_by d.calls) in
          on (arrive m None (counted there) x (Err j)) Breaking (happen Broken k) r.1
          (led_after d n (Arrived (entry_call e v t) None ∷ Broken ∷ []) setup (subst (λ b. Notes (issued b (entry_call e v t) Raised d) d n) r.0 i.noted))
          (subst (λ s. IsSame (arrive m None (counted there) x (Err j)) s) (sym (oldest_same u k)) (last_same left (counted now) x h)) tt

      pub issue_leads : d.phase ≡ Resting → AreClosed m now d.closed → MayIssue d e → Issues (entry_call e v t) (said (barrier_in m now e)) step d n a → Leads m there (Issue now.next 0 e v t ∷ []) u n
      issue_leads phase are may i =
          let is = before.traced.leads.state in
          let entry : e < m.entries u = subst (λ k. e < k) (sym entries) may.entry in
          let number : now.next < 18_446_744_073_709_551_615 = subst (λ s. s.next < 18_446_744_073_709_551_615) is may.accepts.number in
          (((begins phase are may.accepts.alive, entry, refl, number), tt), (tt, tt), issued_on (barrier_in m now e) i)
