-- Which calls wait: a call that waits after a protected action waited before it, or the action issued it.
use Rattle.std.proofs.Common.{◌≡◌, ℕ, ◌+◌, ◌<◌, ◌≤◌, ◌==◌, List, [], ◌∷◌, ◌++◌, map, get_or, refl, subst, sym, arith, Bool, true, false, cond, not, ◌&&◌, nat_le, nat_lt, Option, Some, None, Result, Ok, Err, if◌then◌else◌}
use Rattle.std.specs.List.{count_by, find, All}
use Rattle.std.specs.Option.{option_map, option_or}
use Rattle.std.proofs.lemmas.List.Elements.{All-push, All-nil, All-map, All-weaker}
use Rattle.std.proofs.lemmas.List.Sums.{get_or-le-sum_by}
use Rattle.po_unit.specs.Meaning.{Meaning}
use Rattle.po_unit.specs.declared.outcome.Outcome.{Outcome}
use Rattle.po_unit.specs.declared.outcome.Outcome.TheVariants.{Complete, Raise, Requeue}
use Rattle.po_calls.specs.declared.call.Call.{Call}
use Rattle.po_calls.specs.declared.end.End.TheVariants.{Cancelled, ProgramError}
use Rattle.po_queues.specs.declared.selection.Selection.{Selection}
use Rattle.po_queues.specs.declared.selection.Selection.TheVariants.{Quiet, Ready, Broken}
use Rattle.po_queues.specs.declared.order.Order.{Order}
use Rattle.po_history.specs.declared.event.Event.{Event}
use Rattle.po_history.specs.declared.event.Event.TheVariants.{Issue, Procedure, Cancel, Tick, Finalize, Serve, Break, Expire}
use Rattle.po_engine.specs.WaitingCalls.{is_on, has_number, is_due, mark}
use Rattle.po_engine.specs.Ending.{has_ended}
use Rattle.po_engine.specs.Finding.{IsFound}
use Rattle.po_engine.specs.ObjectState.{ObjectState, counts_in, barrier_in}
use Rattle.po_engine.specs.Step.{step, replay, enter, end_call, queue, conclude, run_body, arrive, serve, cancel, attempt_cancel, take_out, is_full}
use Rattle.po_engine.specs.Pick.{event_of, next_turn, ArePicks, served_last, last_from}
use Rattle.po_core.specs.View.{View, IsInOnePlace}
use Rattle.po_core.specs.ProtectedAction.{IsProtectedAction, IsAttemptOnCall, IsAttemptOf}
use Rattle.po_core.specs.Cutting.{cut}
use Rattle.po_core.proofs.Finds.{All-found}
use Rattle.po_engine.proofs.Absent.{All-without}

module _ (P : ℕ → ℕ → Type 0) where
  -- P holds of the number and the owner of the call that the event issues, if it issues one
  abbrev pub OfIssued : {V : Type 0} → Event V → Type 0
  OfIssued (Issue n owner e v d) = P n owner
  OfIssued other = Unit {0}

  -- P holds of the number and the owner of each call
  abbrev pub OfAll : {V : Type 0} → List (Call V) → Type 0
  OfAll calls = All (λ x. P x.number x.owner) calls

  issued_none : {V : Type 0} (look : Selection) (o : Option (Call V)) (e : Event V) → option_or (event_of look) (option_map (λ x. Expire x.number) o) ≡ Some e → OfIssued e
  issued_none Quiet None e h = cc
  issued_none {V} Quiet (Some x) e h = let same : Expire x.number ≡ e = cc in subst (λ event. OfIssued event) same tt
  issued_none {V} (Ready k) o e h = let same : Serve k ≡ e = cc in subst (λ event. OfIssued event) same tt
  issued_none {V} (Broken k) o e h = let same : Break k ≡ e = cc in subst (λ event. OfIssued event) same tt

  marked_of : {V : Type 0} (b : Bool) (x : Call V) → P x.number x.owner → P (if b then record x { aborted = true } else x).number (if b then record x { aborted = true } else x).owner
  marked_of true x h = h
  marked_of false x h = h

  module _ {S V : Type 0} (m : Meaning S V) (limit : Option ℕ) where
    of-either : (b : Bool) (p q : ObjectState S V) → OfAll p.waiting → OfAll q.waiting → OfAll (if b then p else q).waiting
    of-either true p q h k = h
    of-either false p q h k = k

    of-enter : (p : ObjectState S V) (x : Call V) → P x.number x.owner → OfAll p.waiting → OfAll (enter limit p x).waiting
    of-enter p x own h = of-either (is_full limit (count_by (is_on x.entry) p.waiting)) (end_call p x ProgramError) (queue p x) h (All-push (λ y. P y.number y.owner) p.waiting x h own)

    of-conclude : (p : ObjectState S V) (x : Call V) (o : Outcome V) → P x.number x.owner → OfAll p.waiting → OfAll (conclude limit p x o).waiting
    of-conclude p x (Complete v) own h = h
    of-conclude p x (Raise k) own h = h
    of-conclude p x (Requeue t a v) own h =
        let y : Call V = record x { entry = t; value = v; without_abort = not a } in
        of-either (a && x.aborted) (end_call p x Cancelled) (enter limit p y) h (of-enter p y own h)

    of-run_body : (p : ObjectState S V) (x : Call V) → P x.number x.owner → OfAll p.waiting → OfAll (run_body m limit p x).waiting
    of-run_body p x own h = let r = m.body p.unit x.entry x.value (counts_in m p) in of-conclude (record p { unit = r.0 }) x r.1 own h

    of-arrive : (p : ObjectState S V) (x : Call V) (r : Result Bool ℕ) → P x.number x.owner → OfAll p.waiting → OfAll (arrive m limit p x r).waiting
    of-arrive p x (Ok true) own h = of-run_body p x own h
    of-arrive p x (Ok false) own h = of-enter p x own h
    of-arrive p x (Err k) own h = All-nil (λ y. P y.number y.owner)

    of-take : (p : ObjectState S V) (test : Call V → Bool) → OfAll p.waiting → OfAll (take_out p test).waiting
    of-take p test h = All-without (λ y. P y.number y.owner) test p.waiting h

    of-serve : (p : ObjectState S V) (e : ℕ) (o : Option (Call V)) → find (is_on e) p.waiting ≡ o → OfAll p.waiting → OfAll (serve m limit p e o).waiting
    of-serve p e None found h = h
    of-serve p e (Some x) found h =
        of-run_body (take_out p (is_on e)) x (All-found (is_on e) (λ y. P y.number y.owner) p.waiting x found h) (of-take p (is_on e) h)

    of-cancel : (p : ObjectState S V) (n : ℕ) (o : Option (Call V)) → OfAll p.waiting → OfAll (cancel p n o).waiting
    of-cancel p n None h = h
    of-cancel p n (Some x) h = of-take p (has_number n) h

    of-marked : (p : ObjectState S V) (n : ℕ) → OfAll p.waiting → OfAll (map (mark n) p.waiting)
    of-marked p n h = All-map (λ y. P y.number y.owner) (mark n) p.waiting (All-weaker (λ y. P y.number y.owner) (λ y. P (mark n y).number (mark n y).owner) (λ y k. marked_of (has_number n y) y k) p.waiting h)

    of-attempt : (p : ObjectState S V) (n : ℕ) (o : Option (Call V)) → OfAll p.waiting → OfAll (attempt_cancel p n o).waiting
    of-attempt p n None h = h
    of-attempt p n (Some x) h = of-either x.without_abort (record p { waiting = map (mark n) p.waiting }) (cancel p n (Some x)) (of-marked p n h) (of-cancel p n (Some x) h)

    -- what holds of the waiting calls and of the issued one holds of the waiting calls after the event
    pub of-step : (p : ObjectState S V) (e : Event V) → OfIssued e → OfAll p.waiting → OfAll (step m limit p e).waiting
    of-step p (Issue n owner e v d) own h = of-arrive (record p { next = p.next + 1 }) (record { number = n; owner = owner; entry = e; value = v; without_abort = false; aborted = false; deadline = d }) (barrier_in m p e) own h
    of-step p (Procedure owner op v reply) own h = h
    of-step p (Cancel n) own h = of-attempt p n (find (has_number n) p.waiting) h
    of-step p (Tick t) own h = h
    of-step p Finalize own h = All-nil (λ y. P y.number y.owner)
    of-step p (Serve e) own h = of-serve p e (find (is_on e) p.waiting) refl h
    of-step p (Break e) own h = All-nil (λ y. P y.number y.owner)
    of-step p (Expire n) own h = of-cancel p n (find (has_number n) p.waiting) h

    -- inner events issue nothing
    pub of-picks : (order : Order) (last : Option ℕ) (p : ObjectState S V) (events : List (Event V)) → ArePicks m limit order last p events → OfAll p.waiting → OfAll (replay m limit p events).waiting
    of-picks order last p [] picks h = h
    of-picks order last p (e ∷ es) picks h =
        let own = issued_none (next_turn m order last p) (find (is_due p.clock) p.waiting) e picks.0 in
        of-picks order (served_last last e) (step m limit p e) es picks.1 (of-step p e own h)

  module _ {S V : Type 0} (m : Meaning S V) (old new : View S V) where
    -- what holds of the number and the owner of each waiting call, and of the issued one, holds of each call that waits after
    -- the protected action
    pub of-action : (own : Event V) → IsProtectedAction m old new own → OfIssued own → OfAll old.state.waiting → OfAll new.state.waiting
    of-action own a issued h =
        let limit = old.setup.max_queue in
        let last = last_from old.base.last (old.events ++ own ∷ []) in
        subst (λ s. OfAll s.waiting) (sym a.state) (of-picks m limit old.setup.order last (step m limit old.state own) a.inner a.picks (of-step m limit old.state own issued h))

    of-marks : (n : ℕ) (x : Call V) (without_abort aborted : Bool) → x.without_abort ≡ without_abort → x.aborted ≡ aborted → IsAttemptOnCall m old new n x → OfAll old.state.waiting → OfAll new.state.waiting
    of-marks n x false aborted s t a h = of-action (Cancel n) (a.cancelled s) tt h
    of-marks n x true false s t a h = of-action (Cancel n) (a.marked s t).0 tt h
    of-marks n x true true s t a h = subst (λ view. OfAll view.state.waiting) (sym (a.kept s t)) h

    of-attempt_call : (n : ℕ) (o : Option (Call V)) → IsFound (IsAttemptOnCall m old new n) o → OfAll old.state.waiting → OfAll new.state.waiting
    of-attempt_call n None a h = absurd a
    of-attempt_call n (Some x) a h = of-marks n x x.without_abort x.aborted refl refl a h

    -- an attempt to cancel a call issues none
    pub of-attempt_of : (n : ℕ) → IsAttemptOf m old new n → OfAll old.state.waiting → OfAll new.state.waiting
    of-attempt_of n a h = of-attempt_call n (find (has_number n) old.state.waiting) a h

    -- a cut leaves the waiting calls as they are
    pub of-cut : new ≡ cut m old → OfAll old.state.waiting → OfAll new.state.waiting
    of-cut is h = subst (λ view. OfAll view.state.waiting) (sym is) h

issued_before : (first n next waiting ended : ℕ) → cond (n == n) 1 0 ≤ waiting → waiting + ended ≡ (if nat_le first n && nat_lt n next then 1 else 0) → (first ≤ n) × (n < next)
issued_before first n next waiting ended one placed = (grind arith, grind arith)

-- each waiting call has one of the numbers that were issued
pub waiting-issued : {S V : Type 0} (first : ℕ) (s : ObjectState S V) → IsInOnePlace first s → All (λ x. (first ≤ x.number) × (x.number < s.next)) s.waiting
waiting-issued first s placed k d inside =
    let n = (get_or s.waiting k d).number in
    issued_before first n s.next (count_by (has_number n) s.waiting) (count_by (has_ended n) s.ended) (get_or-le-sum_by (λ y. cond (has_number n y) 1 0) s.waiting k d inside) (placed n)
