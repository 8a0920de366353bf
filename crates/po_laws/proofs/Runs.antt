-- A client's whole run leads the serial object on.
use Rattle.std.proofs.Common.{ℕ, ◌≡◌, ◌∙◌, List, [], ◌∷◌, ◌++◌, Bool, None, refl, sym, subst}
use Rattle.po_unit.specs.Meaning.{IsLawful, Meaning}
use Rattle.po_history.specs.declared.event.Event.{Event}
use Rattle.po_engine.specs.ObjectState.{IsAtRest, ObjectState, opening_state}
use Rattle.po_engine.specs.Step.{IsLegal, replay, run_body}
use Rattle.po_driven.specs.DrivenView.{IsDriven}
use Rattle.po_driven.specs.DrivenCallsView.{led_by}
use Rattle.po_driven.specs.declared.action.Action.{Action}
use Rattle.po_driven.specs.declared.words.NamedCall.{NamedCall}
use Rattle.po_laws.specs.Client.{IsCarriedOut, IsRun, KeepsCallers, Moment, Takes, Taken, Turn, cancels, ends_body, evaluates, finalizes, goes_on, issues, last, runs, unit_object}
use Rattle.po_laws.specs.Serial.{AreNext, IsSame, IsSerial, events_of, history, opening_moment}
use Rattle.po_laws.proofs.Words.{base}
use Rattle.po_laws.proofs.Moments.{Follows, IsToldSo, Leads, none_closed, rests, run_serving, serial_of, unit_object_is, zeros}
use Rattle.po_laws.proofs.Attempts.{attempt_leads}
use Rattle.po_laws.proofs.Leading.{body_leads, evaluates_leads, finalizes_leads, goes_on_leads, issues_leads, runs_leads}

module _ {S : Type 0} (m : Meaning S ℕ) where
  legal_all : (s : ObjectState S ℕ) (events more : List (Event ℕ)) → IsLegal m None s events → IsLegal m None (replay m None s events) more → IsLegal m None s (events ++ more)
  legal_all s [] more h k = k
  legal_all s (event ∷ events) more h k = (h.0, legal_all (replay m None s (event ∷ [])) events more h.1 k)

  next_all : (s : ObjectState S ℕ) (events more : List (Event ℕ)) → AreNext m s events → AreNext m (replay m None s events) more → AreNext m s (events ++ more)
  next_all s [] more h k = k
  next_all s (event ∷ events) more h k = (h.0, next_all (replay m None s (event ∷ [])) events more h.1 k)

  replay_all : (s : ObjectState S ℕ) (events more : List (Event ℕ)) → replay m None s (events ++ more) ≡ replay m None (replay m None s events) more
  replay_all s [] more = refl
  replay_all s (event ∷ events) more = replay_all (replay m None s (event ∷ [])) events more

  module _ (lawful : IsLawful m) (keeps : KeepsCallers m) where
    -- each turn leads on, if the client has these data
    turn_on : (turn : Turn) (a : Action) (step : NamedCall) (s : ObjectState S ℕ) (c n : Moment S) → Follows m s c.unit c.object → IsDriven n.object → IsCarriedOut a
        → Takes m turn a step (base c.unit (led_by c.object.calls)) c n → Leads m s (events_of m turn a c.object.phase (base c.unit (led_by c.object.calls))) n.unit n.object
    turn_on (issues e v t) a step s c n f after carried k =
        subst (λ w. Leads m s (events_of m (issues e v t) a c.object.phase (base c.unit (led_by c.object.calls))) w n.object) (sym k.2) (issues_leads m lawful keeps s c.unit c.object n.object f after e v t step a carried k.0 k.1)
    turn_on (runs op v) a step s c n f after carried k =
        subst (λ w. Leads m s (events_of m (runs op v) a c.object.phase (base c.unit (led_by c.object.calls))) w n.object) (sym k.3) (runs_leads m lawful keeps s c.unit c.object n.object f after op v step a k.0 k.1 k.2)
    turn_on evaluates a step s c n f after carried k =
        subst (λ w. Leads m s (events_of m evaluates a c.object.phase (base c.unit (led_by c.object.calls))) w n.object) (sym k.3) (evaluates_leads m lawful keeps s c.unit c.object n.object f after k.0 k.1 step a k.2)
    turn_on ends_body a step s c n f after carried k =
        subst (λ w. Leads m s (events_of m ends_body a c.object.phase (base c.unit (led_by c.object.calls))) w n.object) (sym k.3) (body_leads m lawful keeps s c.unit c.object n.object f after k.0 k.1 step a carried k.2)
    turn_on goes_on a step s c n f after carried k =
        subst (λ w. Leads m s (events_of m goes_on a c.object.phase (base c.unit (led_by c.object.calls))) w n.object) (sym k.2) (goes_on_leads m lawful keeps s c.unit c.object n.object f after step a k.0 k.1)
    turn_on (cancels ticket expired what) a step s c n f after carried k =
        subst (λ w. Leads m s (events_of m (cancels ticket expired what) a c.object.phase (base c.unit (led_by c.object.calls))) w n.object) (sym k.2) (attempt_leads m s c.unit c.object n.object f after k.0 ticket expired what k.1)
    turn_on finalizes a step s c n f after carried k =
        subst (λ w. Leads m s (events_of m finalizes a c.object.phase (base c.unit (led_by c.object.calls))) w n.object) (sym k.2) (finalizes_leads m lawful keeps s c.unit c.object n.object f after step a k.0 k.1)

    turn_leads : (t : Taken S) (s : ObjectState S ℕ) (c : Moment S) → Follows m s c.unit c.object → IsDriven t.after.object → IsCarriedOut t.action → Takes m t.turn t.action t.step (unit_object m c) c t.after
        → Leads m s (events_of m t.turn t.action c.object.phase (unit_object m c)) t.after.unit t.after.object
    turn_leads t s c f after carried k =
        let is = unit_object_is m c f.driven in
        subst (λ now. Leads m s (events_of m t.turn t.action c.object.phase now) t.after.unit t.after.object) (sym is)
        (turn_on t.turn t.action t.step s c t.after f after carried (subst (λ now. Takes m t.turn t.action t.step now c t.after) is k))

    run_leads : (s : ObjectState S ℕ) (c : Moment S) (ts : List (Taken S)) → Follows m s c.unit c.object → IsRun m c ts → Leads m s (history m c ts) (last c ts).unit (last c ts).object
    run_leads s c [] f k = (tt, tt, f)
    run_leads s c (t ∷ ts) f k =
        let events = events_of m t.turn t.action c.object.phase (unit_object m c) in
        let one = turn_leads t s c f k.0 k.1 k.2 in
        let rest = run_leads (replay m None s events) t.after ts one.2 k.3 in (
          legal_all s events (history m t.after ts) one.0 rest.0,
          next_all s events (history m t.after ts) one.1 rest.1,
          subst (λ r. Follows m r (last t.after ts).unit (last t.after ts).object) (sym (replay_all s events (history m t.after ts))) rest.2,
        )

  opens : (u : S) (most : ℕ) (is_fixed : Bool) → IsDriven (opening_moment m u most is_fixed).object → Follows m (opening_state u 1) u (opening_moment m u most is_fixed).object
  opens u most is_fixed driven = record {
    driven = driven;
    entries = refl;
    limits = zeros (m.entries u);
    same = record { state = refl; ended = refl };
    closed = none_closed m (base u (led_by (opening_moment m u most is_fixed).object.calls)) [] refl;
  }

  -- the state of the serial object at a moment
  serial_at : (u : S) (c : Moment S) (events : List (Event ℕ)) → Leads m (opening_state u 1) events c.unit c.object → IsSerial m u c events
  serial_at u c events k =
      let f = k.2 in let g = led_by c.object.calls in let is = sym (unit_object_is m c f.driven) in let s = replay m None (opening_state u 1) events in record {
        legal = k.0;
        next = k.1;
        rests = λ phase. subst (λ now. IsAtRest m now × IsSame s now) is
            (rests m c.unit c.object f.driven phase (subst (λ p. IsToldSo m p (base c.unit g) c.object.closed) phase f.closed), subst (λ p. IsSame s (serial_of m p c.unit g)) phase f.same);
        serves = λ x phase serving. subst (λ now. IsSame s (run_body m None now x)) is
            (subst (λ o. IsSame s (run_serving m (base c.unit g) o)) (sym f.driven.traced.leads.serving ∙ serving) (subst (λ p. IsSame s (serial_of m p c.unit g)) phase f.same));
      }

  -- from the opening on
  pub drives : IsLawful m → KeepsCallers m → (u : S) (most : ℕ) (is_fixed : Bool) (ts : List (Taken S)) → IsDriven (opening_moment m u most is_fixed).object → IsRun m (opening_moment m u most is_fixed) ts
      → IsSerial m u (last (opening_moment m u most is_fixed) ts) (history m (opening_moment m u most is_fixed) ts)
  drives lawful keeps u most is_fixed ts driven k =
      let c = opening_moment m u most is_fixed in
      serial_at u (last c ts) (history m c ts) (run_leads lawful keeps (opening_state u 1) c ts (opens u most is_fixed driven) k)
