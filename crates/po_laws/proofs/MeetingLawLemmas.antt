-- The law of the meeting holds of each legal history that ends at rest.
use Rattle.std.proofs.Common.{◌≡◌, ◌≢◌, ℕ, ◌+◌, ◌<◌, List, [], ◌∷◌, ◌++◌, map, length, drop, refl, ap, sym, subst, ◌∙◌, arith, append_assoc, inl, inr}
use Rattle.std.proofs.lemmas.List.{map-append}
use Rattle.std.proofs.lemmas.List.Elements.{All-nil}
use Rattle.std.proofs.Math.Seq.{drop-append_seam}
use Rattle.po_calls.specs.declared.call.Call.{Call}
use Rattle.po_calls.specs.declared.call.Deadline.{Deadline}
use Rattle.po_history.specs.declared.event.Event.{Event}
use Rattle.po_history.specs.declared.event.Event.TheVariants.{Issue, Serve}
use Rattle.po_core.specs.Setup.{Setup}
use Rattle.po_engine.specs.ObjectState.{IsAtRest}
use Rattle.po_engine.specs.Step.{step, Needs, IsLegal, replay}
use Rattle.po_core.proofs.Runs.{replay-append}
use Rattle.po_laws.specs.Completed.{opening, completed_by}
use Rattle.po_receipts.specs.OneHistory.{state_after}
use Rattle.po_laws.specs.Gathered.{servings, issued, with_own_value}
use Rattle.po_classic_units.specs.Meeting.{MeetingState, meeting_meaning, IsNewMeeting}
use Rattle.po_laws.specs.MeetingLaw.{Gathers, BelongsToMeeting, MeetingGathers}
use Rattle.po_laws.proofs.MeetingStates.{m, State, begins_anew, legal_back}
use Rattle.po_laws.proofs.MeetingTrails.{AreLeaving, LetsGo, lets_go, only_serves}
use Rattle.po_laws.proofs.MeetingQueues.{IsGathering, Fills, none_completes, filled_leaves, one_more_waits}
use Rattle.po_laws.proofs.MeetingPhases.{IsUnderway, Phase, phases, is_new}

module _ (setup : Setup MeetingState) where
  -- The events are legal from the state on.
  abbrev Legal : State → List (Event ℕ) → Type 0
  Legal s events = IsLegal m setup.max_queue s events

  -- The events lead from the state to rest.
  abbrev EndsAtRest : State → List (Event ℕ) → Type 0
  EndsAtRest s events = IsAtRest m (replay m setup.max_queue s events)

  -- what the trail ends: the calls that waited, and last the one that made the meeting full
  trail_ends : (s : State) (late : List (Event ℕ)) (n owner v : ℕ) (d : Deadline)
      → Fills setup.max_queue setup.opening.size s n owner v d
      → LetsGo setup.max_queue (step m setup.max_queue s (Issue n owner 0 v d))
      (s.waiting ++ issued n owner 0 v d ∷ []) late
      → (replay m setup.max_queue s (Issue n owner 0 v d ∷ servings 0 setup.opening.size)).ended
      ≡ s.ended ++ (map with_own_value s.waiting ++ with_own_value (issued n owner 0 v d) ∷ [])
  trail_ends s late n owner v d f g =
      let x : Call ℕ = issued n owner 0 v d in
      let q = step m setup.max_queue s (Issue n owner 0 v d) in
      ap (λ k. (replay m setup.max_queue q (servings 0 k)).ended) (sym (one_more_waits s x ∙ f.many))
      ∙ (g.ended ∙ (ap (λ l. l ++ map with_own_value (s.waiting ++ x ∷ [])) (ap (λ t. t.ended) f.queued)
      ∙ ap (λ l. s.ended ++ l) (map-append with_own_value s.waiting (x ∷ []))))

  -- the trail of a call that makes a meeting full
  full_gathers : (before late : List (Event ℕ)) (n owner v : ℕ) (d : Deadline)
      → Fills setup.max_queue setup.opening.size (state_after m setup before) n owner v d
      → Legal (state_after m setup before) (Issue n owner 0 v d ∷ late)
      → EndsAtRest (state_after m setup before) (Issue n owner 0 v d ∷ late)
      → Gathers setup before late n owner v d
  full_gathers before late n owner v d f l r =
      let size = setup.opening.size in
      let limit = setup.max_queue in
      let p = state_after m setup before in
      let q = step m limit p (Issue n owner 0 v d) in
      let x : Call ℕ = issued n owner 0 v d in
      let calls : List (Call ℕ) = p.waiting ++ x ∷ [] in
      let g = lets_go limit size q calls late (filled_leaves limit size p n owner v d f) l.1 r in
      let past = legal_back limit q (servings 0 (length calls)) g.rest (subst (Legal q) g.trail l.1) in
      record {
        calls = p.waiting;
        waiting = refl;
        many = f.many;
        rest = g.rest;
        trail = g.trail ∙ ap (λ k. servings 0 k ++ g.rest) (one_more_waits p x ∙ f.many);
        over = begins_anew limit (replay m limit q (servings 0 (length calls))) g.rest g.emptied past;
        ends = ap (drop (length p.ended)) (trail_ends p late n owner v d f g)
            ∙ drop-append_seam p.ended (map with_own_value p.waiting ++ with_own_value x ∷ []);
      }

  -- while calls are leaving, the event serves Wait
  serving : (early : List (Event ℕ)) (event : Event ℕ) (served : ℕ) (calls : List (Call ℕ))
      → AreLeaving setup.opening.size (state_after m setup early) calls
      → served + length calls ≡ setup.opening.size
      → served < setup.opening.size
      → Needs m (state_after m setup early) event
      → event ≡ Serve 0
  serving early event served [] a left within need = absurd (omega (arith, left, within))
  serving early event served (x ∷ xs) a left within need =
      only_serves setup.opening.size (state_after m setup early) x xs event a need

  -- an event while calls are leaving
  belongs : (early late : List (Event ℕ)) (event : Event ℕ)
      → IsUnderway setup.max_queue setup.opening.size (opening setup) early
      → Needs m (state_after m setup early) event
      → Legal (opening setup) (early ++ event ∷ late)
      → EndsAtRest (opening setup) (early ++ event ∷ late)
      → BelongsToMeeting setup early late event
  belongs early late event u need l r =
      let b = u.began in
      let limit = setup.max_queue in
      let o : State = opening setup in
      let first : Event ℕ = Issue b.number b.owner 0 b.value b.deadline in
      let trail : List (Event ℕ) = servings 0 u.served ++ event ∷ late in
      let split : early ++ event ∷ late ≡ b.before ++ first ∷ trail =
      ap (λ es. es ++ event ∷ late) b.follows
      ∙ append_assoc b.before (first ∷ servings 0 u.served) (event ∷ late) in
      let legal = legal_back limit o b.before (first ∷ trail) (subst (Legal o) split l) in
      let leads = ap (replay m limit o) split ∙ replay-append m limit o b.before (first ∷ trail) in
      record {
        serves = serving early event u.served u.calls u.leaving u.left u.within need;
        before = b.before;
        number = b.number;
        owner = b.owner;
        value = b.value;
        deadline = b.deadline;
        served = u.served;
        within = u.within;
        follows = b.follows;
        gathers = full_gathers b.before trail b.number b.owner b.value b.deadline b.fills
            legal (subst (IsAtRest m) leads r);
      }

  -- an event that completes a call comes while calls are leaving
  underway : (early : List (Event ℕ)) (event : Event ℕ)
      → Phase setup.max_queue setup.opening.size (opening setup) early
      → Needs m (state_after m setup early) event
      → completed_by m setup.max_queue (state_after m setup early) event ≢ []
      → IsUnderway setup.max_queue setup.opening.size (opening setup) early
  underway early event (inl g) need completes =
      let s = state_after m setup early in
      absurd (completes (none_completes setup.max_queue setup.opening.size s event g need))
  underway early event (inr u) need completes = u

  -- at the opening no call waits
  opens_gathering : IsNewMeeting setup.opening → IsGathering setup.opening.size (opening setup)
  opens_gathering new =
      record {
        unit = is_new setup.opening setup.opening.size refl new.none_leaving;
        few = omega (arith, new.sized.some);
        on_wait = All-nil (λ y. y.entry < 1);
      }

  -- the law, of a history from the opening
  pub meeting_law : (events : List (Event ℕ)) → IsNewMeeting setup.opening
      → IsLegal meeting_meaning setup.max_queue (opening setup) events
      → IsAtRest meeting_meaning (replay meeting_meaning setup.max_queue (opening setup) events)
      → MeetingGathers setup events
  meeting_law events new l r early late event is completes =
      let limit = setup.max_queue in
      let o : State = opening setup in
      let legal = subst (Legal o) is l in
      let need = (legal_back limit o early (event ∷ late) legal).0 in
      let phase = phases limit setup.opening.size o [] early (event ∷ late) (inl (opens_gathering new)) legal in
      belongs early late event (underway early event phase need completes) need legal (subst (EndsAtRest o) is r)
