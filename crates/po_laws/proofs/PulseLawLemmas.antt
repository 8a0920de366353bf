-- The law of the pulse: at each place of a history either no pulse is underway, or one whose Signal came before.
use Rattle.std.proofs.Common.{◌≡◌, ◌≢◌, ℕ, zero, suc, ◌<◌, List, [], ◌∷◌, ◌++◌, map, refl, subst, ap, sym, ◌∙◌, arith}
use Rattle.std.proofs.Common.{true, Option, Err, append_assoc, append-nil, ◌⊎◌, inl, inr, All, find}
use Rattle.std.proofs.lemmas.List.Elements.{All-nil, All-head, All-tail}
use Rattle.po_unit.specs.Numbering.{is_public, entry_references, entries_of}
use Rattle.po_calls.specs.declared.call.Call.{Call}
use Rattle.po_calls.specs.declared.call.Deadline.{Deadline}
use Rattle.po_history.specs.declared.event.Event.{Event}
use Rattle.po_history.specs.declared.event.Event.TheVariants.{Issue, Procedure, Cancel, Tick, Finalize, Serve, Break, Expire}
use Rattle.po_core.specs.Setup.{Setup}
use Rattle.po_core.specs.Public.{NamesPublic, AllPublic}
use Rattle.po_engine.specs.WaitingCalls.{has_number}
use Rattle.po_engine.specs.ObjectState.{IsAtRest}
use Rattle.po_engine.specs.Step.{Needs, IsLegal, replay}
use Rattle.po_laws.specs.Completed.{opening, completed_at}
use Rattle.po_receipts.specs.OneHistory.{state_after}
use Rattle.po_laws.specs.Gathered.{servings, issued, with_own_value}
use Rattle.po_classic_units.specs.Pulse.{PulseState, IsNewPulse, pulse_meaning, pulse_declarations}
use Rattle.po_laws.specs.PulseLaw.{ReleasesAll, BelongsToSignal, PulseReleasesAll}
use Rattle.po_laws.proofs.GatheredLemmas.{EndsAtRest, servings-push, ends_from, begins_anew, newly_ended-from}
use Rattle.po_laws.proofs.PulseBusyLemmas.{PulseObject, IsOnWait, IsBusy, IsOver, pulse_barrier_in, pulse_step}
use Rattle.po_laws.proofs.PulseBusyLemmas.{pulse_replay, none_begins, next_served, next_event, stays_busy, gets_over}
use Rattle.po_laws.proofs.PulseBusyLemmas.{servings_left, busy_all_go}
use Rattle.po_laws.proofs.PulseIdleLemmas.{IsIdle, idle_over, idle_cancel, idle_attempt, issue_wait, no_serving}
use Rattle.po_laws.proofs.PulseIdleLemmas.{none_completes, signal_none, signal_some, signal_busy, requeued}

-- Wait and Signal are public, and no other entry
public_entry_below : (e : ℕ) → is_public pulse_declarations e ≡ true → e < 2
unfolding is_public entry_references entries_of
public_entry_below zero public = omega arith
public_entry_below (suc zero) public = omega arith
public_entry_below (suc (suc zero)) public = cc
public_entry_below (suc (suc (suc e))) public = cc

-- after a serving of Wait that belongs to a Signal, the next serving belongs to it too
belongs_on : (seen : List (Event ℕ)) → BelongsToSignal seen (Serve 0) → BelongsToSignal (seen ++ Serve 0 ∷ []) (Serve 0)
belongs_on seen b =
    let own : Event ℕ = Issue b.number b.owner 1 b.value b.deadline in
    record {
      serves = refl;
      before = b.before;
      number = b.number;
      owner = b.owner;
      value = b.value;
      deadline = b.deadline;
      served = suc b.served;
      follows = ap (λ l. l ++ Serve 0 ∷ []) b.follows
          ∙ append_assoc b.before (own ∷ servings 0 b.served) (Serve 0 ∷ [])
          ∙ ap (λ l. b.before ++ own ∷ l) (servings-push 0 b.served);
    }

module _ (limit : Option ℕ) where
  -- A pulse is underway after these events: a serving of Wait that comes now belongs to a Signal.
  record IsUnderway (seen : List (Event ℕ)) (s : PulseObject) : Type 0 where
    pub calls : List (Call ℕ)
    pub signal : Call ℕ
    pub busy : IsBusy s calls signal
    pub belongs : BelongsToSignal seen (Serve 0)

  -- No pulse is underway, or one is.
  abbrev Phase : List (Event ℕ) → PulseObject → Type 0
  Phase seen s = IsIdle limit s ⊎ IsUnderway seen s

  -- The phase after one more event.
  issue_signal : (seen : List (Event ℕ)) (s : PulseObject) (n owner v : ℕ) (d : Deadline) (w : List (Call ℕ))
      → s.waiting ≡ w → IsIdle limit s
      → Phase (seen ++ Issue n owner 1 v d ∷ []) (pulse_step limit s (Issue n owner 1 v d))
  issue_signal seen s n owner v d [] w idle =
      let is = signal_none limit s n owner v d w in
      let over : IsOver (pulse_step limit s (Issue n owner 1 v d)) =
      record { occurred = ap (λ z. z.unit.occurred) is ∙ idle.occurred; waiting = ap (λ z. z.waiting) is ∙ w } in
      inl (idle_over limit _ over)
  issue_signal seen s n owner v d (x ∷ xs) w idle = inr (record {
    calls = x ∷ xs;
    signal = requeued n owner v d;
    busy = signal_busy limit s n owner v d x xs w idle;
    belongs = record {
      serves = refl;
      before = seen;
      number = n;
      owner = owner;
      value = v;
      deadline = d;
      served = 0;
      follows = refl;
    };
  })

  idle_step : (seen : List (Event ℕ)) (s : PulseObject) (event : Event ℕ) → IsIdle limit s → Needs pulse_meaning s event
      → NamesPublic pulse_declarations event → Phase (seen ++ event ∷ []) (pulse_step limit s event)
  idle_step seen s (Issue n owner zero v d) idle need public = inl (issue_wait limit s n owner v d idle).idle
  idle_step seen s (Issue n owner (suc zero) v d) idle need public = issue_signal seen s n owner v d s.waiting refl idle
  idle_step seen s (Issue n owner (suc (suc e)) v d) idle need public =
      let below = public_entry_below (suc (suc e)) public in absurd (omega arith)
  idle_step seen s (Procedure owner op v reply) idle need public = absurd (omega (arith, need.1))
  idle_step seen s (Cancel n) idle need public = inl (idle_attempt limit s n (find (has_number n) s.waiting) idle)
  idle_step seen s (Tick t) idle need public =
      inl (record { occurred = idle.occurred; on_wait = idle.on_wait; room = idle.room })
  idle_step seen s Finalize idle need public =
      inl (idle_over limit _ (record { occurred = idle.occurred; waiting = refl }))
  idle_step seen s (Serve e) idle need public = absurd (no_serving limit s e idle need)
  idle_step seen s (Break e) idle need public = let bad : pulse_barrier_in s e ≡ Err need.1.0 = need.1.1 in cc
  idle_step seen s (Expire n) idle need public = inl (idle_cancel limit s n (find (has_number n) s.waiting) idle)

  busy_step : (seen : List (Event ℕ)) (s : PulseObject) (calls : List (Call ℕ)) (signal : Call ℕ)
      → IsBusy s calls signal → BelongsToSignal seen (Serve 0)
      → Phase (seen ++ Serve (next_served calls) ∷ []) (pulse_step limit s (Serve (next_served calls)))
  busy_step seen s [] signal busy belongs = inl (idle_over limit _ (gets_over limit s signal busy))
  busy_step seen s (x ∷ xs) signal busy belongs =
      let busy_on = stays_busy limit s x xs signal busy in
      inr (record { calls = xs; signal = signal; busy = busy_on; belongs = belongs_on seen belongs })

  phase_step : (seen : List (Event ℕ)) (s : PulseObject) (event : Event ℕ) → Phase seen s → Needs pulse_meaning s event
      → NamesPublic pulse_declarations event → Phase (seen ++ event ∷ []) (pulse_step limit s event)
  phase_step seen s event (inl idle) need public = idle_step seen s event idle need public
  phase_step seen s event (inr under) need public =
      let is : event ≡ Serve (next_served under.calls) = next_event s under.calls under.signal event under.busy need in
      subst (λ x. Phase (seen ++ x ∷ []) (pulse_step limit s x)) (sym is)
      (busy_step seen s under.calls under.signal under.busy under.belongs)

  -- the phase after the early part of a history
  phase_after : (seen early late : List (Event ℕ)) (s : PulseObject) → Phase seen s
      → IsLegal pulse_meaning limit s (early ++ late) → AllPublic pulse_declarations (early ++ late)
      → Phase (seen ++ early) (pulse_replay limit s early)
  phase_after seen [] late s phase legal public = subst (λ l. Phase l s) (sym (append-nil seen)) phase
  phase_after seen (event ∷ early) late s phase legal public =
      let own = All-head (NamesPublic pulse_declarations) event (early ++ late) public in
      let next = phase_step seen s event phase legal.0 own in
      let later = All-tail (NamesPublic pulse_declarations) event (early ++ late) public in
      subst (λ l. Phase l (pulse_replay limit s (event ∷ early))) (append_assoc seen (event ∷ []) early)
      (phase_after (seen ++ event ∷ []) early late (pulse_step limit s event) next legal.1 later)

  next_belongs : (seen : List (Event ℕ)) (s : PulseObject) (calls : List (Call ℕ)) → BelongsToSignal seen (Serve 0)
      → completed_at pulse_meaning limit 0 s (Serve (next_served calls)) ≢ []
      → BelongsToSignal seen (Serve (next_served calls))
  next_belongs seen s [] belongs some = absurd (some refl)
  next_belongs seen s (x ∷ xs) belongs some = belongs

  -- an event that completes a call on Wait belongs to a Signal
  wait_belongs : (seen : List (Event ℕ)) (s : PulseObject) (event : Event ℕ) → Phase seen s
      → Needs pulse_meaning s event → completed_at pulse_meaning limit 0 s event ≢ []
      → BelongsToSignal seen event
  wait_belongs seen s event (inl idle) need some = absurd (some (none_completes limit s event idle need))
  wait_belongs seen s event (inr under) need some =
      let is : event ≡ Serve (next_served under.calls) = next_event s under.calls under.signal event under.busy need in
      let completes = subst (λ x. completed_at pulse_meaning limit 0 s x ≢ []) is some in
      subst (BelongsToSignal seen) (sym is) (next_belongs seen s under.calls under.belongs completes)

module _ (setup : Setup PulseState) where
  -- After the early events the late ones are legal, and end at rest.
  abbrev LateEnds : (early late : List (Event ℕ)) → Type 0
  LateEnds early late = EndsAtRest pulse_meaning setup.max_queue (state_after pulse_meaning setup early) late

  -- After the early events no pulse is underway, or one is.
  abbrev PhaseBehind : (early : List (Event ℕ)) → Type 0
  PhaseBehind early = Phase setup.max_queue early (state_after pulse_meaning setup early)

  -- a Signal between pulses, by the calls that it finds
  idle_releases : (early late : List (Event ℕ)) (n owner v : ℕ) (d : Deadline) (w : List (Call ℕ))
      → (state_after pulse_meaning setup early).waiting ≡ w
      → IsIdle setup.max_queue (state_after pulse_meaning setup early)
      → LateEnds early (Issue n owner 1 v d ∷ late) → ReleasesAll setup early late n owner v d
  idle_releases early late n owner v d [] w idle ends =
      let limit = setup.max_queue in
      let s = state_after pulse_meaning setup early in
      let own : Event ℕ = Issue n owner 1 v d in
      let is = signal_none limit s n owner v d w in
      record {
        calls = [];
        waiting = w;
        on_wait = All-nil IsOnWait;
        rest = late;
        trail = refl;
        over = begins_anew pulse_meaning limit (pulse_step limit s own) late (ap (λ z. z.waiting) is ∙ w) ends.0.1;
        ends = newly_ended-from pulse_meaning limit s (own ∷ []) _ (ap (λ z. z.ended) is);
      }
  idle_releases early late n owner v d (x ∷ xs) w idle ends =
      let limit = setup.max_queue in
      let s = state_after pulse_meaning setup early in
      let own : Event ℕ = Issue n owner 1 v d in
      let next = pulse_step limit s own in
      let trail = servings_left (x ∷ xs) in
      let is = signal_some limit s n owner v d x xs w idle in
      let busy = signal_busy limit s n owner v d x xs w idle in
      let ends_on : EndsAtRest pulse_meaning limit next late = (ends.0.1, ends.1) in
      let go = busy_all_go limit next (x ∷ xs) (requeued n owner v d) late busy ends_on in
      let split_ends = subst (EndsAtRest pulse_meaning limit next) go.trail ends_on in
      let behind = ends_from pulse_meaning limit next trail go.rest split_ends in
      let ended = map with_own_value (x ∷ xs) ++ with_own_value (issued n owner 1 v d) ∷ [] in
      record {
        calls = x ∷ xs;
        waiting = w;
        on_wait = subst (All IsOnWait) w idle.on_wait;
        rest = go.rest;
        trail = go.trail;
        over = begins_anew pulse_meaning limit (pulse_replay limit next trail) go.rest go.waiting behind.0;
        ends = newly_ended-from pulse_meaning limit s (own ∷ trail) ended (go.ended ∙ ap (λ z. z.ended ++ ended) is);
      }

  -- a Signal comes between pulses
  signal_releases : (early late : List (Event ℕ)) (n owner v : ℕ) (d : Deadline) → PhaseBehind early
      → LateEnds early (Issue n owner 1 v d ∷ late) → ReleasesAll setup early late n owner v d
  signal_releases early late n owner v d (inl idle) ends = idle_releases early late n owner v d _ refl idle ends
  signal_releases early late n owner v d (inr under) ends =
      absurd (none_begins _ under.calls under.signal under.busy ends.0.0.0)

  -- if a history is split, there is a phase, and the late part ends at rest
  split : (events early late : List (Event ℕ)) → IsNewPulse setup.opening
      → EndsAtRest pulse_meaning setup.max_queue (opening setup) events
      → AllPublic pulse_declarations events → events ≡ early ++ late → PhaseBehind early × LateEnds early late
  split events early late new ends public is =
      let limit = setup.max_queue in
      let split_ends = subst (EndsAtRest pulse_meaning limit (opening setup)) is ends in
      let split_public = subst (AllPublic pulse_declarations) is public in
      let over : IsOver (opening setup) = record { occurred = new.none_occurred; waiting = refl } in (
        phase_after limit [] early late (opening setup) (inl (idle_over limit _ over)) split_ends.0 split_public,
        ends_from pulse_meaning limit (opening setup) early late split_ends,
      )

-- the law, for each legal history from a new pulse that ends at rest
pub pulse_law : (setup : Setup PulseState) (events : List (Event ℕ)) → IsNewPulse setup.opening
    → IsLegal pulse_meaning setup.max_queue (opening setup) events
    → IsAtRest pulse_meaning (replay pulse_meaning setup.max_queue (opening setup) events)
    → PulseReleasesAll setup events
pulse_law setup events new legal rest public = record {
  all_go = λ early late n owner v d is.
      let at = split setup events early (Issue n owner 1 v d ∷ late) new (legal, rest) public is in
      signal_releases setup early late n owner v d at.0 at.1;
  none_other = λ early late event is some.
      let at = split setup events early (event ∷ late) new (legal, rest) public is in
      wait_belongs setup.max_queue early (state_after pulse_meaning setup early) event at.0 at.1.0.0 some;
}
