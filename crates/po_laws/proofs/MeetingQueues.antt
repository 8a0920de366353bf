-- While fewer calls wait than a meeting's size, none completes, until one more makes it full.
use Rattle.std.proofs.Common.{◌≡◌, ℕ, zero, suc, ◌+◌, ◌==◌, ◌<◌, ◌≤◌, List, [], ◌∷◌, ◌++◌, map, length, drop, refl, ap, sym, subst, ◌∙◌, arith, Bool, true, false, ◌||◌, Option, Some, None, Ok, Err, if◌then◌else◌, append-nil, ◌⊎◌, inl, inr}
use Rattle.std.specs.List.{find, count_by}
use Rattle.std.proofs.lemmas.Bool.{cases_eq}
use Rattle.std.proofs.lemmas.Bool.Decides.{nat_tests}
use Rattle.std.proofs.lemmas.List.{length-append, length-map}
use Rattle.std.proofs.lemmas.List.Elements.{All-nil, All-push, All-map, All-weaker}
use Rattle.std.proofs.Math.Seq.{drop-append_seam}
use Rattle.po_calls.specs.declared.call.Call.{Call}
use Rattle.po_calls.specs.declared.call.Deadline.{Deadline}
use Rattle.po_engine.specs.declared.ended.Ended.{Ended}
use Rattle.po_calls.specs.declared.end.End.TheVariants.{Cancelled, ProgramError}
use Rattle.po_history.specs.declared.event.Event.{Event}
use Rattle.po_history.specs.declared.event.Event.TheVariants.{Issue, Procedure, Cancel, Tick, Finalize, Serve, Break, Expire}
use Rattle.po_engine.specs.WaitingCalls.{is_on, has_number, mark}
use Rattle.po_engine.specs.ObjectState.{barrier_in}
use Rattle.po_engine.specs.Step.{step, arrive, queue, end_call, cancel, attempt_cancel, is_full, Needs}
use Rattle.po_engine.specs.Ending.{ended_as}
use Rattle.po_engine.specs.Finding.{without_first}
use Rattle.po_engine.proofs.Absent.{All-without}
use Rattle.po_laws.specs.Completed.{values_of, completed_by}
use Rattle.po_laws.specs.Gathered.{issued}
use Rattle.po_classic_units.specs.Meeting.{MeetingState, new_meeting}
use Rattle.po_laws.proofs.MeetingStates.{m, State, OnWait, barrier_is, closed_below, not_both}
use Rattle.po_laws.proofs.MeetingTrails.{Opens, AreLeaving}

-- No call is leaving, and fewer wait than a meeting's size.
pub record IsGathering (size : ℕ) (s : State) : Type 0 where
  pub unit : s.unit ≡ new_meeting size
  pub few : length s.waiting < size
  pub on_wait : OnWait s.waiting

-- From the old state to the new one some calls end, and none completes.
pub record CompletesNone (old new : State) : Type 0 where
  pub added : List (Ended ℕ)
  pub ended : new.ended ≡ old.ended ++ added
  pub none : values_of added ≡ []

-- the state with the number of a call taken
abbrev pub numbered : State → State
numbered s = record s { next = s.next + 1 }

-- With the call that is issued now, as many wait as a meeting's size.
pub record Fills (limit : Option ℕ) (size : ℕ) (s : State) (n owner v : ℕ) (d : Deadline) : Type 0 where
  pub gathering : IsGathering size s
  pub many : length s.waiting + 1 ≡ size
  pub queued : step m limit s (Issue n owner 0 v d) ≡ queue (numbered s) (issued n owner 0 v d)

-- The event issues such a call.
pub record FillsBy (limit : Option ℕ) (size : ℕ) (s : State) (event : Event ℕ) : Type 0 where
  pub number : ℕ
  pub owner : ℕ
  pub value : ℕ
  pub deadline : Deadline
  pub issues : event ≡ Issue number owner 0 value deadline
  pub fills : Fills limit size s number owner value deadline

same_ended : (s t : State) → t.ended ≡ s.ended → CompletesNone s t
same_ended s t h = record { added = []; ended = h ∙ sym (append-nil s.ended); none = refl }

raised_none : (calls : List (Call ℕ)) → values_of (map (ended_as ProgramError) calls) ≡ []
raised_none [] = refl
raised_none (x ∷ xs) = raised_none xs

-- at most as many calls wait, and the rest is as it was
pub record IsThinned (old new : State) : Type 0 where
  pub unit : new.unit ≡ old.unit
  pub fewer : length new.waiting ≤ length old.waiting
  pub on_wait : OnWait old.waiting → OnWait new.waiting

thinned : (size : ℕ) (s t : State) → IsThinned s t → IsGathering size s → IsGathering size t
thinned size s t h g =
    record { unit = h.unit ∙ g.unit; few = omega (arith, h.fewer, g.few); on_wait = h.on_wait g.on_wait }

same_waiting : (s t : State) → t.unit ≡ s.unit → t.waiting ≡ s.waiting → IsThinned s t
same_waiting s t u w =
    record {
      unit = u;
      fewer = subst (λ l. length l ≤ length s.waiting) (sym w) (omega arith);
      on_wait = subst OnWait (sym w);
    }

-- a list without its first call that passes a test isn't longer
shorter_if : (b : Bool) (x : Call ℕ) (xs ys : List (Call ℕ)) → length ys ≤ length xs
    → length (if b then xs else x ∷ ys) ≤ length (x ∷ xs)
shorter_if true x xs ys h = omega arith
shorter_if false x xs ys h = omega (arith, h)

shorter : (test : Call ℕ → Bool) (xs : List (Call ℕ)) → length (without_first test xs) ≤ length xs
shorter test [] = omega arith
shorter test (x ∷ xs) = shorter_if (test x) x xs (without_first test xs) (shorter test xs)

cancel_thins : (s : State) (n : ℕ) (o : Option (Call ℕ)) → IsThinned s (cancel s n o)
cancel_thins s n None = same_waiting s s refl refl
cancel_thins s n (Some x) =
    record {
      unit = refl;
      fewer = shorter (has_number n) s.waiting;
      on_wait = All-without (λ y. y.entry < 1) (has_number n) s.waiting;
    }

cancel_silent : (s : State) (n : ℕ) (o : Option (Call ℕ)) → CompletesNone s (cancel s n o)
cancel_silent s n None = same_ended s s refl
cancel_silent s n (Some x) = record { added = ended_as Cancelled x ∷ []; ended = refl; none = refl }

marked_if : (b : Bool) (x : Call ℕ) → x.entry < 1 → (if b then record x { aborted = true } else x).entry < 1
marked_if true x h = h
marked_if false x h = h

marked : (n : ℕ) (xs : List (Call ℕ)) → OnWait xs → OnWait (map (mark n) xs)
marked n xs h =
    All-map (λ y. y.entry < 1) (mark n) xs
    (All-weaker (λ y. y.entry < 1) (λ y. (mark n y).entry < 1) (λ y k. marked_if (has_number n y) y k) xs h)

attempt_thins_if : (b : Bool) (s : State) (n : ℕ) (x : Call ℕ)
    → IsThinned s (if b then record s { waiting = map (mark n) s.waiting } else cancel s n (Some x))
attempt_thins_if true s n x =
    record { unit = refl; fewer = omega (arith, length-map s.waiting (mark n)); on_wait = marked n s.waiting }
attempt_thins_if false s n x = cancel_thins s n (Some x)

attempt_thins : (s : State) (n : ℕ) (o : Option (Call ℕ)) → IsThinned s (attempt_cancel s n o)
attempt_thins s n None = same_waiting s s refl refl
attempt_thins s n (Some x) = attempt_thins_if x.without_abort s n x

attempt_silent_if : (b : Bool) (s : State) (n : ℕ) (x : Call ℕ)
    → CompletesNone s (if b then record s { waiting = map (mark n) s.waiting } else cancel s n (Some x))
attempt_silent_if true s n x = same_ended s (record s { waiting = map (mark n) s.waiting }) refl
attempt_silent_if false s n x = cancel_silent s n (Some x)

attempt_silent : (s : State) (n : ℕ) (o : Option (Call ℕ)) → CompletesNone s (attempt_cancel s n o)
attempt_silent s n None = same_ended s s refl
attempt_silent s n (Some x) = attempt_silent_if x.without_abort s n x

-- a call that comes to a closed entry: it ends if the queue is full, and is queued otherwise
abbrev pub entered : Bool → State → Call ℕ → State
entered full s x = if full then end_call (numbered s) x ProgramError else queue (numbered s) x

entered_silent : (full : Bool) (s : State) (x : Call ℕ) → CompletesNone s (entered full s x)
entered_silent true s x = record { added = ended_as ProgramError x ∷ []; ended = refl; none = refl }
entered_silent false s x = same_ended s (queue (numbered s) x) refl

pub one_more_waits : (s : State) (x : Call ℕ) → length (s.waiting ++ x ∷ []) ≡ length s.waiting + 1
one_more_waits s x = length-append s.waiting (x ∷ [])

entered_step : (full : Bool) (size : ℕ) (s : State) (x : Call ℕ) → x.entry < 1 → IsGathering size s
    → IsGathering size (entered full s x) ⊎ ((length s.waiting + 1 ≡ size) × (entered full s x ≡ queue (numbered s) x))
entered_step true size s x lt g = inl (record { unit = g.unit; few = g.few; on_wait = g.on_wait })
entered_step false size s x lt g =
    elim (cases_eq (length s.waiting + 1) size) [
      | inl same ↦ inr (same, refl)
      | inr other ↦ inl (record {
        unit = g.unit;
        few = omega (arith, one_more_waits s x, other, g.few);
        on_wait = All-push (λ y. y.entry < 1) s.waiting x g.on_wait lt;
      })
    ]

shut : (size : ℕ) (s : State) (e : ℕ) → IsGathering size s → barrier_in m s e ≡ Ok false
shut size s e g = barrier_is s e g.on_wait ∙ ap (λ b. Ok b) (closed_below s.unit size (length s.waiting) g.unit g.few)

module _ (limit : Option ℕ) (size : ℕ) where
  -- a call that is issued comes to a closed entry
  issue_enters : (s : State) (n owner v : ℕ) (d : Deadline) → IsGathering size s
      → step m limit s (Issue n owner 0 v d)
      ≡ entered (is_full limit (count_by (is_on 0) s.waiting)) s (issued n owner 0 v d)
  issue_enters s n owner v d g = ap (arrive m limit (numbered s) (issued n owner 0 v d)) (shut size s 0 g)

  issue_silent : (s : State) (n owner e v : ℕ) (d : Deadline) → e < 1 → IsGathering size s
      → CompletesNone s (step m limit s (Issue n owner e v d))
  issue_silent s n owner zero v d lt g =
      subst (CompletesNone s) (sym (issue_enters s n owner v d g))
      (entered_silent (is_full limit (count_by (is_on 0) s.waiting)) s (issued n owner 0 v d))
  issue_silent s n owner (suc e) v d lt g = absurd (omega arith)

  issue_step : (s : State) (n owner e v : ℕ) (d : Deadline) → e < 1 → IsGathering size s
      → IsGathering size (step m limit s (Issue n owner e v d)) ⊎ FillsBy limit size s (Issue n owner e v d)
  issue_step s n owner zero v d lt g =
      let is = issue_enters s n owner v d g in
      elim (entered_step (is_full limit (count_by (is_on 0) s.waiting)) size s (issued n owner 0 v d) (omega arith) g) [
        | inl h ↦ inl (subst (IsGathering size) (sym is) h)
        | inr h ↦ inr (record {
          number = n;
          owner = owner;
          value = v;
          deadline = d;
          issues = refl;
          fills = record { gathering = g; many = h.0; queued = is ∙ h.1 };
        })
      ]
  issue_step s n owner (suc e) v d lt g = absurd (omega arith)

  none_waits : (s t : State) → t.unit ≡ s.unit → t.waiting ≡ [] → IsGathering size s → IsGathering size t
  none_waits s t u w g =
      record {
        unit = u ∙ g.unit;
        few = subst (λ l. length l < size) (sym w) (omega (arith, g.few));
        on_wait = subst OnWait (sym w) (All-nil (λ y. y.entry < 1));
      }

  -- no inner event serves Wait while it is closed
  none_served : (s : State) (e : ℕ) → IsGathering size s → barrier_in m s e ≡ Ok true → ⊥
  none_served s e g h = not_both (barrier_in m s e) h (shut size s e g)

  -- each event leaves fewer calls than a meeting's size, or makes it full
  pub gathering_step : (s : State) (event : Event ℕ) → IsGathering size s → Needs m s event
      → IsGathering size (step m limit s event) ⊎ FillsBy limit size s event
  gathering_step s (Issue n owner e v d) g need = issue_step s n owner e v d need.1 g
  gathering_step s (Procedure owner op v reply) g need = absurd (omega (arith, need.1))
  gathering_step s (Cancel n) g need =
      inl (thinned size s (step m limit s (Cancel n)) (attempt_thins s n (find (has_number n) s.waiting)) g)
  gathering_step s (Tick t) g need =
      inl (thinned size s (step m limit s (Tick t)) (same_waiting s (step m limit s (Tick t)) refl refl) g)
  gathering_step s Finalize g need = inl (none_waits s (step m limit s Finalize) refl refl g)
  gathering_step s (Serve e) g need = absurd (none_served s e g need.1)
  gathering_step s (Break e) g need = let bad : barrier_in m s e ≡ Err need.1.0 = need.1.1 in cc
  gathering_step s (Expire n) g need =
      inl (thinned size s (step m limit s (Expire n)) (cancel_thins s n (find (has_number n) s.waiting)) g)

  silent : (s : State) (event : Event ℕ) → IsGathering size s → Needs m s event → CompletesNone s (step m limit s event)
  silent s (Issue n owner e v d) g need = issue_silent s n owner e v d need.1 g
  silent s (Procedure owner op v reply) g need = absurd (omega (arith, need.1))
  silent s (Cancel n) g need = attempt_silent s n (find (has_number n) s.waiting)
  silent s (Tick t) g need = same_ended s (step m limit s (Tick t)) refl
  silent s Finalize g need =
      record { added = map (ended_as ProgramError) s.waiting; ended = refl; none = raised_none s.waiting }
  silent s (Serve e) g need = absurd (none_served s e g need.1)
  silent s (Break e) g need = let bad : barrier_in m s e ≡ Err need.1.0 = need.1.1 in cc
  silent s (Expire n) g need = cancel_silent s n (find (has_number n) s.waiting)

  -- no event completes a call
  pub none_completes : (s : State) (event : Event ℕ) → IsGathering size s → Needs m s event
      → completed_by m limit s event ≡ []
  none_completes s event g need =
      let c = silent s event g need in
      ap (λ l. values_of (drop (length s.ended) l)) c.ended
      ∙ (ap (λ l. values_of l) (drop-append_seam s.ended c.added) ∙ c.none)

  or_true : (b : Bool) → (b || true) ≡ true
  or_true true = refl
  or_true false = refl

  -- Wait is open for as many calls as a meeting's size
  opens_full : (u : MeetingState) (calls : List (Call ℕ)) → length calls ≡ u.size → 0 < length calls → Opens u calls
  opens_full u [] h lt = absurd (omega (arith, lt))
  opens_full u (x ∷ xs) h lt =
      let is : (length (x ∷ xs) == u.size) ≡ true = grind (arith, nat_tests) in
      ap (λ b. u.leaving || b) is ∙ or_true u.leaving

  -- the calls that wait leave with the one that made the meeting full
  pub filled_leaves : (s : State) (n owner v : ℕ) (d : Deadline) → Fills limit size s n owner v d
      → AreLeaving size (step m limit s (Issue n owner 0 v d)) (s.waiting ++ issued n owner 0 v d ∷ [])
  filled_leaves s n owner v d f =
      let x : Call ℕ = issued n owner 0 v d in
      let sized : s.unit.size ≡ size = ap (λ u. u.size) f.gathering.unit in
      let long = one_more_waits s x in
      record {
        sized = ap (λ t. t.unit.size) f.queued ∙ sized;
        waiting = ap (λ t. t.waiting) f.queued;
        on_wait = All-push (λ y. y.entry < 1) s.waiting x f.gathering.on_wait (omega arith);
        opens = subst (λ u. Opens u (s.waiting ++ x ∷ [])) (sym (ap (λ t. t.unit) f.queued))
            (opens_full s.unit (s.waiting ++ x ∷ []) (long ∙ (f.many ∙ sym sized)) (omega (arith, long)));
      }
