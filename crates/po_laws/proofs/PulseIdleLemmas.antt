-- Between pulses only calls on Wait are queued, and none of them completes.
use Rattle.std.proofs.Common.{◌≡◌, ℕ, zero, suc, ◌+◌, ◌==◌, List, [], ◌∷◌, ◌++◌, map, length, drop, refl, subst, ap}
use Rattle.std.proofs.Common.{sym, ◌∙◌, arith, Bool, true, false, Option, Some, None, Ok, if◌then◌else◌, All, count_by}
use Rattle.std.proofs.Math.Seq.{drop-append_seam, drop-length}
use Rattle.std.proofs.lemmas.Bool.Decides.{nat_tests}
use Rattle.std.proofs.lemmas.List.Elements.{All-nil, All-cons, All-head, All-tail, All-push, All-weaker, All-map}
use Rattle.std.proofs.lemmas.List.Elements.{All-same}
use Rattle.po_unit.specs.declared.outcome.Outcome.{Outcome}
use Rattle.po_unit.specs.declared.outcome.Outcome.TheVariants.{Complete, Requeue}
use Rattle.po_calls.specs.declared.call.Call.{Call}
use Rattle.po_calls.specs.declared.call.Deadline.{Deadline}
use Rattle.po_calls.specs.declared.end.End.TheVariants.{Completed, ProgramError}
use Rattle.po_history.specs.declared.event.Event.{Event}
use Rattle.po_history.specs.declared.event.Event.TheVariants.{Issue, Procedure, Cancel, Tick, Finalize, Serve, Break, Expire}
use Rattle.po_engine.specs.WaitingCalls.{has_number, is_on, mark}
use Rattle.po_engine.specs.Finding.{without_first}
use Rattle.po_engine.specs.Step.{conclude, enter, is_full, arrive, queue, cancel, attempt_cancel, Needs, end_call}
use Rattle.po_engine.proofs.Sums.{sum_by-cons}
use Rattle.po_laws.specs.Completed.{values_of, completed_at}
use Rattle.po_laws.specs.Gathered.{issued}
use Rattle.po_classic_units.specs.Pulse.{PulseState, pulse_meaning, signal}
use Rattle.po_laws.proofs.PulseBusyLemmas.{PulseObject, IsOnWait, waits, pulse_barrier_in, pulse_step, IsBusy, IsOver}
use Rattle.po_laws.proofs.PulseBusyLemmas.{waits-first, not_zero, found_entry}

-- the object, after its next number is used
abbrev numbered : PulseObject → PulseObject
numbered s = record s { next = s.next + 1 }

-- the same, with the pulse occurring
abbrev pulsing : PulseObject → PulseObject
pulsing s = record (numbered s) { unit = record { occurred = true } }

-- the Signal, requeued on Reset without abort
abbrev pub requeued : ℕ → ℕ → ℕ → Deadline → Call ℕ
requeued n owner v d = record (issued n owner 1 v d) { entry = 2; without_abort = true }

-- Calls on Wait stay on Wait if one leaves or is marked, and none of them counts on Reset.
wait_without : (test : Call ℕ → Bool) (xs : List (Call ℕ)) → All IsOnWait xs → All IsOnWait (without_first test xs)
wait_without test [] all = all
wait_without test (x ∷ xs) all =
    let rest = All-tail IsOnWait x xs all in
    let first = All-head IsOnWait x xs all in
    without_if (test x) rest (All-cons IsOnWait x (without_first test xs) first (wait_without test xs rest))
  where
    without_if : (b : Bool) → All IsOnWait xs → All IsOnWait (x ∷ without_first test xs)
        → All IsOnWait (if b then xs else x ∷ without_first test xs)
    without_if true out kept = out
    without_if false out kept = kept

wait_mark : (n : ℕ) (xs : List (Call ℕ)) → All IsOnWait xs → All IsOnWait (map (mark n) xs)
wait_mark n xs all =
    All-map IsOnWait (mark n) xs
    (All-weaker IsOnWait (λ x. IsOnWait (mark n x)) (λ x on. mark_if x (has_number n x) on) xs all)
  where
    mark_if : (x : Call ℕ) (b : Bool) → IsOnWait x → IsOnWait (if b then record x { aborted = true } else x)
    mark_if x true on = on
    mark_if x false on = on

none_on_reset : (xs : List (Call ℕ)) → All IsOnWait xs → count_by (is_on 2) xs ≡ 0
none_on_reset [] all = refl
none_on_reset (x ∷ xs) all =
    let on : x.entry ≡ 0 = All-head IsOnWait x xs all in
    let rest : count_by (is_on 2) xs ≡ 0 = none_on_reset xs (All-tail IsOnWait x xs all) in
    sum_by-cons (λ z. if is_on 2 z then 1 else 0) x xs ∙ rw (on, rest) refl

module _ (limit : Option ℕ) where
  -- The pulse hasn't occurred. Only calls on Wait are queued, and none if no queue may have a call.
  pub record IsIdle (s : PulseObject) : Type 0 where
    pub occurred : s.unit.occurred ≡ false
    pub on_wait : All IsOnWait s.waiting
    pub room : is_full limit 0 ≡ true → s.waiting ≡ []

  -- What leaves a state idle.
  pub idle_over : (s : PulseObject) → IsOver s → IsIdle s
  idle_over s over = record {
    occurred = over.occurred;
    on_wait = All-same IsOnWait s.waiting [] over.waiting (All-nil IsOnWait);
    room = λ full. over.waiting;
  }

  pub idle_cancel : (s : PulseObject) (n : ℕ) (o : Option (Call ℕ)) → IsIdle s → IsIdle (cancel s n o)
  idle_cancel s n None idle = idle
  idle_cancel s n (Some x) idle = record {
    occurred = idle.occurred;
    on_wait = wait_without (has_number n) s.waiting idle.on_wait;
    room = λ full. ap (without_first (has_number n)) (idle.room full);
  }

  pub idle_attempt : (s : PulseObject) (n : ℕ) (o : Option (Call ℕ)) → IsIdle s → IsIdle (attempt_cancel s n o)
  idle_attempt s n None idle = idle
  idle_attempt s n (Some x) idle = attempt_if x.without_abort
    where
      attempt_if : (b : Bool) → IsIdle (if b then record s { waiting = map (mark n) s.waiting } else cancel s n (Some x))
      attempt_if true = record {
        occurred = idle.occurred;
        on_wait = wait_mark n s.waiting idle.on_wait;
        room = λ full. ap (map (mark n)) (idle.room full);
      }
      attempt_if false = idle_cancel s n (Some x) idle

  -- The new state is idle, and no call has completed since the old one.
  pub record StaysIdle (old new : PulseObject) : Type 0 where
    pub idle : IsIdle new
    pub none : values_of (drop (length old.ended) new.ended) ≡ []

  -- a call on Wait is queued, or ends by Program_Error
  wait_enters : (s : PulseObject) (x : Call ℕ) (b : Bool) → is_full limit (waits s.waiting) ≡ b → IsIdle s → IsOnWait x
      → StaysIdle s (if b then end_call (numbered s) x ProgramError else queue (numbered s) x)
  wait_enters s x true full idle on = record {
    idle = record { occurred = idle.occurred; on_wait = idle.on_wait; room = idle.room };
    none = ap values_of (drop-append_seam s.ended _);
  }
  wait_enters s x false full idle on = record {
    idle = record {
      occurred = idle.occurred;
      on_wait = All-push IsOnWait s.waiting x idle.on_wait on;
      room = λ none. absurd (room none);
    };
    none = ap values_of (drop-length s.ended);
  }
    where
      room : is_full limit 0 ≡ true → ⊥
      room none =
          let some : is_full limit 0 ≡ false = subst (λ l. is_full limit (waits l) ≡ false) (idle.room none) full in
          cc

  wait_shut : (s : PulseObject) → IsIdle s → pulse_barrier_in s 0 ≡ Ok false
  wait_shut s idle = ap (λ b. Ok b) idle.occurred

  pub issue_wait : (s : PulseObject) (n owner v : ℕ) (d : Deadline) → IsIdle s
      → StaysIdle s (pulse_step limit s (Issue n owner 0 v d))
  issue_wait s n owner v d idle =
      let x : Call ℕ = issued n owner 0 v d in
      let is : pulse_step limit s (Issue n owner 0 v d) ≡ enter limit (numbered s) x =
      ap (arrive pulse_meaning limit (numbered s) x) (wait_shut s idle) in
      subst (StaysIdle s) (sym is) (wait_enters s x _ refl idle refl)

  -- no serving comes between pulses
  pub no_serving : (s : PulseObject) (e : ℕ) → IsIdle s → Needs pulse_meaning s (Serve e) → ⊥
  no_serving s e idle need =
      let on : e ≡ 0 = found_entry (λ n. n ≡ 0) e s.waiting idle.on_wait need.0 in
      let may : pulse_barrier_in s 0 ≡ Ok true = subst (λ n. pulse_barrier_in s n ≡ Ok true) on need.1 in
      let shut = wait_shut s idle in
      cc

  -- no call on Wait completes between pulses
  pub none_completes : (s : PulseObject) (event : Event ℕ) → IsIdle s → Needs pulse_meaning s event
      → completed_at pulse_meaning limit 0 s event ≡ []
  none_completes s (Issue n owner zero v d) idle need = (issue_wait s n owner v d idle).none
  none_completes s (Issue n owner (suc e) v d) idle need =
      let other : (suc e == 0) ≡ false = grind (arith, nat_tests) in
      rw other refl
  none_completes s (Procedure owner op v reply) idle need = refl
  none_completes s (Cancel n) idle need = refl
  none_completes s (Tick t) idle need = refl
  none_completes s Finalize idle need = refl
  none_completes s (Serve e) idle need = absurd (no_serving s e idle need)
  none_completes s (Break e) idle need = refl
  none_completes s (Expire n) idle need = refl

  -- a call is concluded on the object in which its body leaves this state
  abbrev concluded : PulseObject → Call ℕ → PulseState × Outcome ℕ → PulseObject
  concluded s x r = conclude limit (record (numbered s) { unit = r.0 }) x r.1

  -- if no call waits, a Signal completes
  pub signal_none : (s : PulseObject) (n owner v : ℕ) (d : Deadline) → s.waiting ≡ []
      → pulse_step limit s (Issue n owner 1 v d) ≡ end_call (numbered s) (issued n owner 1 v d) (Completed v)
  signal_none s n owner v d w =
      ap (λ l. concluded s (issued n owner 1 v d) (signal s.unit v (waits l))) w

  -- if a call waits, the queue of Reset has room for the Signal
  room_on_reset : (s : PulseObject) (x : Call ℕ) (xs : List (Call ℕ)) → s.waiting ≡ x ∷ xs → IsIdle s
      → is_full limit (count_by (is_on 2) s.waiting) ≡ false
  room_on_reset s x xs w idle = ap (is_full limit) (none_on_reset s.waiting idle.on_wait) ∙ room (is_full limit 0) refl
    where
      room : (b : Bool) → is_full limit 0 ≡ b → is_full limit 0 ≡ false
      room true full = let empty = idle.room full in cc
      room false full = full

  -- if calls wait, a Signal makes the pulse occur, and is queued on Reset
  pub signal_some : (s : PulseObject) (n owner v : ℕ) (d : Deadline) (x : Call ℕ) (xs : List (Call ℕ))
      → s.waiting ≡ x ∷ xs → IsIdle s
      → pulse_step limit s (Issue n owner 1 v d) ≡ queue (pulsing s) (requeued n owner v d)
  signal_some s n owner v d x xs w idle =
      let first : IsOnWait x = All-head IsOnWait x xs (subst (All IsOnWait) w idle.on_wait) in
      let some : (waits s.waiting == 0) ≡ false = not_zero _ (waits xs) (ap waits w ∙ waits-first x xs first) in
      ap (concluded s (issued n owner 1 v d)) (signal_if _ some)
      ∙ enter_if _ (room_on_reset s x xs w idle)
    where
      occurs : PulseState × Outcome ℕ
      occurs = (record { occurred = true }, Requeue 2 false v)

      call : Call ℕ
      call = requeued n owner v d

      signal_if : (b : Bool) → b ≡ false
          → ◌≡◌ {A = PulseState × Outcome ℕ} (if b then (s.unit, Complete v) else occurs) occurs
      signal_if true h = cc
      signal_if false h = refl

      enter_if : (b : Bool) → b ≡ false
          → (if b then end_call (pulsing s) call ProgramError else queue (pulsing s) call) ≡ queue (pulsing s) call
      enter_if true h = cc
      enter_if false h = refl

  pub signal_busy : (s : PulseObject) (n owner v : ℕ) (d : Deadline) (x : Call ℕ) (xs : List (Call ℕ))
      → s.waiting ≡ x ∷ xs → IsIdle s
      → IsBusy (pulse_step limit s (Issue n owner 1 v d)) (x ∷ xs) (requeued n owner v d)
  signal_busy s n owner v d x xs w idle =
      let is = signal_some s n owner v d x xs w idle in
      record {
        occurred = ap (λ z. z.unit.occurred) is;
        waiting = ap (λ z. z.waiting) is ∙ ap (λ l. l ++ requeued n owner v d ∷ []) w;
        on_wait = subst (All IsOnWait) w idle.on_wait;
        on_reset = refl;
      }
