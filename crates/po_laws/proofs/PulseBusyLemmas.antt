-- In the middle of a pulse only its own servings can follow.
use Rattle.std.proofs.Common.{◌≡◌, ℕ, ◌+◌, ◌==◌, List, [], ◌∷◌, ◌++◌, map, length, refl, subst, ap, sym, ◌∙◌, arith}
use Rattle.std.proofs.Common.{Bool, true, false, Option, Some, Result, Ok, Err, if◌then◌else◌, IsSome, append_assoc}
use Rattle.std.proofs.Common.{◌⊎◌, inl, inr, All, find, count_by}
use Rattle.std.proofs.lemmas.Bool.Decides.{nat_tests}
use Rattle.std.proofs.lemmas.List.Elements.{All-nil, All-cons, All-head, All-tail, All-push, All-weaker}
use Rattle.po_unit.specs.declared.outcome.Outcome.TheVariants.{Complete}
use Rattle.po_calls.specs.declared.call.Call.{Call}
use Rattle.po_engine.specs.declared.ended.Ended.{Ended}
use Rattle.po_calls.specs.declared.end.End.TheVariants.{Completed}
use Rattle.po_history.specs.declared.event.Event.{Event}
use Rattle.po_history.specs.declared.event.Event.TheVariants.{Issue, Procedure, Cancel, Tick, Finalize, Serve, Break, Expire}
use Rattle.po_engine.specs.WaitingCalls.{is_on}
use Rattle.po_engine.specs.ObjectState.{ObjectState, barrier_in, IsQuiet}
use Rattle.po_engine.specs.Finding.{without_first}
use Rattle.po_engine.specs.Step.{take_out, serve, conclude, step, MayBegin, Needs, replay, end_call}
use Rattle.po_engine.proofs.Sums.{sum_by-cons}
use Rattle.po_classic_units.specs.Pulse.{PulseState, pulse_meaning, pulse_body}
use Rattle.po_laws.specs.Gathered.{servings, with_own_value}
use Rattle.po_laws.proofs.GatheredLemmas.{EndsAtRest}

-- the states of a protected pulse
abbrev pub PulseObject : Type 0
PulseObject = ObjectState PulseState ℕ

-- The call is queued on Wait.
abbrev pub IsOnWait : Call ℕ → Type 0
IsOnWait x = x.entry ≡ 0

-- The call is queued on Reset.
abbrev IsOnReset : Call ℕ → Type 0
IsOnReset x = x.entry ≡ 2

-- how many calls are on Wait
abbrev pub waits : List (Call ℕ) → ℕ
waits calls = count_by (is_on 0) calls

-- whether an entry is open
abbrev pub pulse_barrier_in : PulseObject → ℕ → Result Bool ℕ
pulse_barrier_in s e = barrier_in pulse_meaning s e

-- The pulse has occurred: these calls on Wait are still to go, and then the Signal, which is queued on Reset.
pub record IsBusy (s : PulseObject) (calls : List (Call ℕ)) (signal : Call ℕ) : Type 0 where
  pub occurred : s.unit.occurred ≡ true
  pub waiting : s.waiting ≡ calls ++ signal ∷ []
  pub on_wait : All IsOnWait calls
  pub on_reset : IsOnReset signal

-- The pulse is over, and no call waits.
pub record IsOver (s : PulseObject) : Type 0 where
  pub occurred : s.unit.occurred ≡ false
  pub waiting : s.waiting ≡ []

-- the entry that is served next
abbrev pub next_served : List (Call ℕ) → ℕ
next_served [] = 2
next_served (x ∷ xs) = 0

-- the servings that are still to come: one of Wait for each call, and then one of Reset
abbrev pub servings_left : List (Call ℕ) → List (Event ℕ)
servings_left calls = servings 0 (length calls) ++ Serve 2 ∷ []

-- How many calls are on Wait.
pub waits-first : (x : Call ℕ) (xs : List (Call ℕ)) → IsOnWait x → waits (x ∷ xs) ≡ 1 + waits xs
waits-first x xs on = sum_by-cons (λ z. if is_on 0 z then 1 else 0) x xs ∙ rw on refl

waits-signal : (signal : Call ℕ) → IsOnReset signal → waits (signal ∷ []) ≡ 0
waits-signal signal on = sum_by-cons (λ z. if is_on 0 z then 1 else 0) signal [] ∙ rw on refl

pub not_zero : (n k : ℕ) → n ≡ 1 + k → (n == 0) ≡ false
not_zero n k h = grind (arith, nat_tests)

-- what holds of the entry of each call holds of an entry on which one is found
pub found_entry : (P : ℕ → Type 0) (e : ℕ) (xs : List (Call ℕ)) → All (λ x. P x.entry) xs
    → IsSome (find (is_on e) xs) → P e
found_entry P e [] all is = cc
found_entry P e (x ∷ xs) all is =
    let rest = All-tail (λ y. P y.entry) x xs all in
    here (x.entry == e) refl (All-head (λ y. P y.entry) x xs all) is (found_entry P e xs rest)
  where
    same : (a : ℕ) → (a == e) ≡ true → a ≡ e
    same a h = grind (arith, nat_tests)

    here : (b : Bool) → (x.entry == e) ≡ b → P x.entry → IsSome (if b then Some x else find (is_on e) xs)
        → (IsSome (find (is_on e) xs) → P e) → P e
    here true h p is later = subst P (same x.entry h) p
    here false h p is later = later is

-- An entry is open, and the first waiting call is on it.
record IsTurn (s : PulseObject) (e : ℕ) : Type 0 where
  pub first : Call ℕ
  pub others : List (Call ℕ)
  pub waiting : s.waiting ≡ first ∷ others
  pub on : first.entry ≡ e
  pub barrier : pulse_barrier_in s e ≡ Ok true

busy_turn : (s : PulseObject) (calls : List (Call ℕ)) (signal : Call ℕ) → IsBusy s calls signal
    → IsTurn s (next_served calls)
busy_turn s [] signal busy = record {
  first = signal;
  others = [];
  waiting = busy.waiting;
  on = busy.on_reset;
  barrier = ap (λ n. Ok (n == 0)) (ap waits busy.waiting ∙ waits-signal signal busy.on_reset);
}
busy_turn s (x ∷ xs) signal busy = record {
  first = x;
  others = xs ++ signal ∷ [];
  waiting = busy.waiting;
  on = All-head IsOnWait x xs busy.on_wait;
  barrier = ap (λ b. Ok b) busy.occurred;
}

open_not_shut : (r : Result Bool ℕ) → r ≡ Ok true → r ≡ Ok false → ⊥
open_not_shut r h k = let bad : ◌≡◌ {A = Result Bool ℕ} (Ok true) (Ok false) = sym h ∙ k in cc

turn_not_quiet : (s : PulseObject) (e : ℕ) → IsTurn s e → IsQuiet pulse_meaning s → ⊥
turn_not_quiet s e turn quiet =
    let all : All IsShut (turn.first ∷ turn.others) = subst (All IsShut) turn.waiting quiet in
    let shut : IsShut turn.first = All-head IsShut turn.first turn.others all in
    open_not_shut (pulse_barrier_in s e) turn.barrier (subst (λ n. pulse_barrier_in s n ≡ Ok false) turn.on shut)
  where
    IsShut : Call ℕ → Type 0
    IsShut x = pulse_barrier_in s x.entry ≡ Ok false

busy_not_quiet : (s : PulseObject) (calls : List (Call ℕ)) (signal : Call ℕ) → IsBusy s calls signal
    → IsQuiet pulse_meaning s → ⊥
busy_not_quiet s calls signal busy quiet = turn_not_quiet s (next_served calls) (busy_turn s calls signal busy) quiet

-- no protected action begins
pub none_begins : (s : PulseObject) (calls : List (Call ℕ)) (signal : Call ℕ) → IsBusy s calls signal
    → MayBegin pulse_meaning s → ⊥
none_begins s calls signal busy may = busy_not_quiet s calls signal busy may.rest.quiet

-- Reset is closed as long as calls are on Wait
reset_shut : (s : PulseObject) (x : Call ℕ) (xs : List (Call ℕ)) → s.waiting ≡ x ∷ xs → IsOnWait x
    → pulse_barrier_in s 2 ≡ Ok false
reset_shut s x xs w on = ap (λ b. Ok b) (not_zero (waits s.waiting) (waits xs) (ap waits w ∙ waits-first x xs on))

-- The entry is Wait or Reset.
abbrev IsWaitOrReset : ℕ → Type 0
IsWaitOrReset e = (e ≡ 0) ⊎ (e ≡ 2)

-- an open entry on which a call is queued is the next one
next_entry : (s : PulseObject) (calls : List (Call ℕ)) (signal : Call ℕ) (e : ℕ) → IsBusy s calls signal
    → IsSome (find (is_on e) s.waiting) → pulse_barrier_in s e ≡ Ok true → e ≡ next_served calls
next_entry s [] signal e busy is barrier =
    let all : All IsOnReset (signal ∷ []) = All-cons IsOnReset signal [] busy.on_reset (All-nil IsOnReset) in
    found_entry (λ n. n ≡ 2) e (signal ∷ []) all (subst (λ l. IsSome (find (is_on e) l)) busy.waiting is)
next_entry s (x ∷ xs) signal e busy is barrier =
    let found = subst (λ l. IsSome (find (is_on e) l)) busy.waiting is in
    elim (found_entry IsWaitOrReset e ((x ∷ xs) ++ signal ∷ []) all found) [
      | inl wait ↦ wait
      | inr reset ↦ absurd (open_not_shut _ (subst (λ n. pulse_barrier_in s n ≡ Ok true) reset barrier) shut)
    ]
  where
    all : All (λ y. IsWaitOrReset y.entry) ((x ∷ xs) ++ signal ∷ [])
    all = All-push (λ y. IsWaitOrReset y.entry) (x ∷ xs) signal
        (All-weaker IsOnWait (λ y. IsWaitOrReset y.entry) (λ y on. inl on) (x ∷ xs) busy.on_wait) (inr busy.on_reset)

    shut : pulse_barrier_in s 2 ≡ Ok false
    shut = reset_shut s x (xs ++ signal ∷ []) busy.waiting (All-head IsOnWait x xs busy.on_wait)

-- an event that may come is the next serving
pub next_event : (s : PulseObject) (calls : List (Call ℕ)) (signal : Call ℕ) (event : Event ℕ) → IsBusy s calls signal
    → Needs pulse_meaning s event → event ≡ Serve (next_served calls)
next_event s calls signal (Serve e) busy need = ap (λ n. Serve n) (next_entry s calls signal e busy need.0 need.1)
next_event s calls signal (Break e) busy need = let bad : pulse_barrier_in s e ≡ Err need.1.0 = need.1.1 in cc
next_event s calls signal (Expire n) busy need = absurd (busy_not_quiet s calls signal busy need.0)
next_event s calls signal (Issue n owner e v d) busy need = absurd (none_begins s calls signal busy need.0)
next_event s calls signal (Procedure owner op v reply) busy need = absurd (none_begins s calls signal busy need.0)
next_event s calls signal (Cancel n) busy need = absurd (none_begins s calls signal busy need.0)
next_event s calls signal (Tick t) busy need = absurd (none_begins s calls signal busy need)
next_event s calls signal Finalize busy need = absurd (none_begins s calls signal busy need)

-- The first call has gone, completed with its own value.
record HasGone (old new : PulseObject) (x : Call ℕ) (u : PulseState) (left : List (Call ℕ)) : Type 0 where
  pub unit : new.unit ≡ u
  pub waiting : new.waiting ≡ left
  pub ended : new.ended ≡ old.ended ++ with_own_value x ∷ []

module _ (limit : Option ℕ) where
  -- the state after an event
  abbrev pub pulse_step : PulseObject → Event ℕ → PulseObject
  pulse_step s event = step pulse_meaning limit s event

  -- the state that a history leads to
  abbrev pub pulse_replay : PulseObject → List (Event ℕ) → PulseObject
  pulse_replay s events = replay pulse_meaning limit s events

  -- the first call is served, on an entry whose body completes each call
  first_goes : (s : PulseObject) (x : Call ℕ) (left : List (Call ℕ)) (e : ℕ) (u : PulseState) → s.waiting ≡ x ∷ left
      → x.entry ≡ e
      → ((count : ℕ) → pulse_body s.unit e x.value count ≡ (u, Complete x.value))
      → HasGone s (pulse_step s (Serve e)) x u left
  first_goes s x left e u w on body =
      let here : is_on e x ≡ true = rw on (grind (arith, nat_tests)) in
      let found : find (is_on e) s.waiting ≡ Some x = ap (find (is_on e)) w ∙ rw here refl in
      let rest : without_first (is_on e) s.waiting ≡ left = ap (without_first (is_on e)) w ∙ rw here refl in
      let taken : PulseObject = take_out s (is_on e) in
      let ran : pulse_body s.unit x.entry x.value (waits taken.waiting) ≡ (u, Complete x.value) =
      ap (λ n. pulse_body s.unit n x.value (waits taken.waiting)) on ∙ body (waits taken.waiting) in
      let is : pulse_step s (Serve e) ≡ end_call (record taken { unit = u }) x (Completed x.value) =
      ap (serve pulse_meaning limit s e) found ∙ ap (λ r. conclude limit (record taken { unit = r.0 }) x r.1) ran in
      record { unit = ap (λ z. z.unit) is; waiting = ap (λ z. z.waiting) is ∙ rest; ended = ap (λ z. z.ended) is }

  first_wait_goes : (s : PulseObject) (x : Call ℕ) (xs : List (Call ℕ)) (signal : Call ℕ) → IsBusy s (x ∷ xs) signal
      → HasGone s (pulse_step s (Serve 0)) x s.unit (xs ++ signal ∷ [])
  first_wait_goes s x xs signal busy =
      first_goes s x (xs ++ signal ∷ []) 0 s.unit busy.waiting (All-head IsOnWait x xs busy.on_wait) (λ count. refl)

  signal_goes : (s : PulseObject) (signal : Call ℕ) → IsBusy s [] signal
      → HasGone s (pulse_step s (Serve 2)) signal (record { occurred = false }) []
  signal_goes s signal busy =
      first_goes s signal [] 2 (record { occurred = false }) busy.waiting busy.on_reset (λ count. refl)

  -- after a serving of Wait the other calls are still to go
  pub stays_busy : (s : PulseObject) (x : Call ℕ) (xs : List (Call ℕ)) (signal : Call ℕ) → IsBusy s (x ∷ xs) signal
      → IsBusy (pulse_step s (Serve 0)) xs signal
  stays_busy s x xs signal busy =
      let gone = first_wait_goes s x xs signal busy in
      record {
        occurred = ap (λ u. u.occurred) gone.unit ∙ busy.occurred;
        waiting = gone.waiting;
        on_wait = All-tail IsOnWait x xs busy.on_wait;
        on_reset = busy.on_reset;
      }

  -- after the serving of Reset the pulse is over
  pub gets_over : (s : PulseObject) (signal : Call ℕ) → IsBusy s [] signal → IsOver (pulse_step s (Serve 2))
  gets_over s signal busy =
      let gone = signal_goes s signal busy in
      record { occurred = ap (λ u. u.occurred) gone.unit; waiting = gone.waiting }

  -- This event comes first, and then others up to rest.
  record BeginsWith (s : PulseObject) (event : Event ℕ) (events : List (Event ℕ)) : Type 0 where
    pub later : List (Event ℕ)
    pub are : events ≡ event ∷ later
    pub ends : EndsAtRest pulse_meaning limit (pulse_step s event) later

  begins_with_next : (s : PulseObject) (calls : List (Call ℕ)) (signal : Call ℕ) (events : List (Event ℕ))
      → IsBusy s calls signal
      → EndsAtRest pulse_meaning limit s events → BeginsWith s (Serve (next_served calls)) events
  begins_with_next s calls signal [] busy ends = absurd (busy_not_quiet s calls signal busy ends.1.quiet)
  begins_with_next s calls signal (event ∷ events) busy ends =
      let is : event ≡ Serve (next_served calls) = next_event s calls signal event busy ends.0.0 in
      record {
        later = events;
        are = ap (λ x. x ∷ events) is;
        ends = subst (λ x. EndsAtRest pulse_meaning limit (pulse_step s x) events) is (ends.0.1, ends.1);
      }

  -- The servings come next, all the calls complete by them, and then the Signal does.
  pub record AllGo (s : PulseObject) (calls : List (Call ℕ)) (signal : Call ℕ) (events : List (Event ℕ)) : Type 0 where
    pub rest : List (Event ℕ)
    pub trail : events ≡ servings_left calls ++ rest
    pub ended : (pulse_replay s (servings_left calls)).ended
        ≡ s.ended ++ (map with_own_value calls ++ with_own_value signal ∷ [])
    pub waiting : (pulse_replay s (servings_left calls)).waiting ≡ []

  pub busy_all_go : (s : PulseObject) (calls : List (Call ℕ)) (signal : Call ℕ) (events : List (Event ℕ))
      → IsBusy s calls signal
      → EndsAtRest pulse_meaning limit s events → AllGo s calls signal events
  busy_all_go s [] signal events busy ends =
      let next = begins_with_next s [] signal events busy ends in
      let gone = signal_goes s signal busy in
      record { rest = next.later; trail = next.are; ended = gone.ended; waiting = gone.waiting }
  busy_all_go s (x ∷ xs) signal events busy ends =
      let next = begins_with_next s (x ∷ xs) signal events busy ends in
      let gone = first_wait_goes s x xs signal busy in
      let busy_on = stays_busy s x xs signal busy in
      let others = busy_all_go (pulse_step s (Serve 0)) xs signal next.later busy_on next.ends in
      let later : List (Ended ℕ) = map with_own_value xs ++ with_own_value signal ∷ [] in
      record {
        rest = others.rest;
        trail = next.are ∙ ap (λ l. Serve 0 ∷ l) others.trail;
        ended = others.ended ∙ ap (λ l. l ++ later) gone.ended ∙ append_assoc s.ended (with_own_value x ∷ []) later;
        waiting = others.waiting;
      }
