-- A buffer holds what was put but not got yet: the law of the buffer, of every legal history.
use Rattle.std.proofs.Common.{◌≡◌, ℕ, zero, suc, ◌==◌, ◌<◌, ◌≤◌, List, [], ◌∷◌, ◌++◌, length, refl, subst, ap, sym, ◌∙◌, arith, Bool, true, false, nat_lt, Option, Ok, if◌then◌else◌, append_assoc, append-nil, length-append}
use Rattle.std.specs.List.{All}
use Rattle.std.proofs.lemmas.Bool.Decides.{nat_tests}
use Rattle.std.proofs.lemmas.List.Elements.{All-nil}
use Rattle.po_calls.specs.declared.call.Call.{Call}
use Rattle.po_history.specs.declared.event.Event.{Event}
use Rattle.po_history.specs.declared.event.Event.TheVariants.{Issue, Procedure, Cancel, Tick, Finalize, Serve, Break, Expire}
use Rattle.po_engine.specs.WaitingCalls.{is_on}
use Rattle.po_engine.specs.ObjectState.{ObjectState}
use Rattle.po_engine.specs.Step.{step, Needs, replay, IsLegal}
use Rattle.po_core.specs.Setup.{Setup}
use Rattle.po_engine.proofs.Lists.{found_on}
use Rattle.po_core.proofs.Wells.{InRange, range-step}
use Rattle.po_laws.specs.Completed.{opening, completed_at, values_at}
use Rattle.po_classic_units.specs.Buffer.{BufferState, IsNewBuffer, has_room, buffer_barrier, put, get, buffer_body, buffer_meaning, buffer_lawful}
use Rattle.po_laws.specs.BufferLaw.{BufferIsFifo, values_put, values_got}
use Rattle.po_laws.proofs.HistoryLemmas.{value_from, values_between, Idles, Runs, DoesAtBarrier, does, found_holds, legal_front}

-- The buffer comes from the old one if these values are put and those are got.
record Moves (old new : BufferState) (puts gots : List ℕ) : Type 0 where
  order : old.values ++ puts ≡ gots ++ new.values
  capacity : new.capacity ≡ old.capacity
  bounded : length old.values ≤ old.capacity → length new.values ≤ new.capacity

moves_nothing : (old new : BufferState) → new ≡ old → Moves old new [] []
moves_nothing old new same = record {
  order = append-nil old.values ∙ ap (λ b. b.values) (sym same);
  capacity = ap (λ b. b.capacity) same;
  bounded = λ few. rw same few;
}

moves_on : (a b c : BufferState) (puts gots puts_after gots_after : List ℕ) → Moves a b puts gots
    → Moves b c puts_after gots_after
    → Moves a c (puts ++ puts_after) (gots ++ gots_after)
moves_on a b c puts gots puts_after gots_after first next = record {
  order = sym (append_assoc a.values puts puts_after)
      ∙ (ap (λ l. l ++ puts_after) first.order
      ∙ (append_assoc gots b.values puts_after
      ∙ (ap (λ l. gots ++ l) next.order
      ∙ sym (append_assoc gots gots_after c.values))));
  capacity = next.capacity ∙ first.capacity;
  bounded = λ few. next.bounded (first.bounded few);
}

put_moves : (b : BufferState) (v : ℕ) → has_room b ≡ true → Moves b (put b v).0 (v ∷ []) []
put_moves b v open_now =
    let more : length b.values < b.capacity = grind (arith, nat_tests) in
    let longer = length-append b.values (v ∷ []) in
    rw open_now (record { order = refl; capacity = refl; bounded = λ few. omega (arith, more, longer) })

get_moves : (b : BufferState) (xs : List ℕ) (v : ℕ) → b.values ≡ xs → nat_lt 0 (length xs) ≡ true
    → Moves b (get b xs v).0 [] (value_from (get b xs v).1)
get_moves b [] v is open_now = cc
get_moves b (x ∷ xs) v is open_now = record {
  order = append-nil b.values ∙ is;
  capacity = refl;
  bounded = λ few. omega (arith, few, ap length is);
}

-- the body of an open entry puts or gets the value with which it completes
body_moves : (b : BufferState) (e v : ℕ) → e < 2 → buffer_barrier b e ≡ true
    → Moves b (buffer_body b e v).0
    (if e == 0 then value_from (buffer_body b e v).1 else [])
    (if e == 1 then value_from (buffer_body b e v).1 else [])
body_moves b zero v low open_now = put_moves b v open_now
body_moves b (suc zero) v low open_now = get_moves b b.values v refl open_now
body_moves b (suc (suc e)) v low open_now = absurd (omega arith)

abbrev State : Type 0
State = ObjectState BufferState ℕ

runs_moves : (s t : State) (e v : ℕ) → Runs buffer_meaning s t e v → e < 2 → buffer_barrier s.unit e ≡ true
    → Moves s.unit t.unit
    (if e == 0 then values_between s t else [])
    (if e == 1 then values_between s t else [])
runs_moves s t e v runs low open_now = rw (runs.unit, runs.values) (body_moves s.unit e v low open_now)

none_if : (b : Bool) (values : List ℕ) → values ≡ [] → (if b then values else []) ≡ []
none_if true values none = none
none_if false values none = refl

idles_moves : (s t : State) → Idles s t → (a b : Bool)
    → Moves s.unit t.unit (if a then values_between s t else []) (if b then values_between s t else [])
idles_moves s t idles a b =
    rw (none_if a (values_between s t) idles.values, none_if b (values_between s t) idles.values)
    (moves_nothing s.unit t.unit idles.unit)

issue_moves : (s t : State) (e v : ℕ) (is_open : Bool) → buffer_barrier s.unit e ≡ is_open
    → DoesAtBarrier buffer_meaning s t e v (Ok is_open)
    → e < 2
    → Moves s.unit t.unit
    (if e == 0 then values_between s t else [])
    (if e == 1 then values_between s t else [])
issue_moves s t e v true is does low = runs_moves s t e v does low is
issue_moves s t e v false is does low = idles_moves s t does (e == 0) (e == 1)

module _ (limit : Option ℕ) where
  abbrev puts_by : State → Event ℕ → List ℕ
  puts_by s event = completed_at buffer_meaning limit 0 s event

  abbrev gots_by : State → Event ℕ → List ℕ
  gots_by s event = completed_at buffer_meaning limit 1 s event

  event_moves : (s : State) (event : Event ℕ) → Needs buffer_meaning s event → All (λ x. x.entry < 2) s.waiting
      → Moves s.unit (step buffer_meaning limit s event).unit (puts_by s event) (gots_by s event)
  event_moves s (Issue n owner e v d) needs low =
      let t = step buffer_meaning limit s (Issue n owner e v d) in
      let done = does buffer_meaning limit s (Issue n owner e v d) needs in
      issue_moves s t e v (buffer_barrier s.unit e) refl done needs.1
  event_moves s (Procedure owner op v reply) needs low = moves_nothing s.unit s.unit refl
  event_moves s (Cancel n) needs low =
      let idles = does buffer_meaning limit s (Cancel n) needs in
      moves_nothing s.unit (step buffer_meaning limit s (Cancel n)).unit idles.unit
  event_moves s (Tick time) needs low = moves_nothing s.unit s.unit refl
  event_moves s Finalize needs low = moves_nothing s.unit s.unit refl
  event_moves s (Serve e) needs low =
      let t = step buffer_meaning limit s (Serve e) in
      let done = does buffer_meaning limit s (Serve e) needs in
      let here = found_holds (λ x. x.entry < 2) (is_on e) s.waiting done.0 low done.1 in
      let entry = found_on e s.waiting done.0 done.1 in
      let barrier = needs.1 in
      let open_now : buffer_barrier s.unit e ≡ true = cc in
      runs_moves s t e done.0.value done.2 (subst (λ k. k < 2) entry here) open_now
  event_moves s (Break e) needs low = moves_nothing s.unit s.unit refl
  event_moves s (Expire n) needs low =
      let idles = does buffer_meaning limit s (Expire n) needs in
      moves_nothing s.unit (step buffer_meaning limit s (Expire n)).unit idles.unit

  history_moves : (s : State) (events : List (Event ℕ)) → IsLegal buffer_meaning limit s events
      → InRange buffer_meaning buffer_lawful limit 2 s
      → Moves s.unit (replay buffer_meaning limit s events).unit
      (values_at buffer_meaning limit 0 s events)
      (values_at buffer_meaning limit 1 s events)
  history_moves s [] legal range = moves_nothing s.unit s.unit refl
  history_moves s (event ∷ events) legal range =
      let t = step buffer_meaning limit s event in
      moves_on s.unit t.unit (replay buffer_meaning limit t events).unit (puts_by s event) (gots_by s event)
      (values_at buffer_meaning limit 0 t events) (values_at buffer_meaning limit 1 t events)
      (event_moves s event legal.0 range.calls)
      (history_moves t events legal.1 (range-step buffer_meaning buffer_lawful limit 2 s event legal.0 range))

pub buffer_law : (setup : Setup BufferState) (events : List (Event ℕ)) → IsNewBuffer setup.opening
    → IsLegal buffer_meaning setup.max_queue (opening setup) events
    → BufferIsFifo setup events
buffer_law setup events new legal early late is =
    let limit = setup.max_queue in
    let s : State = opening setup in
    let front = legal_front buffer_meaning limit s early late (subst (IsLegal buffer_meaning limit s) is legal) in
    let calls = All-nil (λ (x : Call ℕ). x.entry < 2) in
    let range : InRange buffer_meaning buffer_lawful limit 2 s = record { entries = refl; calls = calls } in
    let moves = history_moves limit s early front range in
    let last = (replay buffer_meaning limit s early).unit in
    let puts = values_put setup early in
    let gots = values_got setup early in
    let first : puts ≡ gots ++ last.values = ap (λ l. l ++ puts) (sym new.no_values) ∙ moves.order in
    let few : length last.values ≤ last.capacity = moves.bounded (rw new.no_values (omega arith)) in
    record {
      left = last.values;
      first = first;
      few = omega (arith, ap length first, length-append gots last.values, few, moves.capacity);
    }
