-- What is free and what is taken add up to the size: the law of the allocator, of every legal history.
use Rattle.std.proofs.Common.{◌≡◌, ℕ, zero, suc, ◌+◌, ◌-◌, ◌<◌, ◌≤◌, List, [], ◌∷◌, take, refl, subst, ap, sym, ◌∙◌, arith, Bool, true, false, nat_lt, nat_le, pos, Option, Some, None, Result, Ok, Err, if◌then◌else◌}
use Rattle.std.specs.List.{All, sum, slice_get}
use Rattle.std.proofs.lemmas.Bool.Decides.{nat_tests}
use Rattle.std.proofs.lemmas.List.Elements.{All-nil, All-head, All-tail}
use Rattle.std.proofs.lemmas.List.Sums.{sum_by-cons, sum_by-append}
use Rattle.po_unit.specs.declared.decl.EntryRef.{EntryRef}
use Rattle.po_unit.specs.declared.decl.Decl.{Decl}
use Rattle.po_unit.specs.Numbering.{width, entry_count, entry_references, is_public_entry, is_public}
use Rattle.po_unit.proofs.NumberingLemmas.{numbered_from_slice_get, is_public-from_decl}
use Rattle.po_unit.specs.declared.outcome.Outcome.TheVariants.{Raise, Requeue}
use Rattle.po_calls.specs.declared.call.Call.{Call}
use Rattle.po_history.specs.declared.event.Event.{Event}
use Rattle.po_history.specs.declared.event.Event.TheVariants.{Issue, Procedure, Cancel, Tick, Finalize, Serve, Break, Expire}
use Rattle.po_engine.specs.WaitingCalls.{is_on}
use Rattle.po_engine.specs.ObjectState.{ObjectState, barrier_in}
use Rattle.po_engine.specs.Step.{step, Needs, replay, IsLegal}
use Rattle.po_core.specs.Setup.{Setup}
use Rattle.po_core.specs.Public.{NamesPublic, AllPublic}
use Rattle.po_engine.proofs.Lists.{found_on}
use Rattle.po_classic_units.specs.Declarations.{public_entry, private_family}
use Rattle.po_laws.specs.Completed.{opening, completed_by, all_values}
use Rattle.po_classic_units.specs.Allocator.{AllocatorState, IsNewAllocator, allocator_barrier, is_beyond, allocator_body, release, allocator_meaning, allocator_declarations}
use Rattle.po_laws.specs.AllocatorLaw.{AllocatorStaysWithin, values_released, with_release}
use Rattle.po_laws.proofs.HistoryLemmas.{value_from, values_between, Idles, Runs, DoesAtBarrier, does, found_holds, legal_front, public_front, HoldsRequeued, HoldsIssued, all_wait}

-- a number that there can be of the resource
in_range : (most v : ℕ) → is_beyond most v ≡ false → (1 ≤ v) × (v ≤ most)
in_range most zero within = cc
in_range most (suc v) within = (omega arith, grind (arith, nat_tests))

-- a number that is no entry's isn't public
none_public : (ds : List Decl) (e : ℕ) → slice_get (entry_references ds) e ≡ None → is_public ds e ≡ true → false ≡ true
unfolding is_public
none_public ds e none public = sym (ap (is_public_entry ds) none) ∙ public

-- Request and Claim, the first two declarations, are public, and Grant isn't
place_low : (size place further e : ℕ) (d : Decl) → slice_get (allocator_declarations size) place ≡ Some d
    → d.public ≡ true
    → further < width d
    → e ≡ entry_count (take place (allocator_declarations size)) + further
    → e < 2
place_low size zero further e d declared public within number =
    let same : public_entry ≡ d = cc in
    let one : further < 1 = subst (λ x. further < width x) (sym same) within in
    omega (arith, number, one)
place_low size (suc zero) further e d declared public within number =
    let same : public_entry ≡ d = cc in
    let one : further < 1 = subst (λ x. further < width x) (sym same) within in
    omega (arith, number, one)
place_low size (suc (suc zero)) further e d declared public within number =
    let same : private_family (pos 1) (pos size) ≡ d = cc in
    let hidden : false ≡ true = ap (λ x. x.public) same ∙ public in
    cc
place_low size (suc (suc (suc place))) further e d declared public within number = cc

public_at : (size e : ℕ) (o : Option EntryRef) → slice_get (entry_references (allocator_declarations size)) e ≡ o
    → is_public (allocator_declarations size) e ≡ true
    → e < 2
public_at size e None there public = let no = none_public (allocator_declarations size) e there public in cc
public_at size e (Some r) there public =
    let ds = allocator_declarations size in
    let numbered = numbered_from_slice_get ds r e there in
    let visible = sym (is_public-from_decl ds r numbered.decl e there numbered.declared) ∙ public in
    place_low size r.declaration numbered.further e numbered.decl numbered.declared visible numbered.within numbered.number

-- the public entries are Request and Claim
public_low : (size e : ℕ) → is_public (allocator_declarations size) e ≡ true → e < 2
public_low size e public = public_at size e (slice_get (entry_references (allocator_declarations size)) e) refl public

-- The call waits for a Grant of its value.
record AwaitsGrant (x : Call ℕ) : Type 0 where
  some : 1 ≤ x.value
  entry : x.entry ≡ x.value + 1

marked_awaits : (x : Call ℕ) → AwaitsGrant x → AwaitsGrant (record x { aborted = true })
marked_awaits x awaits = record { some = awaits.some; entry = awaits.entry }

-- what a body requeues waits for a Grant
body_awaits : (asks beyond : Bool) (a : AllocatorState) (x : Call ℕ) → nat_lt x.entry 2 ≡ asks
    → is_beyond a.size x.value ≡ beyond
    → HoldsRequeued AwaitsGrant x (allocator_body a x.entry x.value).1
body_awaits true true a x is_ask is = rw (is_ask, is) tt
body_awaits true false a x is_ask is =
    let k = in_range a.size x.value is in
    rw (is_ask, is) (record { some = k.0; entry = refl })
body_awaits false beyond a x is_ask is = rw is_ask tt

requeued_awaits : (a : AllocatorState) (x : Call ℕ) (c : List ℕ)
    → HoldsRequeued AwaitsGrant x (allocator_meaning.body a x.entry x.value c).1
requeued_awaits a x c = body_awaits (nat_lt x.entry 2) (is_beyond a.size x.value) a x refl refl

-- The allocator comes from the old one if this many are granted and this many released.
record Moves (old new : AllocatorState) (granted released : ℕ) : Type 0 where
  size : new.size ≡ old.size
  balance : new.free + granted ≡ old.free + released
  within : old.free ≤ old.size → new.free ≤ new.size

moves_nothing : (old new : AllocatorState) → new ≡ old → Moves old new 0 0
moves_nothing old new same = record {
  size = ap (λ a. a.size) same;
  balance = ap (λ a. a.free + 0) same;
  within = λ few. rw same few;
}

moves_on : (a b c : AllocatorState) (granted released granted_after released_after : ℕ) → Moves a b granted released
    → Moves b c granted_after released_after
    → Moves a c (granted + granted_after) (released + released_after)
moves_on a b c granted released granted_after released_after first next = record {
  size = next.size ∙ first.size;
  balance = omega (arith, first.balance, next.balance);
  within = λ few. next.within (first.within few);
}

-- an ask completes no call
asked_none : (beyond with_abort : Bool) (v : ℕ)
    → value_from (if beyond then Raise 2 else Requeue (v + 1) with_abort v) ≡ []
asked_none true with_abort v = refl
asked_none false with_abort v = refl

-- an open Grant takes as many as its call's value says
granted_moves : (a : AllocatorState) (e v : ℕ) → allocator_barrier a e ≡ true → 1 ≤ v → e ≡ v + 1
    → Moves a (allocator_body a e v).0 (sum (value_from (allocator_body a e v).1)) 0
granted_moves a e v open_now some entry =
    let grants : nat_lt e 2 ≡ false = grind (arith, nat_tests) in
    let enough : nat_le (e - 1) a.free ≡ true = rw grants at open_now in
    let few : e - 1 ≤ a.free = grind (arith, nat_tests) in
    rw (grants, enough) (record { size = refl; balance = omega arith; within = λ within. omega arith })

-- a Release that replies with a value gives back as many as it says
released_moves : (beyond : Bool) (a : AllocatorState) (owner op v : ℕ) (reply : Result ℕ ℕ)
    → is_beyond (a.size - a.free) v ≡ beyond
    → reply ≡ (release a v).1
    → Moves a (release a v).0 0 (sum (with_release (Procedure owner op v reply) []))
released_moves true a owner op v reply is replies = rw (replies, is) (moves_nothing a a refl)
released_moves false a owner op v reply is replies =
    let k = in_range (a.size - a.free) v is in
    rw (replies, is) (record { size = refl; balance = omega arith; within = λ few. omega (arith, k.0, k.1) })

abbrev State : Type 0
State = ObjectState AllocatorState ℕ

idles_moves : (s t : State) → Idles s t → Moves s.unit t.unit (sum (values_between s t)) 0
idles_moves s t idles = rw idles.values (moves_nothing s.unit t.unit idles.unit)

-- Request and Claim take nothing
asks_moves : (s t : State) (e v : ℕ) → e < 2 → DoesAtBarrier allocator_meaning s t e v (barrier_in allocator_meaning s e)
    → Moves s.unit t.unit (sum (values_between s t)) 0
asks_moves s t zero v low runs =
    rw (runs.values, asked_none (is_beyond s.unit.size v) true v) (moves_nothing s.unit t.unit runs.unit)
asks_moves s t (suc zero) v low runs =
    rw (runs.values, asked_none (is_beyond s.unit.size v) false v) (moves_nothing s.unit t.unit runs.unit)
asks_moves s t (suc (suc e)) v low runs = absurd (omega arith)

-- and they queue no call
asks_queue : (size : ℕ) (s : State) (event : Event ℕ) → NamesPublic (allocator_declarations size) event
    → HoldsIssued AwaitsGrant allocator_meaning s event
asks_queue size s (Issue n owner zero v d) public = tt
asks_queue size s (Issue n owner (suc zero) v d) public = tt
asks_queue size s (Issue n owner (suc (suc e)) v d) public =
    let low = public_low size (suc (suc e)) public in absurd (omega arith)
asks_queue size s (Procedure owner op v reply) public = tt
asks_queue size s (Cancel n) public = tt
asks_queue size s (Tick time) public = tt
asks_queue size s Finalize public = tt
asks_queue size s (Serve e) public = tt
asks_queue size s (Break e) public = tt
asks_queue size s (Expire n) public = tt

grants_moves : (s t : State) (e v : ℕ) → Runs allocator_meaning s t e v → allocator_barrier s.unit e ≡ true → 1 ≤ v
    → e ≡ v + 1
    → Moves s.unit t.unit (sum (values_between s t)) 0
grants_moves s t e v runs open_now some entry =
    rw (runs.unit, runs.values) (granted_moves s.unit e v open_now some entry)

-- the values released, of one more event
released_more : (event : Event ℕ) (values : List ℕ)
    → sum (with_release event values) ≡ sum (with_release event []) + sum values
released_more (Issue n owner e v d) values = omega arith
released_more (Procedure owner op v (Ok w)) values = omega (arith, sum_by-cons (λ x. x) v values)
released_more (Procedure owner op v (Err k)) values = omega arith
released_more (Cancel n) values = omega arith
released_more (Tick time) values = omega arith
released_more Finalize values = omega arith
released_more (Serve e) values = omega arith
released_more (Break e) values = omega arith
released_more (Expire n) values = omega arith

module _ (limit : Option ℕ) (size : ℕ) where
  abbrev granted_by : State → Event ℕ → ℕ
  granted_by s event = sum (completed_by allocator_meaning limit s event)

  event_moves : (s : State) (event : Event ℕ) → Needs allocator_meaning s event
      → NamesPublic (allocator_declarations size) event
      → All AwaitsGrant s.waiting
      → Moves s.unit (step allocator_meaning limit s event).unit (granted_by s event) (sum (with_release event []))
  event_moves s (Issue n owner e v d) needs public all =
      let event : Event ℕ = Issue n owner e v d in
      let done = does allocator_meaning limit s event needs in
      asks_moves s (step allocator_meaning limit s event) e v (public_low size e public) done
  event_moves s (Procedure owner op v reply) needs public all =
      let none = does allocator_meaning limit s (Procedure owner op v reply) needs in
      rw none (released_moves (is_beyond (s.unit.size - s.unit.free) v) s.unit owner op v reply refl needs.2)
  event_moves s (Cancel n) needs public all =
      idles_moves s (step allocator_meaning limit s (Cancel n)) (does allocator_meaning limit s (Cancel n) needs)
  event_moves s (Tick time) needs public all =
      idles_moves s (step allocator_meaning limit s (Tick time)) (does allocator_meaning limit s (Tick time) needs)
  event_moves s Finalize needs public all =
      idles_moves s (step allocator_meaning limit s Finalize) (does allocator_meaning limit s Finalize needs)
  event_moves s (Serve e) needs public all =
      let done = does allocator_meaning limit s (Serve e) needs in
      let awaits = found_holds AwaitsGrant (is_on e) s.waiting done.0 all done.1 in
      let entry = sym (found_on e s.waiting done.0 done.1) ∙ awaits.entry in
      let barrier = needs.1 in
      let open_now : allocator_barrier s.unit e ≡ true = cc in
      grants_moves s (step allocator_meaning limit s (Serve e)) e done.0.value done.2 open_now awaits.some entry
  event_moves s (Break e) needs public all =
      idles_moves s (step allocator_meaning limit s (Break e)) (does allocator_meaning limit s (Break e) needs)
  event_moves s (Expire n) needs public all =
      idles_moves s (step allocator_meaning limit s (Expire n)) (does allocator_meaning limit s (Expire n) needs)

  history_moves : (s : State) (events : List (Event ℕ)) → IsLegal allocator_meaning limit s events
      → AllPublic (allocator_declarations size) events
      → All AwaitsGrant s.waiting
      → Moves s.unit (replay allocator_meaning limit s events).unit
      (sum (all_values allocator_meaning limit s events))
      (sum (values_released events))
  history_moves s [] legal public all = moves_nothing s.unit s.unit refl
  history_moves s (event ∷ events) legal public all =
      let t = step allocator_meaning limit s event in
      let named = All-head (NamesPublic (allocator_declarations size)) event events public in
      let others = All-tail (NamesPublic (allocator_declarations size)) event events public in
      let asks = asks_queue size s event named in
      let wait = all_wait AwaitsGrant allocator_meaning limit marked_awaits requeued_awaits s event asks all in
      let now = completed_by allocator_meaning limit s event in
      let later = all_values allocator_meaning limit t events in
      rw (sum_by-append (λ x. x) now later, released_more event (values_released events))
      (moves_on s.unit t.unit (replay allocator_meaning limit t events).unit (sum now) (sum (with_release event []))
      (sum later) (sum (values_released events))
      (event_moves s event legal.0 named all)
      (history_moves t events legal.1 others wait))

pub allocator_law : (setup : Setup AllocatorState) (events : List (Event ℕ)) → IsNewAllocator setup.opening
    → IsLegal allocator_meaning setup.max_queue (opening setup) events
    → AllocatorStaysWithin setup events
allocator_law setup events new legal public early late is =
    let limit = setup.max_queue in
    let size = setup.opening.size in
    let shape = allocator_declarations size in
    let s : State = opening setup in
    let front = legal_front allocator_meaning limit s early late (subst (IsLegal allocator_meaning limit s) is legal) in
    let named = public_front shape early late (subst (AllPublic shape) is public) in
    let moves = history_moves limit size s early front named (All-nil AwaitsGrant) in
    let full = new.all_free in
    let few = moves.within (omega arith) in
    record {
      none_missing = omega (arith, moves.balance, moves.size, few, full);
      none_over = omega (arith, moves.balance, full);
    }
