-- The states of a meeting: how many calls wait, and whether Wait is open.
use Rattle.std.proofs.Common.{◌≡◌, ℕ, ◌+◌, ◌==◌, ◌<◌, List, [], ◌∷◌, ◌++◌, length, refl, ap, sym, ◌∙◌, arith, Bool, true, false, Option, Some, Result, Ok, if◌then◌else◌, IsSome}
use Rattle.std.specs.List.{find, count_by, All}
use Rattle.std.proofs.lemmas.Bool.Decides.{nat_tests}
use Rattle.std.proofs.lemmas.List.Elements.{All-head, All-tail}
use Rattle.po_unit.specs.Meaning.{Meaning}
use Rattle.po_calls.specs.declared.call.Call.{Call}
use Rattle.po_history.specs.declared.event.Event.{Event}
use Rattle.po_history.specs.declared.event.Event.TheVariants.{Issue, Procedure, Cancel, Tick, Finalize, Serve, Break, Expire}
use Rattle.po_engine.specs.WaitingCalls.{is_on, has_number, is_due}
use Rattle.po_engine.specs.ObjectState.{ObjectState, barrier_in}
use Rattle.po_engine.specs.Step.{step, IsLegal, replay}
use Rattle.po_engine.specs.Finding.{IsFound}
use Rattle.po_engine.proofs.Sums.{sum_by-cons}
use Rattle.po_laws.specs.Gathered.{BeginsAnew}
use Rattle.po_classic_units.specs.Meeting.{MeetingState, meeting_meaning, meeting_barrier, new_meeting}

-- what a meeting means
abbrev pub m : Meaning MeetingState ℕ
m = meeting_meaning

-- the states of a protected object that is a meeting
abbrev pub State : Type 0
State = ObjectState MeetingState ℕ

-- Each of the calls is on Wait.
abbrev pub OnWait : List (Call ℕ) → Type 0
OnWait calls = All (λ x. x.entry < 1) calls

is_zero : (n : ℕ) → n < 1 → n ≡ 0
is_zero n h = omega arith

equals : (a b : ℕ) → a ≡ b → (a == b) ≡ true
equals a b h = grind (arith, nat_tests)

differs : (a b : ℕ) → a < b → (a == b) ≡ false
differs a b h = grind (arith, nat_tests)

pub on_wait : (x : Call ℕ) → x.entry < 1 → is_on 0 x ≡ true
on_wait x h = equals x.entry 0 (is_zero x.entry h)

one_more : (x : Call ℕ) (xs : List (Call ℕ)) → x.entry < 1 → count_by (is_on 0) (x ∷ xs) ≡ 1 + count_by (is_on 0) xs
one_more x xs h = sum_by-cons (λ z. if is_on 0 z then 1 else 0) x xs ∙ rw (on_wait x h) refl

pub one_longer : {X : Type 0} (x : X) (xs : List X) → length (x ∷ xs) ≡ 1 + length xs
one_longer x xs = omega arith

-- all that wait are on Wait
pub all_on_wait : (calls : List (Call ℕ)) → OnWait calls → count_by (is_on 0) calls ≡ length calls
all_on_wait [] a = refl
all_on_wait (x ∷ xs) a =
    one_more x xs (All-head (λ y. y.entry < 1) x xs a)
    ∙ (ap (λ k. 1 + k) (all_on_wait xs (All-tail (λ y. y.entry < 1) x xs a)) ∙ sym (one_longer x xs))

pub barrier_is : (s : State) (e : ℕ) → OnWait s.waiting → barrier_in m s e ≡ Ok (meeting_barrier s.unit (length s.waiting))
barrier_is s e a = ap (λ k. Ok (meeting_barrier s.unit k)) (all_on_wait s.waiting a)

-- Wait is closed while fewer wait than a meeting's size
pub closed_below : (u : MeetingState) (size k : ℕ) → u ≡ new_meeting size → k < size → meeting_barrier u k ≡ false
closed_below u size k h lt = ap (λ w. meeting_barrier w k) h ∙ differs k size lt

pub not_both : (r : Result Bool ℕ) → r ≡ Ok true → r ≡ Ok false → ⊥
not_both r h k = let bad : ◌≡◌ {A = Result Bool ℕ} (Ok true) (Ok false) = sym h ∙ k in cc

-- the entry of a call that is found
found_if : (b : Bool) (e : ℕ) (x : Call ℕ) (o : Option (Call ℕ)) → is_on e x ≡ b → x.entry < 1
    → IsSome (if b then Some x else o) → (IsSome o → e ≡ 0) → e ≡ 0
found_if true e x o h lt is k = grind (arith, nat_tests)
found_if false e x o h lt is k = k is

pub found_entry : (e : ℕ) (calls : List (Call ℕ)) → OnWait calls → IsSome (find (is_on e) calls) → e ≡ 0
found_entry e [] a is = cc
found_entry e (x ∷ xs) a is =
    found_if (is_on e x) e x (find (is_on e) xs) refl (All-head (λ y. y.entry < 1) x xs a) is
    (found_entry e xs (All-tail (λ y. y.entry < 1) x xs a))

-- if no call waits, none is found
found_none : (P : Call ℕ → Type 0) (test : Call ℕ → Bool) (w : List (Call ℕ)) → w ≡ [] → IsFound P (find test w) → ⊥
found_none P test [] e h = h
found_none P test (x ∷ xs) e h = cc

some_none : (test : Call ℕ → Bool) (w : List (Call ℕ)) → w ≡ [] → IsSome (find test w) → ⊥
some_none test [] e h = cc
some_none test (x ∷ xs) e h = cc

module _ (limit : Option ℕ) where
  -- if no call waits, no inner event follows
  pub begins_anew : (s : State) (events : List (Event ℕ)) → s.waiting ≡ [] → IsLegal m limit s events
      → BeginsAnew events
  begins_anew s [] w l = tt
  begins_anew s (Issue n owner e v d ∷ es) w l = refl
  begins_anew s (Procedure owner op v reply ∷ es) w l = refl
  begins_anew s (Cancel n ∷ es) w l = refl
  begins_anew s (Tick t ∷ es) w l = refl
  begins_anew s (Finalize ∷ es) w l = refl
  begins_anew s (Serve e ∷ es) w l = absurd (some_none (is_on e) s.waiting w l.0.0)
  begins_anew s (Break e ∷ es) w l = absurd (some_none (is_on e) s.waiting w l.0.0)
  begins_anew s (Expire n ∷ es) w l =
      absurd (found_none (λ x. is_due s.clock x ≡ true) (has_number n) s.waiting w l.0.1)

  -- the rest of a legal history is legal from the state in which it begins
  pub legal_back : (s : State) (es fs : List (Event ℕ)) → IsLegal m limit s (es ++ fs)
      → IsLegal m limit (replay m limit s es) fs
  legal_back s [] fs l = l
  legal_back s (x ∷ es) fs l = legal_back (step m limit s x) es fs l.1
