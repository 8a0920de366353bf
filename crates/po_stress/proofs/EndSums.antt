-- What the numbers of a report add up to if the receipts of all seats agree with the history.
use Rattle.std.proofs.Common.{◌≡◌, ◌<◌, ◌+◌, ◌*◌, ℕ, List, [], ◌∷◌, map, length, drop, refl, sym, ap, ◌∙◌, arith, Option, Some, None, Bool, true, false, cond, get_or}
use Rattle.std.specs.List.{All, slice_get, count_by, sum_by, filter}
use Rattle.std.specs.Option.{IfSome}
use Rattle.std.specs.Prelude.{is_some, option_map}
use Rattle.std.proofs.Math.Nat.{zero-mul, suc-mul}
use Rattle.std.proofs.lemmas.Bool.{true≢false, false≢true, eq-eqb}
use Rattle.std.proofs.lemmas.List.Elements.{All-nil, All-cons, All-head, All-tail}
use Rattle.std.proofs.lemmas.List.Sums.{sum_by-cons}
use Rattle.std.proofs.lemmas.Option.{slice_get-get_or}
use Rattle.po_calls.specs.declared.end.End.{End}
use Rattle.po_calls.specs.declared.end.End.TheVariants.{Completed, Raised, Cancelled, ProgramError}
use Rattle.po_history.specs.declared.event.Event.{Event}
use Rattle.po_history.specs.declared.event.Event.TheVariants.{Issue, Procedure, Cancel, Tick, Finalize, Serve, Break, Expire}
use Rattle.po_engine.specs.declared.ended.Ended.{Ended}
use Rattle.po_core.specs.Base.{is_issue}
use Rattle.po_receipts.specs.declared.receipt.Receipt.TheVariants as R
use Rattle.po_receipts.specs.Passes.{PassView, fresh}
use Rattle.po_receipts.specs.Receipts.{is_asked_by, answer_of, receipt_of}
use Rattle.po_receipts.specs.Agreement.{AllAgree}
use Rattle.po_receipts.specs.Answers.{asker_of, HasNoOthers}
use Rattle.po_stress.specs.Counts.{is_answered_as, issues_ended}
use Rattle.po_stress.specs.declared.counting.Ending.TheVariants.{Done, GivenUp, Failed}

-- how much one test adds to a count
abbrev pub one_if : Bool → ℕ
one_if b = cond b 1 0

-- If the items filed are those due for the elements of a list that pass a test, an item is due for each of these elements.
module _ {X Y : Type 0} (p : X → Bool) (f : X → Option Y) where
  abbrev IsDue : X → Type 0
  IsDue x = p x ≡ true → is_some (f x) ≡ true

  due_first : (x : X) (xs : List X) → ((ys : List Y) → map Some ys ≡ map f (filter p xs) → All IsDue xs)
      → (b : Bool) → p x ≡ b → (ys : List Y) → map Some ys ≡ map f (cond b (x ∷ filter p xs) (filter p xs)) → All IsDue (x ∷ xs)
  due_first x xs rest false fails ys filed =
      All-cons IsDue x xs (λ passes. absurd (true≢false (sym passes ∙ fails))) (rest ys filed)
  due_first x xs rest true passes [] filed = absurd (omega (arith, ap length filed))
  due_first x xs rest true passes (y ∷ ys) filed =
      All-cons IsDue x xs (λ again. sym (ap (λ os. is_some (get_or os 0 None)) filed)) (rest ys (ap (drop 1) filed))

  each_due : (xs : List X) (ys : List Y) → map Some ys ≡ map f (filter p xs) → All IsDue xs
  each_due [] ys filed = All-nil IsDue
  each_due (x ∷ xs) ys filed = due_first x xs (each_due xs) (p x) refl ys filed

-- something is due for an answer only if there is one
due_answer : {X Y : Type 0} (f : X → Y) (o : Option X) → is_some (option_map f o) ≡ true → is_some o ≡ true
due_answer f None due = due
due_answer f (Some x) due = refl

module _ {V : Type 0} where
  -- an answer is of one of the three kinds
  one_ending : (o : Option (End V)) → is_some o ≡ true
      → one_if (is_answered_as Done o) + one_if (is_answered_as GivenUp o) + one_if (is_answered_as Failed o) ≡ 1
  one_ending None is = absurd (false≢true is)
  one_ending (Some (Completed v)) is = refl
  one_ending (Some (Raised k)) is = refl
  one_ending (Some Cancelled) is = refl
  one_ending (Some ProgramError) is = refl

module _ {V : Type 0} (ended : List (Ended V)) where
  -- if the event issues a call, that call has ended
  abbrev HasEnded : Event V → Type 0
  HasEnded (Issue n owner e v deadline) = is_some (answer_of ended n) ≡ true
  HasEnded other = Unit {0}

  -- a receipt is due for the event if this seat asked for it
  abbrev IsDueTo : ℕ → Event V → Type 0
  IsDueTo seat = IsDue (is_asked_by seat) (receipt_of ended)

  -- if a seat asked for the event, it is one of the first `limit` seats
  abbrev IsAskedBelow : ℕ → Event V → Type 0
  IsAskedBelow limit event = IfSome (asker_of event) (λ seat. seat < limit)

  event_ended : (limit : ℕ) (event : Event V) → ((seat : ℕ) → seat < limit → IsDueTo seat event) → IsAskedBelow limit event → HasEnded event
  event_ended limit (Issue n owner e v deadline) due below =
      due_answer (λ answer. R.Called n e v deadline answer) (answer_of ended n) (due owner below (eq-eqb owner owner refl))
  event_ended limit (Procedure owner op v reply) due below = tt
  event_ended limit (Cancel n) due below = tt
  event_ended limit (Tick t) due below = tt
  event_ended limit Finalize due below = tt
  event_ended limit (Serve e) due below = tt
  event_ended limit (Break e) due below = tt
  event_ended limit (Expire n) due below = tt

  all_ended : (limit : ℕ) (events : List (Event V)) → ((seat : ℕ) → seat < limit → All (IsDueTo seat) events)
      → All (IsAskedBelow limit) events
      → All HasEnded events
  all_ended limit [] due below = All-nil HasEnded
  all_ended limit (event ∷ events) due below =
      All-cons HasEnded event events
      (event_ended limit event (λ seat under. All-head (IsDueTo seat) event events (due seat under)) (All-head (IsAskedBelow limit) event events below))
      (all_ended limit events (λ seat under. All-tail (IsDueTo seat) event events (due seat under)) (All-tail (IsAskedBelow limit) event events below))

  event_counted : (event : Event V) → HasEnded event
      → one_if (issues_ended Done ended event) + one_if (issues_ended GivenUp ended event) + one_if (issues_ended Failed ended event) ≡ one_if (is_issue event)
  event_counted (Issue n owner e v deadline) is = one_ending (answer_of ended n) is
  event_counted (Procedure owner op v reply) is = refl
  event_counted (Cancel n) is = refl
  event_counted (Tick t) is = refl
  event_counted Finalize is = refl
  event_counted (Serve e) is = refl
  event_counted (Break e) is = refl
  event_counted (Expire n) is = refl

  all_counted : (events : List (Event V)) → All HasEnded events
      → count_by (issues_ended Done ended) events + count_by (issues_ended GivenUp ended) events + count_by (issues_ended Failed ended) events
      ≡ count_by is_issue events
  all_counted [] are = refl
  all_counted (event ∷ events) are =
      let a = sum_by-cons (λ x. one_if (issues_ended Done ended x)) event events in
      let b = sum_by-cons (λ x. one_if (issues_ended GivenUp ended x)) event events in
      let d = sum_by-cons (λ x. one_if (issues_ended Failed ended x)) event events in
      let e = sum_by-cons (λ x. one_if (is_issue x)) event events in
      let here = event_counted event (All-head HasEnded event events are) in
      let rest = all_counted events (All-tail HasEnded event events are) in
      omega (arith, a, b, d, e, here, rest)

  -- if all answers agree with the history, and only seats asked for calls, each call ended in one of the three ways
  pub ends_add_up : (events : List (Event V)) (passes : List (PassView V)) → AllAgree ended events passes → HasNoOthers events passes
      → count_by (issues_ended Done ended) events + count_by (issues_ended GivenUp ended) events + count_by (issues_ended Failed ended) events
      ≡ count_by is_issue events
  ends_add_up events passes agree asked =
      let due : (seat : ℕ) → seat < length passes → All (IsDueTo seat) events =
      λ seat under.
      let pass = get_or passes seat (fresh 0) in
      let of_seat : slice_get passes seat ≡ Some pass = slice_get-get_or passes seat (fresh 0) under in
      each_due (is_asked_by seat) (receipt_of ended) events pass.receipts (agree seat pass of_seat) in
      all_counted events (all_ended (length passes) events due asked)

-- passes that all counted the same number
pub same_tallies : {V : Type 0} (calls : ℕ) (passes : List (PassView V)) → All (λ pass. pass.calls ≡ calls) passes
    → sum_by (λ pass. pass.calls) passes ≡ length passes * calls
same_tallies calls [] same = sym (zero-mul calls)
same_tallies calls (pass ∷ passes) same =
    let a = sum_by-cons (λ (p : PassView _). p.calls) pass passes in
    let here = All-head (λ (p : PassView _). p.calls ≡ calls) pass passes same in
    let rest = same_tallies calls passes (All-tail (λ (p : PassView _). p.calls ≡ calls) pass passes same) in
    let more = suc-mul (length passes) calls in
    omega (arith, a, here, rest, more)
