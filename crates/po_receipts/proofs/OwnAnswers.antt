-- If the receipts of each seat are those that the history gives it, each answer is the caller's own.
use Rattle.std.proofs.Common.{◌≡◌, ℕ, List, length, refl, sym, ap, subst, ◌∙◌, Option, Some, None, Bool, true}
use Rattle.std.specs.List.{All, slice_get}
use Rattle.std.specs.Prelude.{option_map}
use Rattle.std.proofs.lemmas.Bool.{false≢true, eqb-true}
use Rattle.std.proofs.lemmas.List.{length-map}
use Rattle.std.proofs.lemmas.List.Elements.{All-get_or, filter_passes}
use Rattle.std.proofs.lemmas.Option.{none-some, same_Some, slice_get-map, slice_get_within, get_or_from_slice_get}
use Rattle.po_history.specs.declared.event.Event.{Event}
use Rattle.po_history.specs.declared.event.Event.TheVariants.{Issue, Procedure, Cancel, Tick, Finalize, Serve, Break, Expire}
use Rattle.po_engine.specs.declared.ended.Ended.{Ended}
use Rattle.po_receipts.specs.declared.receipt.Receipt.{Receipt}
use Rattle.po_receipts.specs.declared.receipt.Receipt.TheVariants as R
use Rattle.po_receipts.specs.Passes.{PassView}
use Rattle.po_receipts.specs.Receipts.{is_asked_by, asked_by, answer_of, receipt_of}
use Rattle.po_receipts.specs.Agreement.{Agrees, AllAgree}
use Rattle.po_receipts.specs.Answers.{IsOwnAnswer, AnswersAreOwn}

-- what an option is, by what its map is
record Mapped {X Y : Type 0} (f : X → Y) (o : Option X) (y : Y) : Type 0 where
  item : X
  is : o ≡ Some item
  gives : f item ≡ y

mapped : {X Y : Type 0} (f : X → Y) (o : Option X) (y : Y) → option_map f o ≡ Some y → Mapped f o y
mapped f None y is = absurd (none-some y is)
mapped f (Some x) y is = record { item = x; is = refl; gives = same_Some (f x) y is }

-- an item of a list whose items all pass a test passes it
item_passes : {X : Type 0} (p : X → Bool) (xs : List X) (x : X) (k : ℕ) → slice_get xs k ≡ Some x → All (λ y. p y ≡ true) xs → p x ≡ true
item_passes p xs x k at all =
    subst (λ y. p y ≡ true) (get_or_from_slice_get xs k x x at) (All-get_or (λ y. p y ≡ true) xs k x (slice_get_within xs k x at) all)

module _ {V : Type 0} (ended : List (Ended V)) (history : List (Event V)) where
  -- the receipt that is due for an event of the seat has the seat's own answer
  is_own : (seat place : ℕ) (event : Event V) (receipt : Receipt V)
      → slice_get (asked_by history seat) place ≡ Some event
      → is_asked_by seat event ≡ true
      → receipt_of ended event ≡ Some receipt
      → IsOwnAnswer ended history seat place receipt
  is_own seat place (Issue n owner e v deadline) receipt at asked due =
      let answer = mapped (λ answer. R.Called n e v deadline answer) (answer_of ended n) receipt due in
      let issued : slice_get (asked_by history seat) place ≡ Some (Issue n seat e v deadline) =
      at ∙ ap (λ o. Some (Issue n o e v deadline)) (eqb-true owner seat asked) in
      subst (IsOwnAnswer ended history seat place) answer.gives (issued, answer.is)
  is_own seat place (Procedure owner op v reply) receipt at asked due =
      let ran : slice_get (asked_by history seat) place ≡ Some (Procedure seat op v reply) =
      at ∙ ap (λ o. Some (Procedure o op v reply)) (eqb-true owner seat asked) in
      subst (IsOwnAnswer ended history seat place) (same_Some (R.Ran op v reply) receipt due) ran
  is_own seat place (Cancel n) receipt at asked due = absurd (false≢true asked)
  is_own seat place (Tick t) receipt at asked due = absurd (false≢true asked)
  is_own seat place Finalize receipt at asked due = absurd (false≢true asked)
  is_own seat place (Serve e) receipt at asked due = absurd (false≢true asked)
  is_own seat place (Break e) receipt at asked due = absurd (false≢true asked)
  is_own seat place (Expire n) receipt at asked due = absurd (false≢true asked)

  -- there are as many receipts as the seat asked for calls and procedures
  pub as_many : (seat : ℕ) (receipts : List (Receipt V)) → Agrees ended history seat receipts → length receipts ≡ length (asked_by history seat)
  as_many seat receipts agrees = sym (length-map receipts Some) ∙ (ap length agrees ∙ length-map (asked_by history seat) (receipt_of ended))

  own_at : (seat place : ℕ) (receipts : List (Receipt V)) (receipt : Receipt V) → Agrees ended history seat receipts
      → slice_get receipts place ≡ Some receipt
      → IsOwnAnswer ended history seat place receipt
  own_at seat place receipts receipt agrees filed =
      let asked = asked_by history seat in
      let due : option_map (receipt_of ended) (slice_get asked place) ≡ Some (Some receipt) =
      sym (slice_get-map (receipt_of ended) asked place)
      ∙ (ap (λ xs. slice_get xs place) (sym agrees) ∙ (slice_get-map Some receipts place ∙ ap (option_map Some) filed)) in
      let event = mapped (receipt_of ended) (slice_get asked place) (Some receipt) due in
      is_own seat place event.item receipt event.is
      (item_passes (is_asked_by seat) asked event.item place event.is (filter_passes (is_asked_by seat) history))
      event.gives

  pub own_answers : (passes : List (PassView V)) → AllAgree ended history passes → AnswersAreOwn ended history passes
  own_answers passes agree seat pass of_seat =
      let agrees = agree seat pass of_seat in
      record {
        own = λ place receipt filed. own_at seat place pass.receipts receipt agrees filed;
        each_once = as_many seat pass.receipts agrees;
      }
