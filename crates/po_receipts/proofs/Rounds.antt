-- The marks of a round as events are noted.
use Rattle.std.proofs.Common.{◌≡◌, ◌≢◌, ◌<◌, ◌≤◌, ◌+◌, ℕ, List, [], ◌∷◌, ◌++◌, length, map, take, sym, ap, subst, ◌∙◌, arith, Option, Some, Bool, true, false, cond, get_or, set, filter, append-nil, inl, inr}
use Rattle.std.specs.List.{slice_get}
use Rattle.std.proofs.lemmas.Option.{same_Some, slice_get_within}
use Rattle.po_history.proofs.Volumes.{joined-append}
use Rattle.std.proofs.lemmas.Bool.{cases_eq}
use Rattle.std.proofs.lemmas.List.{map-append, length-set, get_or-set_same, get_or-set_other, append_assoc, take_more, take_all}
use Rattle.std.proofs.lemmas.List.Elements.{filter-append}
use Rattle.po_engine.specs.declared.ended.Ended.{Ended}
use Rattle.po_history.specs.declared.event.Event.{Event}
use Rattle.po_history.specs.Histories.{VolumeView, joined}
use Rattle.po_receipts.specs.declared.receipt.Receipt.{Receipt}
use Rattle.po_receipts.specs.declared.mark.Mark.{Mark}
use Rattle.po_receipts.specs.declared.mark.Mark.TheVariants.{Follows}
use Rattle.po_receipts.specs.Passes.{PassView}
use Rattle.po_receipts.specs.Receipts.{is_asked_by, receipt_of, receipts_due}
use Rattle.po_receipts.specs.Agreement.{IsFirstDifference, Agrees, AgreeBelow, AllAgree, IsMismatch}
use Rattle.po_receipts.specs.Marks.{IsMark, AreMarks}

-- one item passes a test, or it doesn't
filter_one : {X : Type 0} (p : X → Bool) (x : X) (b : Bool) → p x ≡ b → filter p (x ∷ []) ≡ cond b (x ∷ []) []
filter_one p x b is = ap (λ t. cond t (x ∷ []) []) is

module _ {V : Type 0} (ended : List (Ended V)) where
  -- the mark of a pass, by its receipts
  pub mark_of : (own : PassView V) (receipts : List (Receipt V)) (due : List (Option (Receipt V))) (mark : Mark) → receipts ≡ own.receipts
      → IsMark (map Some own.receipts) due mark → IsMark (map Some receipts) due mark
  mark_of own receipts due mark of_own is = subst (λ (rs : List (Receipt V)). IsMark (map Some rs) due mark) (sym of_own) is

  -- what more events make due to a seat
  pub due-append : (seen more : List (Event V)) (seat : ℕ)
      → receipts_due ended (seen ++ more) seat ≡ receipts_due ended seen seat ++ receipts_due ended more seat
  due-append seen more seat =
      ap (map (receipt_of ended)) (filter-append (is_asked_by seat) seen more)
      ∙ map-append (receipt_of ended) (filter (is_asked_by seat) seen) (filter (is_asked_by seat) more)

  -- an event of the seat makes one more due
  pub due_asked : (seen : List (Event V)) (event : Event V) (seat : ℕ) → is_asked_by seat event ≡ true
      → receipts_due ended (seen ++ event ∷ []) seat ≡ receipts_due ended seen seat ++ receipt_of ended event ∷ []
  due_asked seen event seat asked =
      due-append seen (event ∷ []) seat
      ∙ ap (λ xs. receipts_due ended seen seat ++ map (receipt_of ended) xs) (filter_one (is_asked_by seat) event true asked)

  -- any other event makes none
  pub due_other : (seen : List (Event V)) (event : Event V) (seat : ℕ) → is_asked_by seat event ≡ false
      → receipts_due ended (seen ++ event ∷ []) seat ≡ receipts_due ended seen seat
  due_other seen event seat other =
      due-append seen (event ∷ []) seat
      ∙ (ap (λ xs. receipts_due ended seen seat ++ map (receipt_of ended) xs) (filter_one (is_asked_by seat) event false other)
      ∙ append-nil (receipts_due ended seen seat))

  module _ (passes : List (PassView V)) (first : ℕ) where
    -- the mark of a pass at an index, after these events
    abbrev Marks : List (Event V) → PassView V → ℕ → Mark → Type 0
    Marks seen pass i mark = IsMark (map Some pass.receipts) (receipts_due ended seen (first + i)) mark

    -- an event of another seat leaves the mark
    marks_stay_at : (seen : List (Event V)) (event : Event V) (mark : Mark) (i : ℕ) (pass : PassView V)
        → is_asked_by (first + i) event ≡ false
        → Marks seen pass i mark
        → Marks (seen ++ event ∷ []) pass i mark
    marks_stay_at seen event mark i pass other is =
        subst (λ due. IsMark (map Some pass.receipts) due mark) (sym (due_other seen event (first + i) other)) is

    -- an event of no seat of the round leaves the marks
    pub marks_stay : (seen : List (Event V)) (event : Event V) (marks : List Mark)
        → ((i : ℕ) → i < length marks → is_asked_by (first + i) event ≡ false)
        → AreMarks ended passes first seen marks
        → AreMarks ended passes first (seen ++ event ∷ []) marks
    marks_stay seen event marks other are i pass within at =
        marks_stay_at seen event (get_or marks i (Follows 0)) i pass (other i within) (are i pass within at)

    -- an event of a seat of the round, whose pass has these receipts, advances that seat's mark
    pub marks_move : (seen : List (Event V)) (event : Event V) (marks : List Mark) (index : ℕ) (mark : Mark) (own : PassView V)
        (receipts : List (Receipt V)) (due : Option (Receipt V))
        → index < length marks
        → is_asked_by (first + index) event ≡ true
        → ((i : ℕ) → i ≢ index → is_asked_by (first + i) event ≡ false)
        → slice_get passes (first + index) ≡ Some own
        → receipts ≡ own.receipts
        → due ≡ receipt_of ended event
        → ((before : List (Option (Receipt V))) → IsMark (map Some receipts) before (get_or marks index (Follows 0))
        → IsMark (map Some receipts) (before ++ due ∷ []) mark)
        → AreMarks ended passes first seen marks
        → AreMarks ended passes first (seen ++ event ∷ []) (set marks index mark)
    marks_move seen event marks index mark own receipts due inside asked others has of_own is_due moves are i pass within at =
        let long : length (set marks index mark) ≡ length marks = length-set marks index mark in
        let after = seen ++ event ∷ [] in
        elim (cases_eq i index) [
          | inl is ↦ (
              let here : slice_get passes (first + index) ≡ Some pass = ap (λ k. slice_get passes (first + k)) (sym is) ∙ at in
              let before = receipts_due ended seen (first + index) in
              let moved = moves before (mark_of own receipts before (get_or marks index (Follows 0)) of_own (are index own inside has)) in
              let noted : Marks after own index mark =
              subst (λ due_after. IsMark (map Some own.receipts) due_after mark)
              (ap (λ (r : Option (Receipt V)). before ++ r ∷ []) is_due ∙ sym (due_asked seen event (first + index) asked))
              (subst (λ (rs : List (Receipt V)). IsMark (map Some rs) (before ++ due ∷ []) mark) of_own moved) in
              let there : Marks after pass index mark =
              subst (λ (p : PassView V). Marks after p index mark) (same_Some own pass (sym has ∙ here)) noted in
              let set_there : Marks after pass index (get_or (set marks index mark) index (Follows 0)) =
              subst (Marks after pass index) (sym (get_or-set_same marks index mark (Follows 0) inside)) there in
              subst (λ k. Marks after pass k (get_or (set marks index mark) k (Follows 0))) (sym is) set_there)
          | inr isnt ↦ (
              let old : Marks after pass i (get_or marks i (Follows 0)) =
              marks_stay_at seen event (get_or marks i (Follows 0)) i pass (others i isnt) (are i pass (omega (arith, long, within)) at) in
              subst (Marks after pass i) (sym (get_or-set_other marks index i mark (Follows 0) isnt)) old)
        ]

-- one more of a list's items, after others
pub seen_more : {X : Type 0} (seen xs : List X) (i : ℕ) (x : X) → i < length xs → x ≡ get_or xs i x
    → seen ++ take (i + 1) xs ≡ (seen ++ take i xs) ++ x ∷ []
seen_more {X} seen xs i x within is =
    ap (λ ys. seen ++ ys) (take_more xs i x within ∙ ap (λ (y : X). take i xs ++ y ∷ []) (sym is))
    ∙ sym (append_assoc seen (take i xs) (x ∷ []))

-- all of them
pub seen_all : {X : Type 0} (seen xs : List X) (i : ℕ) → length xs ≤ i → seen ++ take i xs ≡ seen ++ xs
seen_all seen xs i over = ap (λ ys. seen ++ ys) (take_all i xs over)

-- one more volume
pub joined_more : {V : Type 0} (volumes : List (VolumeView V)) (i : ℕ) (volume : VolumeView V) → i < length volumes
    → volume ≡ get_or volumes i volume
    → joined (take (i + 1) volumes) ≡ joined (take i volumes) ++ volume.events
joined_more {V} volumes i volume within is =
    ap joined (take_more volumes i volume within ∙ ap (λ (v : VolumeView V). take i volumes ++ v ∷ []) (sym is))
    ∙ joined-append (take i volumes) volume

module _ {V : Type 0} (ended : List (Ended V)) (history : List (Event V)) (passes : List (PassView V)) where
  -- the pass of this seat has these receipts
  pub record HasReceipts (seat : ℕ) (receipts : List (Receipt V)) : Type 0 where
    pub pass : PassView V
    pub of_seat : slice_get passes seat ≡ Some pass
    pub is : receipts ≡ pass.receipts

  -- they first differ, and all lower seats agree
  pub differs_first : (seat place : ℕ) (receipts : List (Receipt V)) → HasReceipts seat receipts
      → IsFirstDifference (map Some receipts) (receipts_due ended history seat) place
      → AgreeBelow ended history passes seat
      → IsMismatch ended history passes seat place
  differs_first seat place receipts has first below = record {
    pass = has.pass;
    of_seat = has.of_seat;
    first = subst (λ (rs : List (Receipt V)). IsFirstDifference (map Some rs) (receipts_due ended history seat) place) has.is first;
    lowest = below;
  }

  -- they agree, and so one more seat does
  pub agree_more : (limit : ℕ) (receipts : List (Receipt V)) → HasReceipts limit receipts
      → Agrees ended history limit receipts
      → AgreeBelow ended history passes limit
      → AgreeBelow ended history passes (limit + 1)
  agree_more limit receipts has agrees below seat pass under at =
      elim (cases_eq seat limit) [
        | inl is ↦ (
            let here : slice_get passes limit ≡ Some pass = ap (slice_get passes) (sym is) ∙ at in
            let one : has.pass ≡ pass = same_Some has.pass pass (sym has.of_seat ∙ here) in
            let there : Agrees ended history limit pass.receipts =
            subst (Agrees ended history limit) (has.is ∙ ap (λ (p : PassView V). p.receipts) one) agrees in
            subst (λ k. Agrees ended history k pass.receipts) (sym is) there)
        | inr isnt ↦ below seat pass (omega (arith, under, isnt)) at
      ]

  -- all seats agree
  pub agree_all : (limit : ℕ) → length passes ≤ limit → AgreeBelow ended history passes limit → AllAgree ended history passes
  agree_all limit over below seat pass at =
      let within : seat < length passes = slice_get_within passes seat pass at in
      below seat pass (omega (arith, within, over)) at

  -- if there is a mismatch, not all agree
  pub mismatch_disagrees : (seat place : ℕ) → IsMismatch ended history passes seat place → AllAgree ended history passes → ⊥
  mismatch_disagrees seat place mismatch agree =
      mismatch.first.differ (ap (λ xs. slice_get xs place) (agree seat mismatch.pass mismatch.of_seat))
