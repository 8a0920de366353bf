-- How a mark goes on as more becomes due, and what it says in the end.
use Rattle.std.proofs.Common.{◌≡◌, ◌≢◌, ◌<◌, ◌≤◌, ◌+◌, ℕ, zero, suc, List, [], ◌∷◌, ◌++◌, length, take, refl, sym, ap, ◌∙◌, arith, Some, None, get_or}
use Rattle.std.specs.List.{slice_get}
use Rattle.std.proofs.lemmas.List.{take_all, take_at, take-append-le, take_more, length-append, length_push}
use Rattle.std.proofs.lemmas.Option.{slice_get_past, slice_get_within, get_or_from_slice_get}
use Rattle.po_receipts.specs.declared.mark.Mark.TheVariants.{Follows, Differs}
use Rattle.po_receipts.specs.Agreement.{IsFirstDifference}
use Rattle.po_receipts.specs.Marks.{IsMark}

module _ {X : Type 0} where
  -- an item of the first of two lists
  pub item_left : (xs ys : List X) (i : ℕ) → i < length xs → slice_get (xs ++ ys) i ≡ slice_get xs i
  item_left [] ys i within = absurd (omega (arith, within))
  item_left (x ∷ xs) ys zero within = refl
  item_left (x ∷ xs) ys (suc i) within = item_left xs ys i (omega (arith, within))

  -- the item at the seam
  pub item_seam : (xs : List X) (y : X) (ys : List X) → slice_get (xs ++ y ∷ ys) (length xs) ≡ Some y
  item_seam [] y ys = refl
  item_seam (x ∷ xs) y ys = item_seam xs y ys

  -- there is an item at each index within a list
  filed_is_not_over : (xs : List X) (i : ℕ) → i < length xs → slice_get xs i ≢ None
  filed_is_not_over [] i within = absurd (omega (arith, within))
  filed_is_not_over (x ∷ xs) zero within = λ same. cc
  filed_is_not_over (x ∷ xs) (suc i) within = filed_is_not_over xs i (omega (arith, within))

  -- the receipt that is filed next is the one that is due
  pub follows_on : (filed due : List X) (place : ℕ) (x : X) → IsMark filed due (Follows place)
      → slice_get filed place ≡ Some x
      → IsMark filed (due ++ x ∷ []) (Follows (place + 1))
  follows_on filed due place x mark here =
      let within : place < length filed = slice_get_within filed place x here in
      let long : length (due ++ x ∷ []) ≡ length due + 1 = length_push due x in
      let there : get_or filed place x ≡ x = get_or_from_slice_get filed place x x here in
      let at = mark.0 in
      let more : take (place + 1) filed ≡ take place filed ++ get_or filed place x ∷ [] = take_more filed place x within in
      let front : take place filed ≡ due = mark.1 in
      (omega (arith, long, at), more ∙ rw (there, front))

  -- it isn't, or none is filed
  pub differs_here : (filed due : List X) (place : ℕ) (x : X) → IsMark filed due (Follows place)
      → slice_get filed place ≢ Some x
      → IsMark filed (due ++ x ∷ []) (Differs place)
  differs_here filed due place x mark other =
      let long : length (due ++ x ∷ []) ≡ length due + 1 = length_push due x in
      let at = mark.0 in (
        omega (arith, long, at),
        record {
          same_before = mark.1 ∙ sym (take_at due (x ∷ []) place (sym at));
          differ = λ same. other (same ∙ (ap (λ k. slice_get (due ++ x ∷ []) k) at ∙ item_seam due x []));
        },
      )

  -- the first difference stays the first
  pub differs_still : (filed due more : List X) (place : ℕ) → IsMark filed due (Differs place)
      → IsMark filed (due ++ more) (Differs place)
  differs_still filed due more place mark =
      let within = mark.0 in
      let long : length (due ++ more) ≡ length due + length more = length-append due more in (
        omega (arith, long, within),
        record {
          same_before = mark.1.same_before ∙ sym (take-append-le place due more (omega (arith, within)));
          differ = λ same. mark.1.differ (same ∙ item_left due more place within);
        },
      )

  -- all that is filed is due
  pub follows_all : (filed due : List X) (place : ℕ) → IsMark filed due (Follows place) → length filed ≤ place → filed ≡ due
  follows_all filed due place mark over = sym (take_all place filed over) ∙ mark.1

  -- more is filed than is due
  pub follows_short : (filed due : List X) (place : ℕ) → IsMark filed due (Follows place) → place < length filed
      → IsFirstDifference filed due place
  follows_short filed due place mark within =
      let at = mark.0 in
      let past : slice_get due place ≡ None = slice_get_past due place (omega (arith, at)) in
      let past_due : length due ≤ place = omega (arith, at) in
      record {
        same_before = mark.1 ∙ sym (take_all place due past_due);
        differ = λ same. filed_is_not_over filed place within (same ∙ past);
      }
