-- A reconciliation has at most one fault, and none if all agree.
use Rattle.std.proofs.Common.{◌≡◌, ◌<◌, ◌+◌, ◌==◌, ℕ, List, [], ◌∷◌, take, length, map, refl, sym, ap, subst, ◌∙◌, arith, Option, Some, None, inl, inr, ◌⊎◌, ◌↔◌, Result, Ok, Err, zero, suc, if◌then◌else◌}
use Rattle.std.specs.List.{slice_get}
use Rattle.std.proofs.lemmas.Option.{same_Some}
use Rattle.std.proofs.lemmas.Bool.{cases_eq, cond-true, cond-false, eq-eqb, ne_eqb}
use Rattle.po_engine.specs.declared.ended.Ended.{Ended}
use Rattle.po_history.specs.declared.event.Event.{Event}
use Rattle.po_history.specs.Histories.{VolumeView, RunOn}
use Rattle.po_receipts.specs.declared.error.ReconcileError.{ReconcileError}
use Rattle.po_receipts.specs.declared.comparison.Agreed.{Agreed}
use Rattle.po_receipts.specs.declared.error.ReconcileError.TheVariants.{Gap, Mismatch}
use Rattle.po_receipts.specs.Receipts.{receipts_due}
use Rattle.po_receipts.specs.Passes.{PassView}
use Rattle.po_receipts.specs.Agreement.{IsFirstDifference, IsMismatch, gap, history_of, IsAgreed, IsFaultOf}
use Rattle.po_core.specs.Tickets.{CoreView}
use Rattle.po_receipts.proofs.Rounds.{mismatch_disagrees}

some_none : {X : Type 0} (x : X) → Some x ≡ None → ⊥
some_none x same = cc

same_err : (a b : ReconcileError) → ◌≡◌ {A = Result Agreed ReconcileError} (Err a) (Err b) → a ≡ b
same_err a b same = cc

ok_err : (agreed : Agreed) (b : ReconcileError) → ◌≡◌ {A = Result Agreed ReconcileError} (Ok agreed) (Err b) → ⊥
ok_err agreed b same = cc

-- an item among the first ones of a list is at the same place in the list
item_taken : {X : Type 0} (xs : List X) (more place : ℕ) → place < more → slice_get (take more xs) place ≡ slice_get xs place
item_taken xs zero place under = absurd (omega (arith, under))
item_taken [] (suc more) place under = refl
item_taken (x ∷ xs) (suc more) zero under = refl
item_taken (x ∷ xs) (suc more) (suc place) under = item_taken xs more place (omega (arith, under))

not_before : {X : Type 0} (xs ys : List X) (place more : ℕ) → IsFirstDifference xs ys place → IsFirstDifference xs ys more → place < more → ⊥
not_before xs ys place more early late under =
    early.differ (sym (item_taken xs more place under) ∙ (ap (λ zs. slice_get zs place) late.same_before ∙ item_taken ys more place under))

order : (a b : ℕ) → (a ≡ b → ⊥) → (a < b) ⊎ (b < a)
order zero zero ne = absurd (ne refl)
order zero (suc b) ne = inl (omega arith)
order (suc a) zero ne = inr (omega arith)
order (suc a) (suc b) ne = further a b (order a b (λ same. ne (ap suc same)))
  where
    further : (a b : ℕ) → (a < b) ⊎ (b < a) → (suc a < suc b) ⊎ (suc b < suc a)
    further a b (inl less) = inl (omega (arith, less))
    further a b (inr more) = inr (omega (arith, more))

one_place : {X : Type 0} (xs ys : List X) (a b : ℕ) → IsFirstDifference xs ys a → IsFirstDifference xs ys b → a ≡ b
one_place xs ys a b one other = elim (cases_eq a b) [
  | inl same ↦ same
  | inr ne ↦ elim (order a b ne) [
    | inl less ↦ absurd (not_before xs ys a b one other less)
    | inr more ↦ absurd (not_before xs ys b a other one more)
  ]
]

-- a test of two numbers, by its result
by_test : (a b : ℕ) {X : Type 0} (rest : Option X) (x : X) → (if a == b then rest else Some x) ≡ None → (a ≡ b) × (rest ≡ None)
by_test a b rest x none = elim (cases_eq a b) [
  | inl same ↦ (same, sym (cond-true (a == b) rest (Some x) (eq-eqb a b same)) ∙ none)
  | inr ne ↦ absurd (some_none x (sym (cond-false (a == b) rest (Some x) (ne_eqb a b ne)) ∙ none))
]

module _ {V : Type 0} where
  -- if there is no gap, the volumes run on
  pub runs_on : (from : ℕ) (volumes : List (VolumeView V)) (to : ℕ) → gap from volumes to ≡ None → RunOn from volumes to
  runs_on from [] to none = sym (by_test to from None from none).0
  runs_on from (volume ∷ volumes) to none =
      let at = by_test volume.first_place from (gap (from + length volume.events) volumes to) from none in
      (at.0, runs_on (from + length volume.events) volumes to at.1)

  -- if they run on, there is no gap
  no_gap : (from : ℕ) (volumes : List (VolumeView V)) (to : ℕ) → RunOn from volumes to → gap from volumes to ≡ None
  no_gap from [] to runs = cond-true (to == from) None (Some from) (eq-eqb to from (sym runs))
  no_gap from (volume ∷ volumes) to runs =
      cond-true (volume.first_place == from) (gap (from + length volume.events) volumes to) (Some from) (eq-eqb volume.first_place from runs.0)
      ∙ no_gap (from + length volume.events) volumes to runs.1

  not_both : (from : ℕ) (volumes : List (VolumeView V)) (to place : ℕ) → gap from volumes to ≡ Some place → RunOn from volumes to → ⊥
  not_both from volumes to place at runs = some_none place (sym at ∙ no_gap from volumes to runs)

module _ {V : Type 0} (ended : List (Ended V)) (history : List (Event V)) (passes : List (PassView V)) where
  not_lower : (seat place more further : ℕ) → IsMismatch ended history passes seat place → IsMismatch ended history passes more further → seat < more → ⊥
  not_lower seat place more further one other less =
      one.first.differ (ap (λ xs. slice_get xs place) (other.lowest seat one.pass less one.of_seat))

  one_seat : (seat place more further : ℕ) → IsMismatch ended history passes seat place → IsMismatch ended history passes more further → seat ≡ more
  one_seat seat place more further one other = elim (cases_eq seat more) [
    | inl same ↦ same
    | inr ne ↦ elim (order seat more ne) [
      | inl less ↦ absurd (not_lower seat place more further one other less)
      | inr above ↦ absurd (not_lower more further seat place other one above)
    ]
  ]

  one_difference : (seat place further : ℕ) → IsMismatch ended history passes seat place → IsMismatch ended history passes seat further → place ≡ further
  one_difference seat place further one other =
      let same : one.pass ≡ other.pass = same_Some one.pass other.pass (sym one.of_seat ∙ other.of_seat) in
      one_place (map Some other.pass.receipts) (receipts_due ended history seat) place further
      (subst (λ (p : PassView V). IsFirstDifference (map Some p.receipts) (receipts_due ended history seat) place) same one.first)
      other.first

  one_mismatch : (seat place more further : ℕ) → IsMismatch ended history passes seat place → IsMismatch ended history passes more further
      → Mismatch seat place ≡ Mismatch more further
  one_mismatch seat place more further one other =
      let seats = one_seat seat place more further one other in
      let there : IsMismatch ended history passes more place = subst (λ s. IsMismatch ended history passes s place) seats one in
      let places = one_difference more place further there other in
      ap (λ s. Mismatch s place) seats ∙ ap (Mismatch more) places

module _ {S V : Type 0} (core : CoreView S V) (passes : List (PassView V)) (volumes : List (VolumeView V)) where
  one_fault : (a b : ReconcileError) → IsFaultOf core passes volumes a → IsFaultOf core passes volumes b → a ≡ b
  one_fault (Gap p) (Gap q) one other = let same : p ≡ q = same_Some p q (sym one ∙ other) in ap Gap same
  one_fault (Gap p) (Mismatch s q) one other = absurd (not_both core.object.setup.first_place volumes core.object.base.place p one other.0)
  one_fault (Mismatch s p) (Gap q) one other = absurd (not_both core.object.setup.first_place volumes core.object.base.place q other one.0)
  one_fault (Mismatch s p) (Mismatch t q) one other =
      one_mismatch core.object.state.ended (history_of core volumes) passes s p t q one.1 other.1

  pub no_fault : (a : ReconcileError) → IsFaultOf core passes volumes a → IsAgreed core passes volumes → ⊥
  no_fault (Gap p) one agreed = not_both core.object.setup.first_place volumes core.object.base.place p one agreed.whole
  no_fault (Mismatch s p) one agreed =
      mismatch_disagrees core.object.state.ended (history_of core volumes) passes s p one.1 agreed.agree

  -- it is that fault and no other
  pub is_fault : (a : ReconcileError) → IsFaultOf core passes volumes a → (b : ReconcileError)
      → (◌≡◌ {A = Result Agreed ReconcileError} (Err a) (Err b)) ↔ IsFaultOf core passes volumes b
  is_fault a holds b = (λ same. subst (IsFaultOf core passes volumes) (same_err a b same) holds, λ other. ap Err (one_fault a b holds other))

  -- there is no fault
  pub is_none : (agreed : Agreed) → IsAgreed core passes volumes → (b : ReconcileError)
      → (◌≡◌ {A = Result Agreed ReconcileError} (Ok agreed) (Err b)) ↔ IsFaultOf core passes volumes b
  is_none agreed holds b = (λ same. absurd (ok_err agreed b same), λ other. absurd (no_fault b other holds))
