-- What is left after the call that was queued first of all is taken.
use Rattle.std.proofs.Common.{ℕ, ◌≡◌, ◌∙◌, List, [], ◌∷◌, drop, Option, Some, None, ap, refl, sym}
use Rattle.std.specs.Prelude.{IfNone}
use Rattle.std.specs.List.{All, slice_get}
use Rattle.std.proofs.lemmas.List.Elements.{All-tail}
use Rattle.po_calls.specs.declared.call.Call.{Call}
use Rattle.po_engine.specs.Arrival.{Increases}
use Rattle.po_engine.specs.Driving.{take_oldest}
use Rattle.po_engine.specs.ObjectState.{ObjectState}

pub rises_left : (places : List ℕ) → Increases places → Increases (drop 1 places)
rises_left [] h = h
rises_left (k ∷ places) h = h.1

pub all_left : (P : ℕ → Type 0) (places : List ℕ) → All P places → All P (drop 1 places)
all_left P [] h = h
all_left P (k ∷ places) h = All-tail P k places h

none_first : (xs : List (Call ℕ)) → slice_get xs 0 ≡ None → xs ≡ []
none_first [] h = refl
none_first (x ∷ xs) h = absurd (cc)

none_taken : (s : ObjectState ℕ ℕ) (xs : List (Call ℕ)) → s.waiting ≡ xs → xs ≡ [] → (take_oldest s ≡ s) × ((take_oldest s).waiting ≡ [])
none_taken s xs is none =
    let empty = is ∙ none in
    let left : drop 1 s.waiting ≡ [] = ap (λ l. drop 1 l) empty in
    (ap (λ l. record s { waiting = l }) (left ∙ sym empty), left)

-- if there is no call, nothing is taken
pub left_same : (s after : ObjectState ℕ ℕ) (r : Option (Call ℕ)) → slice_get s.waiting 0 ≡ r → after ≡ take_oldest s → IfNone r ((after ≡ s) × (after.waiting ≡ []))
left_same s after (Some x) first is = tt
left_same s after None first is = let t = none_taken s s.waiting refl (none_first s.waiting first) in (is ∙ t.0, ap (λ v. v.waiting) is ∙ t.1)
