-- The totals of a closed object, and the places of its passes.
use Rattle.std.proofs.Common.{subst, sym, ◌≡◌, ℕ, ◌≤◌, List, [], ◌∷◌, ◌++◌, length, sum_by, slice_get, get_or, ◌∙◌, arith, Bool, true, false, cond, Option, Some}
use Rattle.std.specs.List.{All, find}
use Rattle.std.proofs.lemmas.List.Elements.{All-nil, All-cons, All-append, All-head, All-tail}
use Rattle.std.proofs.lemmas.Option.{slice_get_within, slice_get-get_or}
use Rattle.po_unit.specs.Meaning.{Meaning}
use Rattle.po_calls.specs.declared.end.End.{End}
use Rattle.po_history.specs.declared.event.Event.{Event}
use Rattle.po_core.specs.Headline.{Headline}
use Rattle.po_receipts.specs.OneHistory.{IsWholeLog, end_in}
use Rattle.po_receipts.specs.Told.{IsToldOf}
use Rattle.po_receipts.proofs.Closing.{receipts-due}
use Rattle.po_receipts.specs.Passes.{PassView}
use Rattle.po_core.specs.Tickets.{CoreView}
use Rattle.po_object.specs.Counted.{IsCounted}
use Rattle.po_object.specs.Seats.{is_at, OneEach, ArePlaced}
use Rattle.po_receipts.specs.Answers.{HasClosingTotals, AskedBySeats}
use Rattle.po_object.specs.Closing.{IsClosed}
use Rattle.po_object.proofs.Seating.{placed-by_seat, at-seats, sum-by_seat}

module _ {V : Type 0} (end_of : List (Event V) → ℕ → Option (End V)) where
  -- one more pass that knows what happened in the log
  pub told-more : (was log : List (Event V)) (ps : List (PassView V)) (p : PassView V) → was ≡ log → IsToldOf end_of was p → All (IsToldOf end_of log) ps → All (IsToldOf end_of log) (ps ++ p ∷ [])
  told-more was log ps p same told h = All-append (IsToldOf end_of log) ps (p ∷ []) h (All-cons (IsToldOf end_of log) p [] (subst (λ l. IsToldOf end_of l p) same told) (All-nil (IsToldOf end_of log)))

found-all : {X : Type 0} (P : X → Type 0) (f : X → Bool) (b : Bool) (x q : X) (xs : List X) → P x → cond b (Some x) (find f xs) ≡ Some q → (find f xs ≡ Some q → P q) → P q
found-all P f true x q xs h e rest = let same : x ≡ q = cc in subst P same h
found-all P f false x q xs h e rest = rest e

-- the pass that is found among these knows what happened in the log
told-found : {V : Type 0} (f : PassView V → Bool) (end_of : List (Event V) → ℕ → Option (End V)) (log : List (Event V)) (ps : List (PassView V)) (q : PassView V) → find f ps ≡ Some q → All (IsToldOf end_of log) ps → IsToldOf end_of log q
told-found f end_of log [] q e h = absurd (let r : ⊥ = cc in r)
told-found f end_of log (p ∷ ps) q e h =
    found-all (IsToldOf end_of log) f (f p) p q ps (All-head (IsToldOf end_of log) p ps h) e (λ e'. told-found f end_of log ps q e' (All-tail (IsToldOf end_of log) p ps h))

module _ {S V : Type 0} where
  -- the totals of the ledgers are the sums over the passes, and so the sums over the passes by rising seat
  pub closing-totals : (core : CoreView S V) (n calls procedures : ℕ) (ps qs : List (PassView V)) → length ps ≡ n → length qs ≡ n → OneEach n ps → ArePlaced n ps qs → IsCounted core.object calls procedures → calls ≡ sum_by (λ p. p.calls) ps → procedures ≡ sum_by (λ p. p.procedures) ps → HasClosingTotals core qs
  closing-totals core n calls procedures ps qs some len one placed counted made ran = record {
    calls = omega (arith, counted.issued, made, sum-by_seat (λ p. p.calls) n ps qs some len one placed);
    procedures = counted.ran ∙ (ran ∙ sum-by_seat (λ p. p.procedures) n ps qs some len one placed);
  }

  -- with the places of the passes, and what their callers were told
  pub is-closed : (m : Meaning S V) (core : CoreView S V) (n : ℕ) (end_of : List (Event V) → ℕ → Option (End V)) (log : List (Event V)) (ps qs : List (PassView V)) → n ≤ 65_535 → length qs ≡ n → OneEach n ps → ArePlaced n ps qs → HasClosingTotals core qs
      → IsWholeLog m core.object log → AskedBySeats n log → Headline m core.object → end_of ≡ end_in m core.object.setup → All (IsToldOf end_of log) ps → IsClosed m (record { core = core; passes = qs; log = log })
  is-closed m core n end_of log ps qs most len one placed totals whole asked h ends told =
      let sorted = placed-by_seat n ps qs len one placed in
      let by_seat = at-seats n ps qs sorted in
      let others : AskedBySeats (length qs) log = subst (λ k. AskedBySeats k log) (sym len) asked in
      let each : (s : ℕ) (q : PassView V) → slice_get qs s ≡ Some q → IsToldOf end_of log q = λ s q e. told-found (is_at s) end_of log ps q (sym (sorted.1 s (omega (arith, slice_get_within qs s q e, len))) ∙ e) told in
      record {
        seats = omega (arith, most, len);
        at_seats = by_seat;
        totals = totals;
        whole = whole;
        asked = others;
        seen = λ i d lt. (each i (get_or qs i d) (slice_get-get_or qs i d lt)).1.1;
        due = receipts-due m core qs end_of log ends h whole (λ i d lt. (each i (get_or qs i d) (slice_get-get_or qs i d lt)).0) totals others (λ s q e. (by_seat s q e, (each s q e).1));
      }
