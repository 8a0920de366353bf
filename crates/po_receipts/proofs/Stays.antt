-- An answer stays the same as the history goes on.
use Rattle.std.proofs.Common.{◌≡◌, ℕ, List, [], ◌∷◌, ◌++◌, sym, subst, Bool, true, false, Option, Some}
use Rattle.std.specs.Prelude.{find, option_map, if◌then◌else◌}
use mathlib.Core.List.{IsPrefix}
use Rattle.po_unit.specs.Meaning.{Meaning}
use Rattle.po_calls.specs.declared.end.End.{End}
use Rattle.po_history.specs.declared.event.Event.{Event}
use Rattle.po_engine.specs.declared.ended.Ended.{Ended}
use Rattle.po_engine.specs.Ending.{has_ended}
use Rattle.po_engine.specs.ObjectState.{ObjectState, opening_state}
use Rattle.po_engine.specs.Step.{step, replay}
use Rattle.po_core.specs.Setup.{Setup}
use Rattle.po_core.proofs.Ends.{ended_after}
use Rattle.po_core.proofs.Runs.{replay-append}
use Rattle.po_receipts.specs.Receipts.{answer_of}
use Rattle.po_receipts.specs.OneHistory.{state_after, end_in}

by_test : {X Y : Type 0} (g : X → Y) (x : X) (o p : Option X) (y : Y) → (option_map g o ≡ Some y → option_map g p ≡ Some y) → (b : Bool)
    → option_map g (if b then Some x else o) ≡ Some y → option_map g (if b then Some x else p) ≡ Some y
by_test g x o p y on true k = k
by_test g x o p y on false k = on k

found-stays : {X Y : Type 0} (g : X → Y) (t : X → Bool) (xs more : List X) (y : Y) → option_map g (find t xs) ≡ Some y → option_map g (find t (xs ++ more)) ≡ Some y
found-stays g t [] more y h = absurd cc
found-stays g t (x ∷ xs) more y h = by_test g x (find t xs) (find t (xs ++ more)) y (found-stays g t xs more y) (t x) h

module _ {S V : Type 0} (m : Meaning S V) (setup : Setup S) where
  grows : (p : ObjectState S V) (es : List (Event V)) (n : ℕ) (end : End V) → answer_of p.ended n ≡ Some end → answer_of (replay m setup.max_queue p es).ended n ≡ Some end
  grows p [] n end h = h
  grows p (e ∷ es) n end h =
      let g = ended_after m setup.max_queue p e in
      grows (step m setup.max_queue p e) es n end
      (subst (λ (l : List (Ended V)). answer_of l n ≡ Some end) (sym g.is) (found-stays (λ (x : Ended V). x.end) (has_ended n) p.ended g.added end h))

  pub answer-stays : (log after : List (Event V)) (n : ℕ) (end : End V) → IsPrefix log after → end_in m setup log n ≡ Some end → end_in m setup after n ≡ Some end
  answer-stays log after n end p h =
      let start = opening_state setup.opening setup.first_number in
      subst (λ (l : List (Event V)). end_in m setup l n ≡ Some end) p.1
      (subst (λ (s : ObjectState S V). answer_of s.ended n ≡ Some end) (sym (replay-append m setup.max_queue start log p.0)) (grows (state_after m setup log) p.0 n end h))
