-- What refuses a command now refuses it at the end of the object's log, and what a function gives now it gives there.
use Rattle.std.proofs.Common.{◌≡◌, ◌⊎◌, ℕ, ◌<◌, List, refl, sym, subst, Bool, Option, Some, None, Result, Ok, Err, nat_le, if◌then◌else◌}
use Rattle.std.specs.Prelude.{find, unwrap_or, option_map, IfOk, IfErr, OnOk, MatchResult}
use mathlib.Core.List.{IsPrefix}
use Rattle.po_unit.specs.Meaning.{Meaning}
use Rattle.po_unit.specs.declared.decl.EntryRef.{EntryRef}
use Rattle.po_history.specs.declared.event.Event.{Event}
use Rattle.po_engine.specs.Finding.{IsFound}
use Rattle.po_engine.specs.WaitingCalls.{is_of}
use Rattle.po_engine.specs.ObjectState.{ObjectState, counts_in}
use Rattle.po_core.specs.Setup.{Setup}
use Rattle.po_core.specs.View.{View, next_place}
use Rattle.po_core.specs.Headline.{Headline}
use Rattle.po_core.specs.declared.refusal.Refusal.{Refusal}
use Rattle.po_core.specs.declared.refusal.Refusal.TheVariants.{NoSuchOperation, NumbersSpent, OutOfMemory}
use Rattle.po_core.specs.Refusals.{entry_refusal, or_else, if_finalized, issue_refusal, procedure_refusal, function_refusal, finalized_refusal, cut_refusal}
use Rattle.po_receipts.specs.OneHistory.{IsWholeLog, HoldsAt, IsFunctionAt, view_after}
use Rattle.po_receipts.proofs.OneHistory.{whole-leads, log-counted, held-on, read-on}
use Rattle.po_object.specs.Refused.{IsOutOfMemory, IsTickRefusalOf}

-- if the result is nothing, there was nothing
pub unqueued : {X Y : Type 0} (f : X → Y) (o : Option X) → None ≡ option_map f o → o ≡ None
unqueued f None is = refl
unqueued f (Some x) is = cc

module _ {S V : Type 0} (m : Meaning S V) (made : Option (Setup S)) (view : View S V) (seen log after : List (Event V)) (is : made ≡ Some view.setup) (h : Headline m view) (w : IsWholeLog m view log)
    (later : IsPrefix seen log) (all : after ≡ log) where
  now : view.state ≡ (view_after m view.setup log).state
  now = sym (whole-leads m view log h w)

  here : next_place view ≡ next_place (view_after m view.setup log)
  here = sym (log-counted m view log w)

  -- a call
  pub issue-refused : (bounded : Bool) (entry : EntryRef) (r : Refusal) → IsOutOfMemory bounded r ⊎ (issue_refusal view entry ≡ Some r)
      → IsFound (λ setup. HoldsAt m setup (λ v. IsOutOfMemory bounded r ⊎ (issue_refusal v entry ≡ Some r)) seen after) made
  issue-refused bounded entry r refused =
      held-on m made view (λ v. IsOutOfMemory bounded r ⊎ (issue_refusal v entry ≡ Some r)) seen log after is h w later all
      (subst (λ (s : ObjectState S V). IsOutOfMemory bounded r ⊎ (entry_refusal view.setup.shape entry (if_finalized s (if nat_le 18_446_744_073_709_551_615 s.next then Some NumbersSpent else None)) ≡ Some r)) now refused)

  -- a procedure
  pub run-refused : (bounded : Bool) (op : ℕ) (r : Refusal) → IsOutOfMemory bounded r ⊎ (procedure_refusal m view op ≡ Some r)
      → IsFound (λ setup. HoldsAt m setup (λ v. IsOutOfMemory bounded r ⊎ (procedure_refusal m v op ≡ Some r)) seen after) made
  run-refused bounded op r refused =
      held-on m made view (λ v. IsOutOfMemory bounded r ⊎ (procedure_refusal m v op ≡ Some r)) seen log after is h w later all
      (subst (λ (t : ObjectState S V × ℕ). IsOutOfMemory bounded r ⊎ ((if nat_le (m.procedures t.0.unit) op then Some NoSuchOperation else if_finalized t.0 (if nat_le 18_446_744_073_709_551_615 t.1 then Some NumbersSpent else None)) ≡ Some r)) (λ i. (now i, here i)) refused)

  -- a function
  pub read-refused : (op : ℕ) (r : Refusal) → function_refusal m view op ≡ Some r → IsFound (λ setup. HoldsAt m setup (λ v. function_refusal m v op ≡ Some r) seen after) made
  read-refused op r refused =
      held-on m made view (λ v. function_refusal m v op ≡ Some r) seen log after is h w later all
      (subst (λ (s : ObjectState S V). (if nat_le (m.functions s.unit) op then Some NoSuchOperation else if_finalized s None) ≡ Some r) now refused)

  -- whatever the function returned
  pub read-given : (op : ℕ) (value : V) (r : Result (Result V ℕ) Refusal) → IfOk r (λ reply. reply ≡ m.function view.state.unit op value (counts_in m view.state)) → OnOk r (op < m.functions view.state.unit)
      → IfOk r (λ reply. IsFound (λ setup. IsFunctionAt m setup op value reply seen after) made)
  read-given op value (Ok reply) at has = read-on m made view op value reply seen log after is h w later all has at
  read-given op value (Err why) at has = tt

  pub read-refused-by : (op : ℕ) (r : Result (Result V ℕ) Refusal) → MatchResult r (λ _. function_refusal m view op ≡ None) (λ why. function_refusal m view op ≡ Some why)
      → IfErr r (λ why. IsFound (λ setup. HoldsAt m setup (λ v. function_refusal m v op ≡ Some why) seen after) made)
  read-refused-by op (Ok reply) refused = tt
  read-refused-by op (Err why) refused = read-refused op why refused

  -- both, for a caller that has seen nothing before, by some history
  pub first-given : (op : ℕ) (value : V) (r : Result (Result V ℕ) Refusal) → IfOk r (λ reply. reply ≡ m.function view.state.unit op value (counts_in m view.state)) → OnOk r (op < m.functions view.state.unit)
      → IfOk r (λ reply. (l : List (Event V)) × IsFound (λ setup. IsFunctionAt m setup op value reply seen l) made)
  first-given op value (Ok reply) at has = (after, read-given op value (Ok reply) at has)
  first-given op value (Err why) at has = tt

  pub first-refused : (op : ℕ) (r : Result (Result V ℕ) Refusal) → MatchResult r (λ _. function_refusal m view op ≡ None) (λ why. function_refusal m view op ≡ Some why)
      → IfErr r (λ why. (l : List (Event V)) × IsFound (λ setup. HoldsAt m setup (λ v. function_refusal m v op ≡ Some why) seen l) made)
  first-refused op (Ok reply) refused = tt
  first-refused op (Err why) refused = (after, read-refused op why refused)

  -- a finalization
  pub final-refused : (r : Refusal) → finalized_refusal view ≡ Some r → IsFound (λ setup. HoldsAt m setup (λ v. finalized_refusal v ≡ Some r) seen after) made
  final-refused r refused =
      held-on m made view (λ v. finalized_refusal v ≡ Some r) seen log after is h w later all
      (subst (λ (s : ObjectState S V). if_finalized s None ≡ Some r) now refused)

  -- a tick
  pub tick-refused-at : (bounded : Bool) (r : Refusal) → IsTickRefusalOf bounded view r → IsFound (λ setup. HoldsAt m setup (λ v. IsTickRefusalOf bounded v r) seen after) made
  tick-refused-at bounded r refused =
      held-on m made view (λ v. IsTickRefusalOf bounded v r) seen log after is h w later all
      (subst (λ (t : ObjectState S V × ℕ). IsOutOfMemory bounded r ⊎ (or_else (if_finalized t.0 None) (if bounded then (if nat_le 18_446_744_073_709_551_615 t.1 then Some NumbersSpent else None) else None) ≡ Some r)) (λ i. (now i, here i)) refused)

  -- a cut
  pub cut-refused : (r : Refusal) → r ≡ unwrap_or (cut_refusal view) OutOfMemory → IsFound (λ setup. HoldsAt m setup (λ v. r ≡ unwrap_or (cut_refusal v) OutOfMemory) seen after) made
  cut-refused r refused =
      held-on m made view (λ v. r ≡ unwrap_or (cut_refusal v) OutOfMemory) seen log after is h w later all
      (subst (λ (n : ℕ). r ≡ unwrap_or (if nat_le 18_446_744_073_709_551_615 n then Some NumbersSpent else None) OutOfMemory) here refused)

  -- an attempt to cancel a seat's call
  pub none-queued : (seat : ℕ) → find (is_of seat) view.state.waiting ≡ None → IsFound (λ setup. HoldsAt m setup (λ v. find (is_of seat) v.state.waiting ≡ None) seen after) made
  none-queued seat none =
      held-on m made view (λ v. find (is_of seat) v.state.waiting ≡ None) seen log after is h w later all
      (subst (λ (s : ObjectState S V). find (is_of seat) s.waiting ≡ None) now none)
