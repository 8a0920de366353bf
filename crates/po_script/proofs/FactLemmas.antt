-- What is sure to be refused is refused.
use Rattle.std.proofs.Common.{◌≡◌, ℕ, Bool, true, false, cond, leb, Option, Some, None, Result, Ok, Err, ap}
use Rattle.po_unit.specs.Meaning.{Meaning}
use Rattle.po_unit.specs.declared.decl.Decl.{Decl}
use Rattle.po_unit.specs.declared.error.IndexError.{IndexError}
use Rattle.po_unit.specs.Numbering.{flat_number}
use Rattle.po_core.specs.declared.refusal.Refusal.{Refusal}
use Rattle.po_core.specs.declared.refusal.Refusal.TheVariants.{PrivateEntry, NoSuchOperation}
use Rattle.po_core.specs.Refusals.{if_private, if_unindexed}
use Rattle.po_core.specs.View.{View}
use Rattle.std.specs.List.{slice_get}
use Rattle.po_language.specs.declared.command.Operation.{Operation}
use Rattle.po_language.specs.declared.command.Operation.TheVariants.{Call, Procedure, Function, Cancel, Tick, Finalize, Show}
use Rattle.po_script.specs.Facts.{Facts, AreFacts, sure_refusal, RefusesSurely}
use Rattle.po_script.specs.Operations.{refusal_of, view_by, lines_by, done, done_lines}

public_case : (b : Bool) (other : Option Refusal) (r : Refusal) → cond b None (Some PrivateEntry) ≡ Some r → cond b other (Some PrivateEntry) ≡ Some r
public_case true other r e = absurd cc
public_case false other r e = e

entry_case : (d : Option Decl) (f : Result ℕ IndexError) (other : Option Refusal) (r : Refusal) → if_private d (if_unindexed f None) ≡ Some r → if_private d (if_unindexed f other) ≡ Some r
entry_case None f other r e = e
entry_case (Some d) (Err fault) other r e = e
entry_case (Some d) (Ok n) other r e = public_case d.public other r e

number_case : (b : Bool) (other : Option Refusal) (r : Refusal) → cond b (Some NoSuchOperation) None ≡ Some r → cond b (Some NoSuchOperation) other ≡ Some r
number_case true other r e = e
number_case false other r e = absurd cc

module _ {S : Type 0} (m : Meaning S ℕ) (facts : Facts) where
  met : (view : View S ℕ) → AreFacts m facts view → (operation : Operation) (r : Refusal) → sure_refusal facts operation ≡ Some r → refusal_of m view operation ≡ Some r
  met view are (Call entry value deadline) r e = rw (are.shape) (entry_case (slice_get facts.shape entry.declaration) (flat_number facts.shape entry) _ r e)
  met view are (Procedure op value) r e = rw (are.procedures) (number_case (leb facts.procedure_count op) _ r e)
  met view are (Function op value) r e = rw (are.functions) (number_case (leb facts.function_count op) _ r e)
  met view are (Cancel n) r e = absurd cc
  met view are (Tick time) r e = absurd cc
  met view are Finalize r e = absurd cc
  met view are Show r e = absurd cc

  pub refuses_surely : (operation : Operation) → RefusesSurely m facts operation
  refuses_surely (Call entry value deadline) = λ view are r e.
      let q = met view are (Call entry value deadline) r e in
      (q, ap (λ (o : Option Refusal). view_by o view (done m view (Call entry value deadline))) q, λ names. ap (λ (o : Option Refusal). lines_by o (done_lines m view (Call entry value deadline))) q)
  refuses_surely (Procedure op value) = λ view are r e.
      let q = met view are (Procedure op value) r e in
      (q, ap (λ (o : Option Refusal). view_by o view (done m view (Procedure op value))) q, λ names. ap (λ (o : Option Refusal). lines_by o (done_lines m view (Procedure op value))) q)
  refuses_surely (Function op value) = λ view are r e.
      let q = met view are (Function op value) r e in
      (q, ap (λ (o : Option Refusal). view_by o view (done m view (Function op value))) q, λ names. ap (λ (o : Option Refusal). lines_by o (done_lines m view (Function op value))) q)
  refuses_surely (Cancel n) = λ view are r e. absurd cc
  refuses_surely (Tick time) = λ view are r e. absurd cc
  refuses_surely Finalize = λ view are r e. absurd cc
  refuses_surely Show = λ view are r e. absurd cc
