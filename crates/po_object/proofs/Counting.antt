-- How many calls were issued and how many procedures have run, after each command.
use Rattle.std.proofs.Common.{◌≡◌, ℕ, ◌+◌, ap, sym, arith, subst, refl, Result, Bool, true, false, Option, Some, None}
use Rattle.po_unit.specs.Meaning.{Meaning}
use Rattle.po_calls.specs.declared.call.Call.{Call}
use Rattle.po_calls.specs.declared.call.Deadline.{Deadline}
use Rattle.po_history.specs.declared.event.Event.TheVariants.{Issue, Procedure, Cancel, Tick, Finalize}
use Rattle.po_engine.specs.Finding.{IsFound}
use Rattle.po_core.specs.View.{View}
use Rattle.po_core.specs.ProtectedAction.{IsProtectedAction, IsAttemptOnCall, without_event}
use Rattle.po_core.specs.Cutting.{cut}
use Rattle.po_core.proofs.Counting.{action-next, action-ran}
use Rattle.po_object.specs.Counted.{IsCounted}

module _ {S V : Type 0} (m : Meaning S V) where
  pub counted-issue : (old new : View S V) (n owner e : ℕ) (v : V) (d : Deadline) (calls more procedures : ℕ) → IsProtectedAction m old new (Issue n owner e v d) → more ≡ calls + 1 → IsCounted old calls procedures → IsCounted new more procedures
  counted-issue old new n owner e v d calls more procedures a one h = record {
    issued = omega (arith, action-next m old new (Issue n owner e v d) a, h.issued, ap (λ made. made.first_number) a.setup, one);
    ran = omega (arith, action-ran m old new (Issue n owner e v d) a, h.ran);
  }

  pub counted-ran : (old new : View S V) (owner op : ℕ) (v : V) (reply : Result V ℕ) (calls procedures more : ℕ) → IsProtectedAction m old new (Procedure owner op v reply) → more ≡ procedures + 1 → IsCounted old calls procedures → IsCounted new calls more
  counted-ran old new owner op v reply calls procedures more a one h = record {
    issued = omega (arith, action-next m old new (Procedure owner op v reply) a, h.issued, ap (λ made. made.first_number) a.setup);
    ran = omega (arith, action-ran m old new (Procedure owner op v reply) a, h.ran, one);
  }

  pub counted-tick : (old new : View S V) (t calls procedures : ℕ) → IsProtectedAction m old new (Tick t) → IsCounted old calls procedures → IsCounted new calls procedures
  counted-tick old new t calls procedures a h = record {
    issued = omega (arith, action-next m old new (Tick t) a, h.issued, ap (λ made. made.first_number) a.setup);
    ran = omega (arith, action-ran m old new (Tick t) a, h.ran);
  }

  counted-attempt : (old new : View S V) (n calls procedures : ℕ) → IsProtectedAction m old new (Cancel n) → IsCounted old calls procedures → IsCounted new calls procedures
  counted-attempt old new n calls procedures a h = record {
    issued = omega (arith, action-next m old new (Cancel n) a, h.issued, ap (λ made. made.first_number) a.setup);
    ran = omega (arith, action-ran m old new (Cancel n) a, h.ran);
  }

  counted-base : (view : View S V) (calls procedures : ℕ) → IsCounted view calls procedures → IsCounted (cut m view) calls procedures
  counted-base view calls procedures h = record { issued = h.issued; ran = omega (arith, h.ran) }

  -- a cut changes neither count
  pub counted-cut : (old new : View S V) (calls procedures : ℕ) → new ≡ cut m old → IsCounted old calls procedures → IsCounted new calls procedures
  counted-cut old new calls procedures is h = subst (λ view. IsCounted view calls procedures) (sym is) (counted-base old calls procedures h)

  counted-kept : (view : View S V) (calls procedures : ℕ) → IsCounted view calls procedures → IsCounted (without_event view) calls procedures
  counted-kept view calls procedures h = record { issued = h.issued; ran = h.ran }

  counted-mark : (old new : View S V) (n calls procedures : ℕ) (x : Call V) (without_abort aborted : Bool) → x.without_abort ≡ without_abort → x.aborted ≡ aborted → IsAttemptOnCall m old new n x → IsCounted old calls procedures → IsCounted new calls procedures
  counted-mark old new n calls procedures x false aborted s t a h = counted-attempt old new n calls procedures (a.cancelled s) h
  counted-mark old new n calls procedures x true false s t a h = counted-attempt old new n calls procedures (a.marked s t).0 h
  counted-mark old new n calls procedures x true true s t a h =
      subst (λ view. IsCounted view calls procedures) (sym (a.kept s t)) (counted-kept old calls procedures h)

  -- an attempt to cancel a call changes neither count
  pub counted-attempt_of : (old new : View S V) (n calls procedures : ℕ) (o : Option (Call V)) → IsFound (IsAttemptOnCall m old new n) o → IsCounted old calls procedures → IsCounted new calls procedures
  counted-attempt_of old new n calls procedures None a h = absurd a
  counted-attempt_of old new n calls procedures (Some x) a h =
      counted-mark old new n calls procedures x x.without_abort x.aborted refl refl a h

  mark-setup : (old new : View S V) (n : ℕ) (x : Call V) (without_abort aborted : Bool) → x.without_abort ≡ without_abort → x.aborted ≡ aborted → IsAttemptOnCall m old new n x → new.setup ≡ old.setup
  mark-setup old new n x false aborted s t a = (a.cancelled s).setup
  mark-setup old new n x true false s t a = (a.marked s t).0.setup
  mark-setup old new n x true true s t a = ap (λ view. view.setup) (a.kept s t)

  -- nor does it change the declarations
  pub attempt-shape : (old new : View S V) (n : ℕ) (o : Option (Call V)) → IsFound (IsAttemptOnCall m old new n) o → new.setup.shape ≡ old.setup.shape
  attempt-shape old new n None a = absurd a
  attempt-shape old new n (Some x) a = ap (λ made. made.shape) (mark-setup old new n x x.without_abort x.aborted refl refl a)

  -- a finalization changes neither count
  pub counted-final : (old new : View S V) (calls procedures : ℕ) → IsProtectedAction m old new Finalize → IsCounted old calls procedures → IsCounted new calls procedures
  counted-final old new calls procedures a h = record {
    issued = omega (arith, action-next m old new Finalize a, h.issued, ap (λ made. made.first_number) a.setup);
    ran = omega (arith, action-ran m old new Finalize a, h.ran);
  }
