-- If memory is taken for each call and each event, a refusal other than for memory is the one that is stated.
use Rattle.std.proofs.Common.{◌≡◌, ℕ, true, false, sym, ap, ◌∙◌, List, Option, Some, None, unwrap_or}
use Rattle.po_core.specs.declared.refusal.Refusal.{Refusal}
use Rattle.po_core.specs.declared.refusal.Refusal.TheVariants.{OutOfMemory}
use Rattle.po_core.specs.Refusals.{MayRefuse, or_else, if_full, if_uncounted}
use Rattle.po_core.proofs.Refusing.{refused_or_memory, call_or_memory, tick_or_memory, else_none}
use Rattle.po_script.specs.Operations.{is_memory}

stated_or : (o : Option Refusal) (r : Refusal) → r ≡ unwrap_or o OutOfMemory → is_memory r ≡ false → o ≡ Some r
stated_or None r h k = let bad : true ≡ false = ap is_memory (sym h) ∙ k in cc
stated_or (Some q) r h k = ap (λ x. Some x) (sym h)

pub refused_or : (capacity : Option ℕ) (o : Option Refusal) (r : Refusal) → MayRefuse capacity o r → is_memory r ≡ false → o ≡ Some r
refused_or capacity o r h k = stated_or o r (refused_or_memory capacity o r h) k

pub call_refused_or : (capacity : Option ℕ) (o : Option Refusal) (tickets : List (Option ℕ)) (r : Refusal) → capacity ≡ None → MayRefuse capacity (or_else o (if_full capacity tickets)) r → is_memory r ≡ false → o ≡ Some r
call_refused_or capacity o tickets r none h k = stated_or o r (call_or_memory capacity o tickets r none h) k

pub tick_refused_or : (capacity : Option ℕ) (o : Option Refusal) (place : ℕ) (r : Refusal) → capacity ≡ None → MayRefuse capacity (or_else o (if_uncounted capacity place)) r → is_memory r ≡ false → o ≡ Some r
tick_refused_or capacity o place r none h k = stated_or o r (tick_or_memory capacity o place r none h) k

-- if nothing refuses, the state of the object doesn't
pub let_pass : (o other : Option Refusal) → or_else o other ≡ None → o ≡ None
let_pass o other h = (else_none o other h).0
