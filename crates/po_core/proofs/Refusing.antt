-- What a refusal is, if it is known whether the number of calls is fixed.
use Rattle.std.proofs.Common.{◌≡◌, ℕ, List, Option, Some, None, unwrap_or, subst, refl}
use Rattle.po_core.specs.declared.refusal.Refusal.{Refusal}
use Rattle.po_core.specs.declared.refusal.Refusal.TheVariants.{OutOfMemory}
use Rattle.po_core.specs.Refusals.{MayRefuse, or_else, if_full, if_uncounted}

-- the refusal by the state, or else out of memory
pub refused_or_memory : (capacity : Option ℕ) (why : Option Refusal) (r : Refusal) → MayRefuse capacity why r → r ≡ unwrap_or why OutOfMemory
refused_or_memory capacity (Some q) r h = h
refused_or_memory capacity None r h = h.1

-- the refusal of a call, if memory is taken for each
pub call_or_memory : (capacity : Option ℕ) (why : Option Refusal) (tickets : List (Option ℕ)) (r : Refusal) → capacity ≡ None → MayRefuse capacity (or_else why (if_full capacity tickets)) r → r ≡ unwrap_or why OutOfMemory
call_or_memory capacity (Some q) tickets r none h = h
call_or_memory capacity None tickets r none h = refused_or_memory None None r (subst (λ c. MayRefuse c (if_full c tickets) r) none h)

-- the refusal of a tick, if memory is taken for each event
pub tick_or_memory : (capacity : Option ℕ) (why : Option Refusal) (place : ℕ) (r : Refusal) → capacity ≡ None → MayRefuse capacity (or_else why (if_uncounted capacity place)) r → r ≡ unwrap_or why OutOfMemory
tick_or_memory capacity (Some q) place r none h = h
tick_or_memory capacity None place r none h = refused_or_memory None None r (subst (λ c. MayRefuse c (if_uncounted c place) r) none h)

-- if the number of calls is fixed, memory never runs out
pub refused_exactly : (capacity : Option ℕ) (most : ℕ) (why : Option Refusal) (r : Refusal) → capacity ≡ Some most → MayRefuse capacity why r → why ≡ Some r
refused_exactly capacity most (Some q) r fixed h = cc
refused_exactly capacity most None r fixed h = let none = h.0 in cc

-- if neither of two refusals applies, each of them doesn't
pub else_none : (why other : Option Refusal) → or_else why other ≡ None → (why ≡ None) × (other ≡ None)
else_none (Some q) other h = absurd (cc)
else_none None other h = (refl, h)
