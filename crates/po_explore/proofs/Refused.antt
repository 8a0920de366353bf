-- A refusal that is told is the one that is stated.
use Rattle.std.proofs.Common.{◌≡◌, ℕ, Bool, true, false, refl, sym, ap, ◌∙◌, List, Option, Some, None, unwrap_or, if◌then◌else◌}
use Rattle.std.specs.Prelude.{nat_le}
use Rattle.po_engine.specs.Tickets.{uncollected}
use Rattle.po_core.specs.declared.refusal.Refusal.{Refusal}
use Rattle.po_core.specs.declared.refusal.Refusal.TheVariants.{OutOfMemory, TooManyCalls, NumbersSpent}
use Rattle.po_core.specs.Refusals.{MayRefuse, or_else, if_full, if_uncounted}
use Rattle.po_core.proofs.Refusing.{refused_or_memory, else_none}
use Rattle.po_explore.specs.Commands.{is_want}

stated_or : (o : Option Refusal) (r : Refusal) → r ≡ unwrap_or o OutOfMemory → is_want r ≡ false → o ≡ Some r
stated_or None r h k = let bad : true ≡ false = ap is_want (sym h) ∙ k in cc
stated_or (Some q) r h k = ap (λ x. Some x) (sym h)

pub refused_or : (capacity : Option ℕ) (o : Option Refusal) (r : Refusal) → MayRefuse capacity o r → is_want r ≡ false → o ≡ Some r
refused_or capacity o r h k = stated_or o r (refused_or_memory capacity o r h) k

-- the first of two refusals, if the other is for want
first_stated : (o other : Option Refusal) (r : Refusal) → or_else o other ≡ Some r → ((q : Refusal) → other ≡ Some q → is_want q ≡ true) → is_want r ≡ false → o ≡ Some r
first_stated None other r h all k = let bad : true ≡ false = sym (all r h) ∙ k in cc
first_stated (Some q) other r h all k = h

want_by : (b : Bool) (v q : Refusal) → is_want v ≡ true → (if b then Some v else None) ≡ Some q → is_want q ≡ true
want_by true v q w h = let same : v ≡ q = cc in ap is_want (sym same) ∙ w
want_by false v q w h = let bad : None ≡ Some q = h in cc

full_is_want : (capacity : Option ℕ) (tickets : List (Option ℕ)) (q : Refusal) → if_full capacity tickets ≡ Some q → is_want q ≡ true
full_is_want None tickets q h = let bad : None ≡ Some q = h in cc
full_is_want (Some most) tickets q h = want_by (nat_le most (uncollected tickets)) TooManyCalls q refl h

uncounted_is_want : (capacity : Option ℕ) (place : ℕ) (q : Refusal) → if_uncounted capacity place ≡ Some q → is_want q ≡ true
uncounted_is_want None place q h = let bad : None ≡ Some q = h in cc
uncounted_is_want (Some most) place q h = want_by (nat_le 18_446_744_073_709_551_615 place) NumbersSpent q refl h

pub call_refused_or : (capacity : Option ℕ) (o : Option Refusal) (tickets : List (Option ℕ)) (r : Refusal) → MayRefuse capacity (or_else o (if_full capacity tickets)) r → is_want r ≡ false → o ≡ Some r
call_refused_or capacity o tickets r h k =
    first_stated o (if_full capacity tickets) r (refused_or capacity (or_else o (if_full capacity tickets)) r h k) (full_is_want capacity tickets) k

pub tick_refused_or : (capacity : Option ℕ) (o : Option Refusal) (place : ℕ) (r : Refusal) → MayRefuse capacity (or_else o (if_uncounted capacity place)) r → is_want r ≡ false → o ≡ Some r
tick_refused_or capacity o place r h k =
    first_stated o (if_uncounted capacity place) r (refused_or capacity (or_else o (if_uncounted capacity place)) r h k) (uncounted_is_want capacity place) k

-- if nothing refuses, the state of the object doesn't
pub let_pass : (o other : Option Refusal) → or_else o other ≡ None → o ≡ None
let_pass o other h = (else_none o other h).0
