-- SPDX-License-Identifier: MIT
-- What expressions give. In each definition, d is the object's data, l the slots of all frames, b the slot with which the frame
-- of the operation begins, and c the counts: for each entry, how many calls are queued on it.
use Rattle.std.specs.Prelude.{ℕ, ◌+◌, ◌-◌, ◌*◌, ◌^◌, Bool, cond, ◌&&◌, List, Option, Some, None, Result, Ok, Err, ℤ, pos, ◌-ℤ◌, nat_abs, int_lt, int_le, nat_lt, slice_get}
use Rattle.std.specs.Ordering.{int_eq}
use Rattle.po_program.specs.declared.tree.Range.{Range}
use Rattle.po_program.specs.declared.tree.Area.{Area}
use Rattle.po_program.specs.declared.tree.Area.TheVariants.{Object, Frame}
use Rattle.po_program.specs.declared.tree.Expr.{Expr}
use Rattle.po_program.specs.declared.tree.Expr.TheVariants.{Number, Cell, CellAt', Index', Count, CountAt', Unary', Binary', AndThen', OrElse', If', In', Check', Raise}
use Rattle.po_program.specs.Exceptions.{program_error}
use Rattle.po_program.specs.Operators.{checked, truth, unary, binary}

-- The value, or Program_Error if the program names a cell that it hasn't (this project's own).
abbrev pub found : Option ℤ → Result ℤ ℕ
found None = Err program_error
found (Some z) = Ok z

-- The value of the cell with this number.
abbrev pub cell : List ℤ → ℕ → Result ℤ ℕ
cell xs i = found (slice_get xs i)

-- The value of the cell at this distance from another.
abbrev pub component : List ℤ → ℕ → ℤ → Result ℤ ℕ
component xs i z = cond (int_lt z (pos 0)) (Err program_error) (cond (int_lt (pos (2 ^ 32 - 1)) z) (Err program_error) (cell xs (i + nat_abs z)))

-- The value of a variable.
abbrev pub variable : Area → List ℤ → List ℤ → ℕ → ℕ → Result ℤ ℕ
variable Object d l b i = cell d i
variable Frame d l b i = cell l (b + i)

-- The value of an array's component: the array's first cell, and the distance from it (4.1.1).
abbrev pub component_of : Area → List ℤ → List ℤ → ℕ → ℕ → ℤ → Result ℤ ℕ
component_of Object d l b i z = component d i z
component_of Frame d l b i z = component l (b + i) z

-- The count, or Program_Error if there is no such entry.
abbrev pub counted_as : Option ℕ → Result ℤ ℕ
counted_as None = Err program_error
counted_as (Some n) = Ok (pos n)

-- The attribute Count: how many calls are queued on the entry (9.9).
abbrev pub counted : List ℕ → ℕ → Result ℤ ℕ
counted c e = counted_as (slice_get c e)

-- The Count of the family's member at this distance from its first one (9.9).
abbrev pub counted_at : List ℕ → ℕ → ℤ → Result ℤ ℕ
counted_at c e z = cond (int_lt z (pos 0)) (Err program_error) (cond (int_lt (pos (2 ^ 32 - 1)) z) (Err program_error) (counted c (e + nat_abs z)))

-- Goes on with the value, or ends with the exception.
abbrev pub with_value : Result ℤ ℕ → (ℤ → Result ℤ ℕ) → Result ℤ ℕ
with_value (Err k) go = Err k
with_value (Ok z) go = go z

-- How far a component is from the first one if n components are before it, and each takes w cells. No array has 2 ** 32
-- components (this project's own).
abbrev pub cells_before : ℕ → ℕ → Result ℤ ℕ
cells_before w n = cond (nat_lt n (2 ^ 32)) (Ok (pos (n * w))) (Err program_error)

-- How far the component with this index is from the first one: the index has to be in the index range, and a component takes
-- w cells (4.1.1).
abbrev pub distance : Range → ℕ → ℤ → Result ℤ ℕ
distance r w x = with_value (checked r x) (λ y. cells_before w (nat_abs (y -ℤ r.low)))

-- Whether the value is in the range (4.5.2).
abbrev pub is_in : Range → ℤ → Bool
is_in r x = int_le r.low x && int_le x r.high

-- The value of an expression, or the exception that it raises. Operands are evaluated from left to right (4.4, 4.5, 4.5.7).
abbrev pub value_of : Expr → List ℤ → List ℤ → ℕ → List ℕ → Result ℤ ℕ
value_of (Number n) d l b c = Ok n
value_of (Cell a i) d l b c = variable a d l b i
value_of (CellAt' a i p e) d l b c = with_value (value_of e d l b c) (λ x. component_of a d l b i x)
value_of (Index' r w p e) d l b c = with_value (value_of e d l b c) (λ x. distance r w x)
value_of (Count e) d l b c = counted c e
value_of (CountAt' n p e) d l b c = with_value (value_of e d l b c) (λ x. counted_at c n x)
value_of (Unary' o p e) d l b c = with_value (value_of e d l b c) (λ x. unary o x)
value_of (Binary' o p e q f) d l b c = with_value (value_of e d l b c) (λ x. with_value (value_of f d l b c) (λ y. binary o x y))
value_of (AndThen' p e q f) d l b c = with_value (value_of e d l b c) (λ x. cond (int_eq x (pos 0)) (Ok (pos 0)) (value_of f d l b c))
value_of (OrElse' p e q f) d l b c = with_value (value_of e d l b c) (λ x. cond (int_eq x (pos 0)) (value_of f d l b c) (Ok (pos 1)))
value_of (If' p t q e r f) d l b c = with_value (value_of t d l b c) (λ x. cond (int_eq x (pos 0)) (value_of f d l b c) (value_of e d l b c))
value_of (In' r p e) d l b c = with_value (value_of e d l b c) (λ x. Ok (truth (is_in r x)))
value_of (Check' r p e) d l b c = with_value (value_of e d l b c) (λ x. checked r x)
value_of (Raise k) d l b c = Err k
