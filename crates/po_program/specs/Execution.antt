-- SPDX-License-Identifier: MIT
-- What statements do.
use Rattle.std.specs.Prelude.{ℕ, zero, suc, ◌+◌, ◌-◌, ◌^◌, Bool, cond, List, [], ◌∷◌, length, Option, Some, None, Result, Ok, Err, ℤ, pos, nat_abs, nat_lt, int_lt, slice_get, slice_set}
use Rattle.std.specs.Ordering.{int_eq}
use Rattle.po_program.specs.declared.tree.Area.{Area}
use Rattle.po_program.specs.declared.tree.Area.TheVariants.{Object, Frame}
use Rattle.po_program.specs.declared.tree.Expr.{Expr}
use Rattle.po_program.specs.declared.tree.Stmt.{Stmt}
use Rattle.po_program.specs.declared.tree.Stmt.TheVariants.{Null, Assign, AssignAt, Then', If', Loop', Exit, Return, Raise, Requeue, Call, Handle'}
use Rattle.po_program.specs.declared.tree.Completion.{Completion}
use Rattle.po_program.specs.declared.tree.Completion.TheVariants.{Normal, Exited, Returned, Raised, Requeued}
use Rattle.po_program.specs.declared.tree.Operation.{Operation}
use Rattle.po_program.specs.Exceptions.{program_error, storage_error, too_many_turns}
use Rattle.po_program.specs.Values.{value_of}

-- What statements change: the object's data, the slots of all frames, and how many turns the loops may still make together.
pub record Memory : Type 0 where
  pub object : List ℤ
  pub stack : List ℤ
  pub left : ℕ

abbrev pub memory : List ℤ → List ℤ → ℕ → Memory
memory d l n = record { object = d; stack = l; left = n }

-- What statements find: the operations, and the counts of the entries. If there are constant data, they are the object's:
-- inside a function or a barrier the object's data are constant (9.5.1).
pub record Setting : Type 0 where
  pub operations : List Operation
  pub constant : List ℤ
  pub counts : List ℕ

abbrev pub setting_of : List Operation → List ℤ → List ℕ → Setting
setting_of ops k c = record { operations = ops; constant = k; counts = c }

-- The object's data as expressions see them.
abbrev pub data_of : List ℤ → List ℤ → List ℤ
data_of [] d = d
data_of (x ∷ xs) d = x ∷ xs

-- The value of an expression in a frame.
abbrev pub given : Setting → Expr → ℕ → Memory → Result ℤ ℕ
given s e b m = value_of e (data_of s.constant m.object) m.stack b s.counts

abbrev pub Ended : Type 0
Ended = Completion × Memory

-- Goes on with the value, or raises the exception.
abbrev pub with_number : Result ℤ ℕ → Memory → (ℤ → Ended) → Ended
with_number (Err k) m go = (Raised k, m)
with_number (Ok z) m go = go z

-- The cell gets the value, or Program_Error is raised if the program hasn't it (5.2).
abbrev pub set_cell : List ℤ → ℕ → ℤ → Completion × List ℤ
set_cell xs i v = cond (nat_lt i (length xs)) (Normal, slice_set xs i v) (Raised program_error, xs)

-- The cell at this distance from another gets the value.
abbrev pub set_component : List ℤ → ℕ → ℤ → ℤ → Completion × List ℤ
set_component xs i z v = cond (int_lt z (pos 0)) (Raised program_error, xs)
    (cond (int_lt (pos (2 ^ 32 - 1)) z) (Raised program_error, xs) (set_cell xs (i + nat_abs z) v))

abbrev pub in_object : Memory → Completion × List ℤ → Ended
in_object m r = (r.0, memory r.1 m.stack m.left)

abbrev pub in_stack : Memory → Completion × List ℤ → Ended
in_stack m r = (r.0, memory m.object r.1 m.left)

-- A variable gets the value (5.2).
abbrev pub assigned : Area → ℕ → ℕ → ℤ → Memory → Ended
assigned Object b i v m = in_object m (set_cell m.object i v)
assigned Frame b i v m = in_stack m (set_cell m.stack (b + i) v)

-- The component at this distance from an array's first cell gets the value (5.2).
abbrev pub assigned_at : Area → ℕ → ℕ → ℤ → ℤ → Memory → Ended
assigned_at Object b i z v m = in_object m (set_component m.object i z v)
assigned_at Frame b i z v m = in_stack m (set_component m.stack (b + i) z v)

-- Goes on if a statement completes normally (5.1).
abbrev pub after : Completion → Memory → (Memory → Ended) → Ended
after Normal m go = go m
after (Exited n) m go = (Exited n, m)
after Returned m go = (Returned, m)
after (Raised k) m go = (Raised k, m)
after (Requeued e w) m go = (Requeued e w, m)

abbrev pub then_executed : Ended → (Memory → Ended) → Ended
then_executed r go = after r.0 r.1 go

-- An exit that leaves this many loops around the loop completes the loop (5.7).
abbrev pub exited : ℕ → Completion
exited zero = Normal
exited (suc n) = Exited n

-- What follows one turn of a loop: the next turn, or the end of the loop (5.5, 5.7).
abbrev pub after_turn : Completion → Memory → (Memory → Ended) → Ended
after_turn Normal m go = go m
after_turn (Exited n) m go = (exited n, m)
after_turn Returned m go = (Returned, m)
after_turn (Raised k) m go = (Raised k, m)
after_turn (Requeued e w) m go = (Requeued e w, m)

abbrev pub then_turn : Ended → (Memory → Ended) → Ended
then_turn r go = after_turn r.0 r.1 go

-- One turn less is left, if one is.
abbrev pub spend : Memory → (Memory → Ended) → ℕ → Ended
spend m go zero = (Raised too_many_turns, m)
spend m go (suc n) = go (memory m.object m.stack n)

-- At most n turns of a loop (5.5). A loop has more than there are left, so that none of its turns is its last for this reason.
unfoldable pub turns : ℕ → (Memory → Ended) → Memory → Ended
turns zero body m = (Raised too_many_turns, m)
turns (suc n) body m = spend m (λ m'. then_turn (body m') (turns n body)) m.left

-- The number of the exception that is raised (11.3).
abbrev pub exception : ℤ → ℕ
exception z = cond (int_lt z (pos 0)) program_error (cond (int_lt (pos (2 ^ 32 - 1)) z) program_error (nat_abs z))

-- A requeue on the entry at this distance from another (9.5.4).
abbrev pub requeued : ℕ → ℤ → Bool → Completion
requeued e z w = cond (int_lt z (pos 0)) (Raised program_error) (cond (int_lt (pos (2 ^ 32 - 1)) z) (Raised program_error)
    (cond (nat_lt (e + nat_abs z) (2 ^ 16)) (Requeued (e + nat_abs z) w) (Raised program_error)))

-- If an exception was raised, goes on with its number (11.4).
abbrev pub if_raised : Completion → Memory → (ℕ → Memory → Ended) → Ended
if_raised Normal m go = (Normal, m)
if_raised (Exited n) m go = (Exited n, m)
if_raised Returned m go = (Returned, m)
if_raised (Raised k) m go = go k m
if_raised (Requeued e w) m go = (Requeued e w, m)

abbrev pub then_handled : Ended → (ℕ → Memory → Ended) → Ended
then_handled r go = if_raised r.0 r.1 go

-- What a call of an operation does, if its frame begins with this slot.
abbrev pub Calls : Type 0
Calls = ℕ → ℕ → Memory → Ended

-- What a statement does: how it ends, and the memory that it leaves (5.1 to 5.7, 6.4, 9.5.4, 11.3, 11.4).
abbrev pub executed : Stmt → Setting → Calls → ℕ → Memory → Ended
executed Null s k b m = (Normal, m)
executed (Assign a i e) s k b m = with_number (given s e b m) m (λ v. assigned a b i v m)
executed (AssignAt a i d e) s k b m = with_number (given s e b m) m (λ v. with_number (given s d b m) m (λ z. assigned_at a b i z v m))
executed (Then' p x q y) s k b m = then_executed (executed x s k b m) (executed y s k b)
executed (If' e p x q y) s k b m = with_number (given s e b m) m (λ v. cond (int_eq v (pos 0)) (executed y s k b m) (executed x s k b m))
executed (Loop' p x) s k b m = turns (suc m.left) (executed x s k b) m
executed (Exit n) s k b m = (Exited n, m)
executed Return s k b m = (Returned, m)
executed (Raise e) s k b m = with_number (given s e b m) m (λ v. (Raised (exception v), m))
executed (Requeue e d w) s k b m = with_number (given s d b m) m (λ z. (requeued e z w, m))
executed (Call o f) s k b m = k o (b + f) m
executed (Handle' p x i q y) s k b m = then_handled (executed x s k b m) (λ n m'. then_executed (assigned Frame b i (pos n) m') (executed y s k b))

-- How a call ends: a return completes it normally (6.5), and an exit leaves no operation.
abbrev pub finished : Completion → Completion
finished Normal = Normal
finished (Exited n) = Raised program_error
finished Returned = Normal
finished (Raised k) = Raised k
finished (Requeued e w) = Requeued e w

abbrev pub finish : Ended → Ended
finish r = (finished r.0, r.1)

-- How many slots all frames have together.
abbrev pub most_slots : ℕ
most_slots = 256

-- A call of an operation that there is, if there are slots for its frame.
abbrev pub entered : Option Operation → Setting → Calls → ℕ → Memory → Ended
entered None s k b m = (Raised program_error, m)
entered (Some p) s k b m = cond (nat_lt most_slots (b + p.slots)) (Raised storage_error, m) (finish (executed p.body s k b m))

-- A call inside of which calls may be nested less than d deep (6.4).
abbrev pub called : ℕ → Setting → Calls
called zero s o b m = (Raised storage_error, m)
called (suc d) s o b m = entered (slice_get s.operations o) s (called d s) b m

-- How an operation ends, and the data and the slots that it leaves.
abbrev pub without_left : Ended → Completion × List ℤ × List ℤ
without_left r = (r.0, r.1.object, r.1.stack)

-- An operation inside of which calls are nested less than n deep, and loops make at most t turns.
abbrev pub executed_within : ℕ → ℕ → Setting → ℕ → List ℤ → List ℤ → Completion × List ℤ × List ℤ
executed_within n t s o d l = without_left (called n s o 0 (memory d l t))

-- How an operation ends that a call from outside names, or that is an entry's barrier or body, and what it leaves: calls are
-- nested at most 16 deep, and loops make at most a million turns (this project's own).
unfoldable pub operation_executed : Setting → ℕ → List ℤ → List ℤ → Completion × List ℤ × List ℤ
operation_executed s o d l = executed_within 16 1000000 s o d l
