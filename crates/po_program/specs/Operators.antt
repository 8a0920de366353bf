-- SPDX-License-Identifier: MIT
-- What operators give (4.5). An `Err` has the number of the exception that is raised.
use Rattle.std.specs.Prelude.{ℕ, ◌+◌, ◌*◌, ◌/◌, ◌%◌, ◌^◌, ◌-◌, Bool, cond, ◌&&◌, nat_lt, nat_le, Result, Ok, Err, ℤ, pos, negsuc, ◌+ℤ◌, ◌-ℤ◌, ◌*ℤ◌, neg_ℤ, nat_abs, int_lt, int_le, int_div, int_rem, nat_eq, bit_and, bit_or, bit_xor}
use Rattle.std.specs.Int.{int_pow, int_rem_euclid, int_min, int_max}
use Rattle.std.specs.Ordering.{int_eq}
use Rattle.po_program.specs.declared.tree.Range.{Range}
use Rattle.po_program.specs.declared.tree.Base.{Base}
use Rattle.po_program.specs.declared.tree.Base.TheVariants.{Signed, Modular}
use Rattle.po_program.specs.declared.tree.Unary.{Unary}
use Rattle.po_program.specs.declared.tree.Unary.TheVariants.{Not, Minus, Abs}
use Rattle.po_program.specs.declared.tree.Binary.{Binary}
use Rattle.po_program.specs.declared.tree.Binary.TheVariants.{Add, Subtract, Multiply, Divide, Mod, Rem, Power, And, Or, Xor, Equal, Less, AtMost, Min, Max}
use Rattle.po_program.specs.Exceptions.{constraint_error}

-- The number, if it is in the range, or else Constraint_Error (3.5, 4.6).
abbrev pub checked : Range → ℤ → Result ℤ ℕ
checked r z = cond (int_lt z r.low) (Err constraint_error) (cond (int_lt r.high z) (Err constraint_error) (Ok z))

-- The widest range of a signed type: 64 bits (3.5.4, this project's own).
abbrev pub widest : Range
widest = record { low = negsuc (2 ^ 63 - 1); high = pos (2 ^ 63 - 1) }

-- Goes on with the operands of a signed type, which have to be in the widest range.
abbrev pub with_operand : Result ℤ ℕ → (ℤ → Result ℤ ℕ) → Result ℤ ℕ
with_operand (Err k) go = Err k
with_operand (Ok z) go = go z

abbrev pub with_operands : ℤ → ℤ → (ℤ → ℤ → Result ℤ ℕ) → Result ℤ ℕ
with_operands x y go = with_operand (checked widest x) (λ v. with_operand (checked widest y) (λ w. go v w))

-- Whether a modular type can have this modulus (3.5.4; the limit is this project's own).
abbrev pub is_modulus : ℕ → Bool
is_modulus m = nat_lt 0 m && nat_le m (2 ^ 64)

-- The value of a modular type for a number: the remainder of its division by the modulus, which isn't negative (3.5.4(19)).
abbrev pub residue : ℕ → ℤ → ℕ
residue m z = cond (is_modulus m) (nat_abs (int_rem_euclid z (pos m))) 0

-- The result of an operator of a modular type, which wraps around (3.5.4(19)).
abbrev pub modular : ℕ → ℕ → Result ℤ ℕ
modular m n = cond (is_modulus m) (Ok (pos (n % m))) (Err constraint_error)

-- The truth value as a number (3.5.3).
abbrev pub truth : Bool → ℤ
truth b = cond b (pos 1) (pos 0)

-- Division by zero raises Constraint_Error (4.5.5(22)).
abbrev pub divided : ℤ → Result ℤ ℕ → Result ℤ ℕ
divided y r = cond (int_eq y (pos 0)) (Err constraint_error) r

abbrev pub divided_by : ℕ → Result ℤ ℕ → Result ℤ ℕ
divided_by n r = cond (nat_eq n 0) (Err constraint_error) r

-- x mod y: x less a multiple of y, with the sign of y, and nearer to 0 than y (4.5.5).
abbrev pub modulo : ℤ → ℤ → ℤ
modulo x y = cond (int_lt y (pos 0)) (neg_ℤ (int_rem_euclid (neg_ℤ x) (neg_ℤ y))) (int_rem_euclid x y)

-- x to the power y: the exponent isn't below 0 and isn't above 2 ** 31 - 1 (4.5.6).
abbrev pub raised_to : Range → ℤ → ℤ → Result ℤ ℕ
raised_to r x y = cond (int_lt y (pos 0)) (Err constraint_error) (cond (int_lt (pos (2 ^ 31 - 1)) y) (Err constraint_error)
    (with_operand (checked widest x) (λ v. checked r (int_pow v (nat_abs y)))))

abbrev pub negation : Base → ℤ → Result ℤ ℕ
negation (Signed r) x = with_operand (checked widest x) (λ v. checked r (neg_ℤ v))
negation (Modular m) x = modular m (m - residue m x)

abbrev pub absolute : Base → ℤ → Result ℤ ℕ
absolute (Signed r) x = with_operand (checked widest x) (λ v. checked r (pos (nat_abs v)))
absolute (Modular m) x = modular m (residue m x)

abbrev pub sum_of : Base → ℤ → ℤ → Result ℤ ℕ
sum_of (Signed r) x y = with_operands x y (λ v w. checked r (v +ℤ w))
sum_of (Modular m) x y = modular m (residue m x + residue m y)

abbrev pub difference : Base → ℤ → ℤ → Result ℤ ℕ
difference (Signed r) x y = with_operands x y (λ v w. checked r (v -ℤ w))
difference (Modular m) x y = modular m (residue m x + (m - residue m y))

abbrev pub product : Base → ℤ → ℤ → Result ℤ ℕ
product (Signed r) x y = with_operands x y (λ v w. checked r (v *ℤ w))
product (Modular m) x y = modular m (residue m x * residue m y)

abbrev pub quotient : Base → ℤ → ℤ → Result ℤ ℕ
quotient (Signed r) x y = with_operands x y (λ v w. divided w (checked r (int_div v w)))
quotient (Modular m) x y = divided_by (residue m y) (modular m (residue m x / residue m y))

-- The result of `mod`.
abbrev pub modulus_of : Base → ℤ → ℤ → Result ℤ ℕ
modulus_of (Signed r) x y = with_operands x y (λ v w. divided w (checked r (modulo v w)))
modulus_of (Modular m) x y = divided_by (residue m y) (modular m (residue m x % residue m y))

-- The result of `rem`.
abbrev pub remainder : Base → ℤ → ℤ → Result ℤ ℕ
remainder (Signed r) x y = with_operands x y (λ v w. divided w (checked r (int_rem v w)))
remainder (Modular m) x y = divided_by (residue m y) (modular m (residue m x % residue m y))

-- The result of an operator bit by bit (4.5.1(9)).
abbrev pub bitwise : (ℕ → ℕ → ℕ) → Base → ℤ → ℤ → Result ℤ ℕ
bitwise f (Signed r) x y = with_operands x y (λ v w. checked r (pos (f (nat_abs v) (nat_abs w))))
bitwise f (Modular m) x y = modular m (f (residue m x) (residue m y))

-- An operator with one operand (4.5.4, 4.5.6).
abbrev pub unary : Unary → ℤ → Result ℤ ℕ
unary Not x = Ok (truth (int_eq x (pos 0)))
unary (Minus b) x = negation b x
unary (Abs b) x = absolute b x

-- An operator with two operands (4.5.1, 4.5.2, 4.5.3, 4.5.5, 4.5.6), or Min or Max (3.5).
abbrev pub binary : Binary → ℤ → ℤ → Result ℤ ℕ
binary (Add b) x y = sum_of b x y
binary (Subtract b) x y = difference b x y
binary (Multiply b) x y = product b x y
binary (Divide b) x y = quotient b x y
binary (Mod b) x y = modulus_of b x y
binary (Rem b) x y = remainder b x y
binary (Power r) x y = raised_to r x y
binary (And b) x y = bitwise bit_and b x y
binary (Or b) x y = bitwise bit_or b x y
binary (Xor b) x y = bitwise bit_xor b x y
binary Equal x y = Ok (truth (int_eq x y))
binary Less x y = Ok (truth (int_lt x y))
binary AtMost x y = Ok (truth (int_le x y))
binary Min x y = Ok (int_min x y)
binary Max x y = Ok (int_max x y)
