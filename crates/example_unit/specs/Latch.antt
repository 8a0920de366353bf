-- SPDX-License-Identifier: MIT
-- What a latch means: the entry Wait opens after a given number of calls of the procedure Arrive.
use Rattle.std.specs.Prelude.{ℕ, ◌-◌, ◌==◌, List, [], ◌∷◌, true, false, Ok, pos, refl}
use Rattle.po_unit.specs.declared.decl.Decl.{Decl}
use Rattle.po_unit.specs.Meaning.{Meaning, IsLawful}
use Rattle.po_unit.specs.declared.outcome.Outcome.TheVariants.{Complete}

-- how many arrivals are left
pub record LatchState : Type 0 where
  pub left : ℕ

-- a new latch for this number of arrivals
abbrev pub new_latch : ℕ → LatchState
new_latch arrivals = record { left = arrivals }

-- Wait, the only entry, is open if no arrival is left; Arrive takes one off, down to 0, and replies with what is left
abbrev pub latch_meaning : Meaning LatchState ℕ
latch_meaning = record {
  entries = λ s. 1;
  procedures = λ s. 1;
  functions = λ s. 1;
  barrier = λ s e c. Ok (s.left == 0);
  body = λ s e v c. (s, Complete v);
  procedure = λ s op v c. (record { left = s.left - 1 }, Ok (s.left - 1));
  function = λ s op v c. Ok s.left;
  rank = λ e v. 0;
}

-- the declarations of a latch's entries, in the order of their numbers (9.5.2)
abbrev pub latch_declarations : List Decl
latch_declarations = record { public = true; family = false; low = pos 0; high = pos 0 } ∷ []

pub latch_lawful : IsLawful latch_meaning
latch_lawful = record {
  body_numbers = λ s e v c. record { entries = refl; procedures = refl; functions = refl };
  procedure_numbers = λ s op v c. record { entries = refl; procedures = refl; functions = refl };
  requeues = λ s e v c. tt;
}
