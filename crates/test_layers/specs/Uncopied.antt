-- SPDX-License-Identifier: MIT
-- The meaning of a unit that has no data and can't be copied.
use Rattle.std.specs.Prelude.{ℕ, true, Ok, refl}
use Rattle.po_unit.specs.Meaning.{Meaning, IsLawful}
use Rattle.po_unit.specs.declared.outcome.Outcome.TheVariants.{Complete}

-- no data
pub record Nothing : Type 0 where

-- the entry is open, and the entry, the procedure and the function give back what they are given
abbrev pub uncopied_meaning : Meaning Nothing ℕ
uncopied_meaning = record {
  entries = λ s. 1;
  procedures = λ s. 1;
  functions = λ s. 1;
  barrier = λ s e c. Ok true;
  body = λ s e v c. (s, Complete v);
  procedure = λ s op v c. (s, Ok v);
  function = λ s op v c. Ok v;
  rank = λ e v. 0;
}

pub uncopied_lawful : IsLawful uncopied_meaning
uncopied_lawful = record {
  body_numbers = λ s e v c. record { entries = refl; procedures = refl; functions = refl };
  procedure_numbers = λ s op v c. record { entries = refl; procedures = refl; functions = refl };
  requeues = λ s e v c. tt;
}
