-- SPDX-License-Identifier: MIT
-- The meaning of a unit without entries and procedures, whose function gives back what it is given.
use Rattle.std.specs.Prelude.{ℕ, false, Ok, refl}
use Rattle.po_unit.specs.Meaning.{Meaning, IsLawful}
use Rattle.po_unit.specs.declared.outcome.Outcome.TheVariants.{Complete}
use Rattle.test_threads.specs.NoData.{NoData}

-- the only function gives back what it is given
abbrev pub signs_meaning : Meaning NoData ℕ
signs_meaning = record {
  entries = λ s. 0;
  procedures = λ s. 0;
  functions = λ s. 1;
  barrier = λ s e c. Ok false;
  body = λ s e v c. (s, Complete v);
  procedure = λ s op v c. (s, Ok v);
  function = λ s op v c. Ok v;
  rank = λ e v. 0;
}

pub signs_lawful : IsLawful signs_meaning
signs_lawful = record {
  body_numbers = λ s e v c. record { entries = refl; procedures = refl; functions = refl };
  procedure_numbers = λ s op v c. record { entries = refl; procedures = refl; functions = refl };
  requeues = λ s e v c. tt;
}
