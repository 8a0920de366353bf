-- SPDX-License-Identifier: MIT
-- What a sleeper means: it has no data, and each operation answers with the value that it is given.
use Rattle.std.specs.Prelude.{ℕ, ⊤, true, Ok, refl}
use Rattle.po_unit.specs.Meaning.{Meaning, IsLawful}
use Rattle.po_unit.specs.declared.outcome.Outcome.TheVariants.{Complete}

abbrev pub sleeper_meaning : Meaning ⊤ ℕ
sleeper_meaning = record {
  entries = λ s. 1;
  procedures = λ s. 1;
  functions = λ s. 1;
  barrier = λ s e c. Ok true;
  body = λ s e v c. (s, Complete v);
  procedure = λ s op v c. (s, Ok v);
  function = λ s op v c. Ok v;
  rank = λ e v. 0;
}

pub sleeper_lawful : IsLawful sleeper_meaning
sleeper_lawful = record {
  body_numbers = λ s e v c. record { entries = refl; procedures = refl; functions = refl };
  procedure_numbers = λ s op v c. record { entries = refl; procedures = refl; functions = refl };
  requeues = λ s e v c. tt;
}
