-- SPDX-License-Identifier: MIT
-- An object whose bodies and barriers aren't known here: they are the client's.
use Rattle.std.specs.Prelude.{ℕ, false, Ok, refl}
use Rattle.po_unit.specs.Meaning.{Meaning, IsLawful}
use Rattle.po_unit.specs.declared.outcome.Outcome.TheVariants.{Complete}

-- none of these is ever run: the client's answers take their place
abbrev pub unknown : Meaning ℕ ℕ
unknown = record {
  entries = λ s. s;
  procedures = λ s. s;
  functions = λ s. s;
  barrier = λ s e c. Ok false;
  body = λ s e v c. (s, Complete v);
  procedure = λ s op v c. (s, Ok v);
  function = λ s op v c. Ok v;
  rank = λ e v. 0;
}

pub unknown_lawful : IsLawful unknown
unknown_lawful = record {
  body_numbers = λ s e v c. record { entries = refl; procedures = refl; functions = refl };
  procedure_numbers = λ s op v c. record { entries = refl; procedures = refl; functions = refl };
  requeues = λ s e v c. tt;
}
