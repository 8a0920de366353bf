-- SPDX-License-Identifier: MIT
-- The meaning of a unit without data, in which a call that waits on the second entry lets the calls on the first one go.
use Rattle.std.specs.Prelude.{ℕ, nat_lt, slice_index, false, Ok, refl, ◌==◌, if◌then◌else◌}
use Rattle.po_unit.specs.Meaning.{Meaning, IsLawful}
use Rattle.po_unit.specs.declared.outcome.Outcome.TheVariants.{Complete}
use Rattle.test_threads.specs.NoData.{NoData}

-- Wait, entry 0, is open while a call is queued on Stay, entry 1 (9.9), which never opens; bodies do nothing
abbrev pub company_meaning : Meaning NoData ℕ
company_meaning = record {
  entries = λ s. 2;
  procedures = λ s. 0;
  functions = λ s. 0;
  barrier = λ s e c. if e == 0 then Ok (nat_lt 0 (slice_index c 1)) else Ok false;
  body = λ s e v c. (s, Complete v);
  procedure = λ s op v c. (s, Ok v);
  function = λ s op v c. Ok v;
  rank = λ e v. 0;
}

pub company_lawful : IsLawful company_meaning
company_lawful = record {
  body_numbers = λ s e v c. record { entries = refl; procedures = refl; functions = refl };
  procedure_numbers = λ s op v c. record { entries = refl; procedures = refl; functions = refl };
  requeues = λ s e v c. tt;
}
