-- SPDX-License-Identifier: MIT
-- What a signal means: the procedure Send lets one call on the entry Wait go, now or later.
use Rattle.std.specs.Prelude.{ℕ, List, [], ◌∷◌, Bool, true, false, Ok, refl, codes, if◌then◌else◌}
use Rattle.po_unit.specs.declared.decl.Decl.{Decl}
use Rattle.po_unit.specs.Meaning.{Meaning, IsLawful}
use Rattle.po_unit.specs.declared.outcome.Outcome.TheVariants.{Complete}
use Rattle.po_classic_units.specs.Declarations.{public_entry}
use Rattle.po_classic_units.specs.ScriptUnit.{KnownUnit}

-- whether a signal was sent that no call has taken
pub record SignalState : Type 0 where
  pub set : Bool

-- the signal as it is made
abbrev pub new_signal : SignalState
new_signal = record { set = false }

-- Wait, the only entry, is open while the signal is set, and its body resets it; Send sets it
abbrev pub signal_meaning : Meaning SignalState ℕ
signal_meaning = record {
  entries = λ s. 1;
  procedures = λ s. 1;
  functions = λ s. 1;
  barrier = λ s e c. Ok s.set;
  body = λ s e v c. (record { set = false }, Complete v);
  procedure = λ s op v c. (record { set = true }, Ok v);
  function = λ s op v c. Ok (if s.set then 1 else 0);
  rank = λ e v. 0;
}

-- the declarations of a signal's entries, in the order of their numbers (9.5.2)
abbrev pub signal_declarations : List Decl
signal_declarations = public_entry ∷ []

-- what scripts know of a signal
abbrev pub signal_unit : KnownUnit SignalState
signal_unit = record {
  names = record {
    unit = codes "signal";
    is_sized = false;
    entries = codes "Wait" ∷ [];
    procedures = codes "Send" ∷ [];
    functions = codes "State" ∷ [];
  };
  opening = λ size. new_signal;
  declarations = λ s. signal_declarations;
}

pub signal_lawful : IsLawful signal_meaning
signal_lawful = record {
  body_numbers = λ s e v c. record { entries = refl; procedures = refl; functions = refl };
  procedure_numbers = λ s op v c. record { entries = refl; procedures = refl; functions = refl };
  requeues = λ s e v c. tt;
}
