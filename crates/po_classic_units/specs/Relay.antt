-- SPDX-License-Identifier: MIT
-- What a relay means: the entries First, Second and Third hand a call on, by a level.
use Rattle.std.specs.Prelude.{◌≡◌, ℕ, List, [], ◌∷◌, nat_le, ◌==◌, Bool, true, false, Ok, refl, codes, if◌then◌else◌}
use Rattle.std.proofs.Common.{arith}
use Rattle.po_unit.specs.declared.decl.Decl.{Decl}
use Rattle.po_unit.specs.Meaning.{Meaning, IsLawful, LowersRank}
use Rattle.po_unit.specs.declared.outcome.Outcome.{Outcome}
use Rattle.po_unit.specs.declared.outcome.Outcome.TheVariants.{Complete, Requeue}
use Rattle.po_classic_units.specs.Declarations.{public_entry, private_entry}
use Rattle.po_classic_units.specs.ScriptUnit.{KnownUnit}

-- a relay's level
pub record RelayState : Type 0 where
  pub level : ℕ

-- the relay as it is made
abbrev pub new_relay : RelayState
new_relay = record { level = 0 }

-- First, the entry 0, is always open, Second, the entry 1, from the level 1 on, and Third, the entry 2, from the level 2 on
abbrev pub relay_barrier : ℕ → ℕ → Bool
relay_barrier level e = if e == 0 then true else (if e == 1 then nat_le 1 level else nat_le 2 level)

-- First requeues on Second without abort, Second on Third with abort, and Third completes: the value goes along (9.5.4)
abbrev pub relay_outcome : ℕ → ℕ → Outcome ℕ
relay_outcome e v = if e == 0 then Requeue 1 false v else (if e == 1 then Requeue 2 true v else Complete v)

-- how many requeues may follow
abbrev pub relay_rank : ℕ → ℕ
relay_rank e = if e == 0 then 2 else (if e == 1 then 1 else 0)

abbrev pub relay_meaning : Meaning RelayState ℕ
relay_meaning = record {
  entries = λ r. 3;
  procedures = λ r. 1;
  functions = λ r. 1;
  barrier = λ r e c. Ok (relay_barrier r.level e);
  body = λ r e v c. (r, relay_outcome e v);
  procedure = λ r op v c. (record { level = v }, Ok v);
  function = λ r op v c. Ok r.level;
  rank = λ e v. relay_rank e;
}

-- the declarations of a relay's entries, in the order of their numbers (9.5.2)
abbrev pub relay_declarations : List Decl
relay_declarations = public_entry ∷ private_entry ∷ private_entry ∷ []

-- what scripts know of a relay
abbrev pub relay_unit : KnownUnit RelayState
relay_unit = record {
  names = record {
    unit = codes "relay";
    is_sized = false;
    entries = codes "First" ∷ codes "Second" ∷ codes "Third" ∷ [];
    procedures = codes "Set" ∷ [];
    functions = codes "State" ∷ [];
  };
  opening = λ size. new_relay;
  declarations = λ r. relay_declarations;
}

-- each requeue lowers the rank
lowers : (a b : Bool) (r : RelayState) (e v : ℕ) → (e == 0) ≡ a → (e == 1) ≡ b → LowersRank relay_meaning r e v (if a then Requeue 1 false v else (if b then Requeue 2 true v else Complete v))
lowers true b r e v is_first is_second = rw is_first (omega arith, omega arith)
lowers false true r e v is_first is_second = rw (is_first, is_second) (omega arith, omega arith)
lowers false false r e v is_first is_second = tt

pub relay_lawful : IsLawful relay_meaning
relay_lawful = record {
  body_numbers = λ r e v c. record { entries = refl; procedures = refl; functions = refl };
  procedure_numbers = λ r op v c. record { entries = refl; procedures = refl; functions = refl };
  requeues = λ r e v c. lowers (e == 0) (e == 1) r e v refl refl;
}
