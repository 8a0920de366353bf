-- SPDX-License-Identifier: MIT
-- What a trap means: a barrier that faults, a body that raises, and a barrier on a count.
use Rattle.std.specs.Prelude.{ℕ, ◌+◌, List, [], ◌∷◌, min, slice_index, nat_lt, nat_le, ◌==◌, ◌&&◌, pos, Bool, true, false, Result, Ok, Err, refl, codes, if◌then◌else◌}
use Rattle.po_unit.specs.declared.decl.Decl.{Decl}
use Rattle.po_unit.specs.Meaning.{Meaning, IsLawful, LowersRank}
use Rattle.po_unit.specs.declared.outcome.Outcome.{Outcome}
use Rattle.po_unit.specs.declared.outcome.Outcome.TheVariants.{Complete, Raise}
use Rattle.po_classic_units.specs.Declarations.{public_entry, public_family}
use Rattle.po_classic_units.specs.ScriptUnit.{KnownUnit}

-- a trap's level
pub record TrapState : Type 0 where
  pub level : ℕ

-- the trap as it is made
abbrev pub new_trap : TrapState
new_trap = record { level = 0 }

-- Wait(i) faults with the number 13 at the level 13; otherwise it is open from the level i on (9.5.2, 9.5.3)
abbrev pub wait_barrier : ℕ → ℕ → Result Bool ℕ
wait_barrier level i = if level == 13 then Err 13 else Ok (nat_le i level)

-- Exact is open if the level is above 0 and as many calls are queued on it
abbrev pub exact_barrier : ℕ → ℕ → Bool
exact_barrier level queued = nat_lt 0 level && (queued == level)

-- Wait(1), Wait(2) and Wait(3) are the entries 0 to 2; Fail, the entry 3, is always open; and Exact is the entry 4
abbrev pub trap_barrier : ℕ → ℕ → List ℕ → Result Bool ℕ
trap_barrier level e c =
    if nat_lt e 3 then wait_barrier level (e + 1)
    else (if e == 3 then Ok true else Ok (exact_barrier level (slice_index c 4)))

-- Fail sets the level, and raises the value, or the greatest number of an exception if the value is greater (9.5.2)
abbrev pub fail : ℕ → TrapState × Outcome ℕ
fail v = (record { level = v }, Raise (min v 4294967295))

-- the other entries change nothing
abbrev pub trap_body : TrapState → ℕ → ℕ → TrapState × Outcome ℕ
trap_body t e v = if e == 3 then fail v else (t, Complete v)

abbrev pub trap_meaning : Meaning TrapState ℕ
trap_meaning = record {
  entries = λ t. 5;
  procedures = λ t. 1;
  functions = λ t. 1;
  barrier = λ t e c. trap_barrier t.level e c;
  body = λ t e v c. trap_body t e v;
  procedure = λ t op v c. (record { level = v }, Ok v);
  function = λ t op v c. Ok t.level;
  rank = λ e v. 0;
}

-- the declarations of a trap's entries, in the order of their numbers (9.5.2)
abbrev pub trap_declarations : List Decl
trap_declarations = public_family (pos 1) (pos 3) ∷ public_entry ∷ public_entry ∷ []

-- what scripts know of a trap
abbrev pub trap_unit : KnownUnit TrapState
trap_unit = record {
  names = record {
    unit = codes "trap";
    is_sized = false;
    entries = codes "Wait" ∷ codes "Fail" ∷ codes "Exact" ∷ [];
    procedures = codes "Set" ∷ [];
    functions = codes "State" ∷ [];
  };
  opening = λ size. new_trap;
  declarations = λ t. trap_declarations;
}

-- no body requeues
ends : (fails : Bool) (t : TrapState) (e v : ℕ) → LowersRank trap_meaning t e v (if fails then fail v else (t, Complete v)).1
ends true t e v = tt
ends false t e v = tt

pub trap_lawful : IsLawful trap_meaning
trap_lawful = record {
  body_numbers = λ t e v c. record { entries = refl; procedures = refl; functions = refl };
  procedure_numbers = λ t op v c. record { entries = refl; procedures = refl; functions = refl };
  requeues = λ t e v c. ends (e == 3) t e v;
}
