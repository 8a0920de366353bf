-- SPDX-License-Identifier: MIT
-- What a bounded buffer means: the entry Put adds a value, and the entry Get takes the first one.
use Rattle.std.specs.Prelude.{◌≡◌, ℕ, ◌≤◌, List, [], ◌∷◌, ◌++◌, length, nat_lt, ◌==◌, Bool, true, false, Ok, refl, codes, if◌then◌else◌}
use Rattle.po_unit.specs.declared.decl.Decl.{Decl}
use Rattle.po_unit.specs.Meaning.{Meaning, IsLawful, LowersRank}
use Rattle.po_unit.specs.declared.outcome.Outcome.{Outcome}
use Rattle.po_unit.specs.declared.outcome.Outcome.TheVariants.{Complete}
use Rattle.po_classic_units.specs.Declarations.{public_entry}
use Rattle.po_classic_units.specs.ScriptUnit.{KnownUnit}
use Rattle.po_classic_units.specs.Sizes.{IsSize}

-- a buffer's values in the order in which they came, and how many there is room for
pub record BufferState : Type 0 where
  pub values : List ℕ
  pub capacity : ℕ

-- the buffer of this capacity as it is made
abbrev pub new_buffer : ℕ → BufferState
new_buffer capacity = record { values = []; capacity = capacity }

-- a buffer that keeps to its capacity, with memory for at least that many of these values
pub record HasRoomFor (memory : ℕ) (b : BufferState) : Type 0 where
  pub values : length b.values ≤ b.capacity
  pub sized : IsSize b.capacity
  pub reserved : b.capacity ≤ memory

-- a buffer as it is made, of any capacity that it may have
pub record IsNewBuffer (b : BufferState) : Type 0 where
  pub no_values : b.values ≡ []
  pub sized : IsSize b.capacity

-- whether there is room for one more value
abbrev pub has_room : BufferState → Bool
has_room b = nat_lt (length b.values) b.capacity

-- Put, the entry 0, is open while there is room, and Get, the entry 1, while there is a value
abbrev pub buffer_barrier : BufferState → ℕ → Bool
buffer_barrier b e = if e == 0 then has_room b else nat_lt 0 (length b.values)

-- Put adds the call's value as the last one, unless there is no room
abbrev pub put : BufferState → ℕ → BufferState × Outcome ℕ
put b v = (if has_room b then record b { values = b.values ++ v ∷ [] } else b, Complete v)

-- Get takes the first of the values, and its call completes with it, or with the call's own value if there is none
abbrev pub get : BufferState → List ℕ → ℕ → BufferState × Outcome ℕ
get b [] v = (b, Complete v)
get b (x ∷ xs) v = (record b { values = xs }, Complete x)

abbrev pub buffer_body : BufferState → ℕ → ℕ → BufferState × Outcome ℕ
buffer_body b e v = if e == 0 then put b v else get b b.values v

abbrev pub buffer_meaning : Meaning BufferState ℕ
buffer_meaning = record {
  entries = λ b. 2;
  procedures = λ b. 0;
  functions = λ b. 1;
  barrier = λ b e c. Ok (buffer_barrier b e);
  body = λ b e v c. buffer_body b e v;
  procedure = λ b op v c. (b, Ok v);
  function = λ b op v c. Ok (length b.values);
  rank = λ e v. 0;
}

-- the declarations of a buffer's entries, in the order of their numbers (9.5.2)
abbrev pub buffer_declarations : List Decl
buffer_declarations = public_entry ∷ public_entry ∷ []

-- what scripts know of a buffer
abbrev pub buffer_unit : KnownUnit BufferState
buffer_unit = record {
  names = record {
    unit = codes "buffer";
    is_sized = true;
    entries = codes "Put" ∷ codes "Get" ∷ [];
    procedures = [];
    functions = codes "State" ∷ [];
  };
  opening = new_buffer;
  declarations = λ b. buffer_declarations;
}

-- no body requeues
completes : (puts : Bool) (b : BufferState) (xs : List ℕ) (e v : ℕ) → LowersRank buffer_meaning b e v (if puts then put b v else get b xs v).1
completes true b xs e v = tt
completes false b [] e v = tt
completes false b (x ∷ xs) e v = tt

pub buffer_lawful : IsLawful buffer_meaning
buffer_lawful = record {
  body_numbers = λ b e v c. record { entries = refl; procedures = refl; functions = refl };
  procedure_numbers = λ b op v c. record { entries = refl; procedures = refl; functions = refl };
  requeues = λ b e v c. completes (e == 0) b b.values e v;
}
