-- SPDX-License-Identifier: MIT
-- What readers and writers mean: readers go in together, and a writer goes in alone.
use Rattle.std.specs.Prelude.{ℕ, ◌≡◌, ◌+◌, ◌-◌, ◌==◌, ◌&&◌, nat_lt, List, [], ◌∷◌, slice_index, Bool, true, false, Result, Ok, Err, refl, if◌then◌else◌}
use Rattle.std.proofs.Common.{arith}
use Rattle.po_unit.specs.declared.decl.Decl.{Decl}
use Rattle.po_unit.specs.Meaning.{Meaning, IsLawful, LowersRank}
use Rattle.po_unit.specs.declared.outcome.Outcome.{Outcome}
use Rattle.po_unit.specs.declared.outcome.Outcome.TheVariants.{Complete, Requeue}
use Rattle.po_classic_units.specs.Declarations.{public_entry, private_entry}

-- how many readers may be inside at most, and how many readers and writers are inside
pub record ReadersWritersState : Type 0 where
  pub most : ℕ
  pub readers : ℕ
  pub writers : ℕ

-- a new unit, with nobody inside, for at most this number of readers
abbrev pub new_readers_writers : ℕ → ReadersWritersState
new_readers_writers most = record { most = most; readers = 0; writers = 0 }

-- Read, entry 0, is open while no writer is inside or has its turn, and there is room; Write, entry 1, is always open; and
-- Turn, entry 2, is open while nobody is inside
abbrev pub readers_writers_barrier : ReadersWritersState → ℕ → ℕ → Bool
readers_writers_barrier s e turns =
    if e == 0 then ((s.writers == 0) && (turns == 0)) && nat_lt s.readers s.most
    else (if e == 1 then true else (s.writers == 0) && (s.readers == 0))

-- one more reader, if there is room
abbrev pub read : ReadersWritersState → ReadersWritersState
read s = if nat_lt s.readers s.most then record s { readers = s.readers + 1 } else s

-- Read lets a reader in, Write requeues on Turn with abort (9.5.4), and Turn lets the writer in
abbrev pub readers_writers_body : ReadersWritersState → ℕ → ℕ → ReadersWritersState × Outcome ℕ
readers_writers_body s e v =
    if e == 0 then (read s, Complete v)
    else (if e == 1 then (s, Requeue 2 true v) else (record s { writers = 1 }, Complete v))

-- one reader less, or exception 1 if none is inside
abbrev pub read_done : ReadersWritersState → ℕ → ReadersWritersState × Result ℕ ℕ
read_done s v = if s.readers == 0 then (s, Err 1) else (record s { readers = s.readers - 1 }, Ok v)

-- one writer less, or exception 1 if none is inside
abbrev pub write_done : ReadersWritersState → ℕ → ReadersWritersState × Result ℕ ℕ
write_done s v = if s.writers == 0 then (s, Err 1) else (record s { writers = s.writers - 1 }, Ok v)

abbrev pub readers_writers_meaning : Meaning ReadersWritersState ℕ
readers_writers_meaning = record {
  entries = λ s. 3;
  procedures = λ s. 2;
  functions = λ s. 1;
  barrier = λ s e c. Ok (readers_writers_barrier s e (slice_index c 2));
  body = λ s e v c. readers_writers_body s e v;
  procedure = λ s op v c. if op == 0 then read_done s v else write_done s v;
  function = λ s op v c. Ok s.readers;
  rank = λ e v. if e == 1 then 1 else 0;
}

-- the declarations of the entries, in the order of their numbers (9.5.2): Turn is private
abbrev pub readers_writers_declarations : List Decl
readers_writers_declarations = public_entry ∷ public_entry ∷ private_entry ∷ []

-- only Write requeues, on an entry that exists, and from rank 1 to rank 0
lowers : (reads writes : Bool) (s : ReadersWritersState) (e v : ℕ) → (e == 1) ≡ writes
    → LowersRank readers_writers_meaning s e v
    (if◌then◌else◌ {A = ReadersWritersState × Outcome ℕ} reads (read s, Complete v)
    (if writes then (s, Requeue 2 true v) else (record s { writers = 1 }, Complete v))).1
lowers true writes s e v is = tt
lowers false true s e v is = rw is (omega arith, omega arith)
lowers false false s e v is = tt

-- the numbers of operations never change
pub readers_writers_lawful : IsLawful readers_writers_meaning
readers_writers_lawful = record {
  body_numbers = λ s e v c. record { entries = refl; procedures = refl; functions = refl };
  procedure_numbers = λ s op v c. record { entries = refl; procedures = refl; functions = refl };
  requeues = λ s e v c. lowers (e == 0) (e == 1) s e v refl;
}
