-- SPDX-License-Identifier: MIT
-- The entries that declarations declare, and their flat numbers.
use Rattle.std.specs.Prelude.{ℕ, ◌+◌, ◌<◌, ◌⊎◌, Bool, false, ◌&&◌, if◌then◌else◌, List, length, take, map, slice_get, ℤ, pos, ◌+ℤ◌, ◌-ℤ◌, int_le, unsigned_abs, Option, None, Some, Result, Ok, Err}
use Rattle.std.specs.List.{sum_by, flat_map, enumerate_from, range_with_len}
use Rattle.po_unit.specs.declared.decl.Decl.{Decl}
use Rattle.po_unit.specs.declared.decl.EntryRef.{EntryRef}
use Rattle.po_unit.specs.declared.error.IndexError.{IndexError}
use Rattle.po_unit.specs.declared.error.IndexError.TheVariants.{NoSuchEntry, NotAFamily, IndexMissing, BadIndex}

-- How many entries a declaration declares: one, or one for each index of a family's range (9.5.2).
abbrev pub width : Decl → ℕ
width d = if d.family then (if int_le d.low d.high then unsigned_abs (d.high -ℤ d.low) + 1 else 0) else 1

-- How many entries the declarations declare together (9.5.2).
abbrev pub entry_count : List Decl → ℕ
entry_count ds = sum_by width ds

-- There are more than 4,096 declarations, or more than 4,096 entries (this project's own).
abbrev pub HasTooMany : List Decl → Type 0
HasTooMany ds = (4096 < length ds) ⊎ (4096 < entry_count ds)

-- The entry at this distance from the first one of the declaration at this position (9.5.2).
abbrev pub entry_at : ℕ → Decl → ℕ → EntryRef
entry_at position d distance =
    record { declaration = position; index = if d.family then Some (d.low +ℤ pos distance) else None }

-- The entries of the declaration at this position; a family's run from its first index to its last (9.5.2).
unfoldable pub entries_of : ℕ → Decl → List EntryRef
entries_of position d = map (entry_at position d) (range_with_len 0 (width d))

-- All entries in the order of their flat numbers: all entries of each declaration in turn (this project's own).
unfoldable pub entry_references : List Decl → List EntryRef
entry_references ds = flat_map (λ p. entries_of p.0 p.1) (enumerate_from 0 ds)

-- How far the entry with this index is from the declaration's first one, or what is wrong with the index (9.5.2).
abbrev pub distance : Decl → Option ℤ → Result ℕ IndexError
distance d None = if d.family then Err IndexMissing else Ok 0
distance d (Some i) =
    if d.family then
    (if int_le d.low i && int_le i d.high then Ok (unsigned_abs (i -ℤ d.low)) else Err BadIndex)
    else Err NotAFamily

-- The number at this distance from another, or what is wrong (this project's own).
abbrev pub number_at : ℕ → Result ℕ IndexError → Result ℕ IndexError
number_at first (Ok further) = Ok (first + further)
number_at first (Err fault) = Err fault

-- The flat number of the entry with this index, if `before` entries come before its declaration (this project's own).
abbrev pub number_in : ℕ → Option Decl → Option ℤ → Result ℕ IndexError
number_in before None index = Err NoSuchEntry
number_in before (Some d) index = number_at before (distance d index)

-- The flat number of the named entry, or why none is named (this project's own).
unfoldable pub flat_number : List Decl → EntryRef → Result ℕ IndexError
flat_number ds r = number_in (entry_count (take r.declaration ds)) (slice_get ds r.declaration) r.index

-- Whether there is a declaration, and it is in the visible part (9.4).
abbrev pub is_public_decl : Option Decl → Bool
is_public_decl None = false
is_public_decl (Some d) = d.public

-- Whether there is an entry, and its declaration is in the visible part (9.4).
abbrev pub is_public_entry : List Decl → Option EntryRef → Bool
is_public_entry ds None = false
is_public_entry ds (Some r) = is_public_decl (slice_get ds r.declaration)

-- Whether there is an entry with this flat number, and it is declared in the visible part (9.4, 9.5.2).
unfoldable pub is_public : List Decl → ℕ → Bool
is_public ds n = is_public_entry ds (slice_get (entry_references ds) n)
