-- The entries of one declaration, by their distance from its first one.
use Rattle.std.proofs.Common.{◌≡◌, ℕ, ◌+◌, ◌<◌, Bool, true, false, cond, ◌&&◌, length, slice_get, Option, None, Some, Result, Ok, Err, ℤ, pos, negsuc, ◌+ℤ◌, ◌-ℤ◌, ◌≤ℤ◌, int_le, unsigned_abs, refl, ap, arith}
use Rattle.std.proofs.lemmas.Int.{ints}
use Rattle.std.proofs.lemmas.List.FromFn.{length-map-range_with_len}
use Rattle.po_unit.specs.declared.decl.Decl.{Decl}
use Rattle.po_unit.specs.declared.error.IndexError.{IndexError}
use Rattle.po_unit.specs.declared.error.IndexError.TheVariants.{BadIndex}
use Rattle.po_unit.specs.Numbering.{width, entry_at, entries_of, distance}
use Rattle.po_unit.proofs.Lists.{slice_get-map-range_with_len}

-- what `distance` gives for an index of a family
abbrev in_range_distance : ℤ → ℤ → ℤ → Result ℕ IndexError
in_range_distance low high i =
    cond (int_le low i && int_le i high) (Ok (unsigned_abs (i -ℤ low))) (Err BadIndex)

-- the index that `entry_at` gives
abbrev index_at : Bool → ℤ → ℕ → Option ℤ
index_at family low n = cond family (Some (low +ℤ pos n)) None

-- a number that isn't negative is its own absolute value
pub pos-unsigned_abs : (z : ℤ) → pos 0 ≤ℤ z → pos (unsigned_abs z) ≡ z
pos-unsigned_abs (pos n) h = refl
pos-unsigned_abs (negsuc n) h = absurd (omega (arith, ints))

-- a declaration has as many entries as its width says
pub length-entries_of : (position : ℕ) (d : Decl) → length (entries_of position d) ≡ width d
unfolding entries_of
length-entries_of position d = length-map-range_with_len (entry_at position d) 0 (width d)

-- the entry at a distance is at that position of the list
pub slice_get-entries_of : (position : ℕ) (d : Decl) (n : ℕ) → n < width d → slice_get (entries_of position d) n ≡ Some (entry_at position d n)
unfolding entries_of
slice_get-entries_of position d n h = slice_get-map-range_with_len (entry_at position d) (width d) n h

-- if a distance is below a range's width, the range has an index at that distance
within_range : (low high : ℤ) (n : ℕ) (b : Bool) → int_le low high ≡ b → n < cond b (unsigned_abs (high -ℤ low) + 1) 0 → (low ≤ℤ high) × ((low +ℤ pos n) ≤ℤ high)
within_range low high n true e h =
    let ordered : low ≤ℤ high = grind (arith, ints) in
    let size = pos-unsigned_abs (high -ℤ low) (omega (arith, ints)) in
    (ordered, omega (arith, ints, size))
within_range low high n false e h = absurd (omega arith)

-- the index at a distance from the first has that distance
index_distance : (low high : ℤ) (n : ℕ) → (low +ℤ pos n) ≤ℤ high → in_range_distance low high (low +ℤ pos n) ≡ Ok n
index_distance low high n h =
    let above : int_le low (low +ℤ pos n) ≡ true = grind (arith, ints) in
    let below : int_le (low +ℤ pos n) high ≡ true = grind (arith, ints) in
    let size = pos-unsigned_abs ((low +ℤ pos n) -ℤ low) (omega (arith, ints)) in
    let same : unsigned_abs ((low +ℤ pos n) -ℤ low) ≡ n = omega (arith, ints, size) in
    rw (above, below, same) refl

-- `distance-entry_at` for a single entry and for a family
distance_by_kind : (public family : Bool) (low high : ℤ) (n : ℕ) → n < width (record { public = public; family = family; low = low; high = high }) → distance (record { public = public; family = family; low = low; high = high }) (index_at family low n) ≡ Ok n
distance_by_kind public true low high n h =
    index_distance low high n (within_range low high n (int_le low high) refl h).1
distance_by_kind public false low high n h = ap Ok (omega arith)

-- the entry at a distance has that distance
pub distance-entry_at : (position : ℕ) (d : Decl) (n : ℕ) → n < width d → distance d (entry_at position d n).index ≡ Ok n
distance-entry_at position d n h = distance_by_kind d.public d.family d.low d.high n h

-- if an index has a distance, it is within the range
range_by_tests : (low high i : ℤ) (n : ℕ) (above below : Bool) → int_le low i ≡ above → int_le i high ≡ below → cond (above && below) (Ok (unsigned_abs (i -ℤ low))) (Err BadIndex) ≡ Ok n → (low ≤ℤ i) × (i ≤ℤ high) × (unsigned_abs (i -ℤ low) ≡ n)
range_by_tests low high i n true true a b e = (grind (arith, ints), grind (arith, ints), cc)
range_by_tests low high i n true false a b e = cc
range_by_tests low high i n false below a b e = cc

-- `entry_at-distance` for a single entry and for a family
entry_by_kind : (public family : Bool) (low high : ℤ) (index : Option ℤ) (n : ℕ) → distance (record { public = public; family = family; low = low; high = high }) index ≡ Ok n → (n < width (record { public = public; family = family; low = low; high = high })) × (index_at family low n ≡ index)
entry_by_kind public true low high None n e = cc
entry_by_kind public true low high (Some i) n e =
    let facts = range_by_tests low high i n (int_le low i) (int_le i high) refl refl e in
    let ordered : int_le low high ≡ true = grind (arith, ints, facts) in
    let far = pos-unsigned_abs (i -ℤ low) (omega (arith, ints, facts)) in
    let size = pos-unsigned_abs (high -ℤ low) (omega (arith, ints, facts)) in
    (rw ordered (omega (arith, ints, facts, far, size)), ap Some (omega (arith, ints, facts, far)))
entry_by_kind public false low high None n e = (let z : 0 ≡ n = cc in omega arith, refl)
entry_by_kind public false low high (Some i) n e = cc

-- if an index has a distance, it is the index of the entry at that distance
pub entry_at-distance : (position : ℕ) (d : Decl) (index : Option ℤ) (n : ℕ) → distance d index ≡ Ok n → (n < width d) × ((entry_at position d n).index ≡ index)
entry_at-distance position d index n e = entry_by_kind d.public d.family d.low d.high index n e
