-- The first numbers, and a search among them.
use Rattle.std.proofs.Common.{◌≡◌, ℕ, zero, suc, ◌+◌, ◌-◌, ◌<◌, ◌≤◌, true, false, leb, List, [], ◌∷◌, length, get_or, slice_get, Some, Ok, take, inl, inr, subst, arith, leb-true, refl, ◌++◌}
use Rattle.std.specs.List.Sorted.{IsPartitionPoint, IsNonDecreasingBy}
use Rattle.std.proofs.lemmas.Bool.{cases_lt, leb-false}
use Rattle.std.proofs.lemmas.List.{take-take, take_all, take_more}
use Rattle.std.proofs.lemmas.List.FromFn.{length-map-range_with_len, get_or-map-range_with_len}
use Rattle.std.proofs.lemmas.List.Sums.{sum_by-take-le, sum_by_more}
use Rattle.std.proofs.lemmas.Option.{slice_get-get_or, slice_get_within}
use Rattle.po_unit.specs.declared.decl.Decl.{Decl}
use Rattle.po_unit.specs.declared.decl.EntryRef.{EntryRef}
use Rattle.po_unit.specs.Numbering.{width, entry_count, distance, flat_number}
use Rattle.po_unit.specs.FirstNumbers.{first_numbers, IsPositionOf}
use Rattle.po_unit.proofs.NumberingLemmas.{IsWithin, flat_number-at_distance}

-- there are as many first numbers as declarations
pub length-first_numbers : (ds : List Decl) → length (first_numbers ds) ≡ length ds
unfolding first_numbers
length-first_numbers ds = length-map-range_with_len (λ k. entry_count (take k ds)) 0 (length ds)

-- the first number of a declaration counts the entries before it
pub get_or-first_numbers : (ds : List Decl) (k e : ℕ) → k < length ds → get_or (first_numbers ds) k e ≡ entry_count (take k ds)
unfolding first_numbers
get_or-first_numbers ds k e h =
    get_or-map-range_with_len (λ i. entry_count (take i ds)) 0 (length ds) k k e h (omega arith)

-- the same for a list that equals the first numbers
pub get_or-firsts : (ds : List Decl) (firsts : List ℕ) (k e : ℕ) → firsts ≡ first_numbers ds → k < length ds → get_or firsts k e ≡ entry_count (take k ds)
get_or-firsts ds firsts k e same h = rw same (get_or-first_numbers ds k e h)

-- a list that equals the first numbers is as long as the declarations
pub length-firsts : (ds : List Decl) (firsts : List ℕ) → firsts ≡ first_numbers ds → length firsts ≡ length ds
length-firsts ds firsts same = rw same (length-first_numbers ds)

-- one more of the first numbers
pub take-first_numbers_more : (ds : List Decl) (i : ℕ) → i < length ds → take (i + 1) (first_numbers ds) ≡ take i (first_numbers ds) ++ entry_count (take i ds) ∷ []
take-first_numbers_more ds i h =
    let long = length-first_numbers ds in
    rw (take_more (first_numbers ds) i 0 (omega arith), get_or-first_numbers ds i 0 h) refl

-- more declarations declare no fewer entries
pub entry_count-take-le : (ds : List Decl) (i j : ℕ) → i ≤ j → entry_count (take i ds) ≤ entry_count (take j ds)
entry_count-take-le ds i j h =
    subst (λ xs. entry_count xs ≤ entry_count (take j ds)) (take-take i j ds h) (sum_by-take-le width (take j ds) i)

-- the first numbers do not fall
pub first_numbers-rise : (ds : List Decl) → IsNonDecreasingBy (λ x. x) (first_numbers ds)
first_numbers-rise ds i j e h k =
    let long = length-first_numbers ds in
    let low = get_or-first_numbers ds i e (omega arith) in
    let high = get_or-first_numbers ds j e (omega arith) in
    let rise = entry_count-take-le ds i j h in
    omega arith

-- if the search ends at `p`, the declaration before `p` declares the entry of that number
pub position_from_search : (ds : List Decl) (number p : ℕ) → number < entry_count ds → p ≤ length ds → IsPartitionPoint (λ y. leb y number ≡ true) (λ y. leb y number ≡ false) (first_numbers ds) p → (1 ≤ p) × IsPositionOf ds number (p - 1)
position_from_search [] number p h k point = absurd (omega arith)
position_from_search (d ∷ ds) number zero h k point =
    let long = length-first_numbers (d ∷ ds) in
    let above = leb-false _ _ (point.1 0 0 (omega arith) (omega arith)) in
    let first = get_or-first_numbers (d ∷ ds) 0 0 (omega arith) in
    absurd (omega arith)
position_from_search (d ∷ ds) number (suc q) h k point =
    let all = d ∷ ds in
    let long = length-first_numbers all in
    let below = leb-true _ _ (point.0 q 0 (omega arith) (omega arith)) in
    let first = get_or-first_numbers all q 0 (omega arith) in
    let next : number < entry_count (take (q + 1) all) =
    elim (cases_lt (q + 1) (length all)) [
      | inl less ↦
          let above = leb-false _ _ (point.1 (q + 1) 0 (omega arith) (omega arith)) in
          let after = get_or-first_numbers all (q + 1) 0 less in
          omega arith
      | inr more ↦ rw (take_all (q + 1) all more) h
    ] in
    let position : IsPositionOf all number q = record { within = omega arith; from_first = omega arith; before_next = next } in
    (omega arith, let same : q ≡ suc q - 1 = omega arith in subst (λ i. IsPositionOf all number i) same position)

-- a number is within those of the declaration at its position
pub within_from_position : (ds : List Decl) (number position : ℕ) (d : Decl) → IsPositionOf ds number position → IsWithin ds number position (get_or ds position d)
within_from_position ds number position d h =
    let inside = h.within in
    let low = h.from_first in
    let high = h.before_next in
    let more = sum_by_more width ds position d inside in
    record { declared = slice_get-get_or ds position d inside; from_first = low; before_next = omega arith }

-- an entry's number, by the first number that is kept for its declaration
pub flat_number-at_first : (ds : List Decl) (r : EntryRef) (d : Decl) (j : ℕ) (firsts : List ℕ) (position : ℕ) → slice_get ds r.declaration ≡ Some d → distance d r.index ≡ Ok j → firsts ≡ first_numbers ds → position ≡ r.declaration → flat_number ds r ≡ Ok (get_or firsts position 0 + j)
flat_number-at_first ds r d j firsts position declared far same here =
    rw (here, get_or-firsts ds firsts r.declaration 0 same (slice_get_within ds r.declaration d declared)) (flat_number-at_distance ds r d j declared far)
