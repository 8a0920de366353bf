-- Flat numbers, and positions in the list of all entries.
use Rattle.std.proofs.Common.{◌≡◌, ℕ, zero, suc, ◌+◌, ◌-◌, ◌<◌, ◌≤◌, ◌↔◌, true, List, [], ◌∷◌, length, take, slice_get, Option, None, Some, Result, Ok, Err, ℤ, refl, sym, ap, ◌∙◌, inl, inr, subst, arith}
use Rattle.std.specs.List.{flat_map, enumerate_from}
use Rattle.std.proofs.lemmas.Bool.{cases_lt}
use Rattle.std.proofs.lemmas.List.{length-append}
use Rattle.std.proofs.lemmas.List.Sums.{sum_by-cons}
use Rattle.std.proofs.lemmas.Option.{slice_get_within}
use Rattle.po_unit.specs.declared.decl.Decl.{Decl}
use Rattle.po_unit.specs.declared.decl.EntryRef.{EntryRef}
use Rattle.po_unit.specs.declared.error.IndexError.{IndexError}
use Rattle.po_unit.specs.declared.error.IndexError.TheVariants.{NoSuchEntry}
use Rattle.po_unit.specs.Numbering.{width, entry_count, entry_at, entries_of, entry_references, distance, number_at, number_in, flat_number, is_public}
use Rattle.po_unit.proofs.Lists.{slice_get-append_left, slice_get-append_right}
use Rattle.po_unit.proofs.DeclLemmas.{length-entries_of, slice_get-entries_of, distance-entry_at, entry_at-distance}

-- the entry is at some distance from the first one of a declaration, and this is its flat number
pub record IsNumbered (ds : List Decl) (r : EntryRef) (n : ℕ) : Type 0 where
  pub decl : Decl
  pub further : ℕ
  pub declared : slice_get ds r.declaration ≡ Some decl
  pub within : further < width decl
  pub reference : r ≡ entry_at r.declaration decl further
  pub number : n ≡ entry_count (take r.declaration ds) + further

-- `entry_references` of declarations whose first has this position
abbrev references_from : ℕ → List Decl → List EntryRef
references_from p ds = flat_map (λ q. entries_of q.0 q.1) (enumerate_from p ds)

-- the same list has as many entries as are counted
length-references_from : (p : ℕ) (ds : List Decl) → length (references_from p ds) ≡ entry_count ds
length-references_from p [] = refl
length-references_from p (d ∷ ds) =
    omega (arith, length-append (entries_of p d) (references_from (p + 1) ds), length-entries_of p d, length-references_from (p + 1) ds, sum_by-cons width d ds)

-- there are as many entries as are counted
pub length-entry_references : (ds : List Decl) → length (entry_references ds) ≡ entry_count ds
unfolding entry_references
length-entry_references ds = length-references_from 0 ds

-- in the same list, an entry of a declaration comes after all entries of the declarations before
slice_get-references_from : (p : ℕ) (ds : List Decl) (k : ℕ) (d : Decl) (j n q : ℕ) → slice_get ds k ≡ Some d → j < width d → n ≡ entry_count (take k ds) + j → q ≡ p + k → slice_get (references_from p ds) n ≡ Some (entry_at q d j)
slice_get-references_from p [] k d j n q declared h e f = cc
slice_get-references_from p (x ∷ ds) zero d j n q declared h e f =
    let same : x ≡ d = cc in
    let within : n < width x = rw same (omega arith) in
    let long = length-entries_of p x in
    slice_get-append_left (entries_of p x) (references_from (p + 1) ds) n (omega arith)
    ∙ slice_get-entries_of p x n within
    ∙ ap (λ (t : EntryRef). Some t) (let m : n ≡ j = omega arith in let o : p ≡ q = omega arith in rw (m, o, same))
slice_get-references_from p (x ∷ ds) (suc k) d j n q declared h e f =
    let long = length-entries_of p x in
    let sums = sum_by-cons width x (take k ds) in
    slice_get-append_right (entries_of p x) (references_from (p + 1) ds) n (entry_count (take k ds) + j) (omega arith)
    ∙ slice_get-references_from (p + 1) ds k d j _ q declared h refl (omega arith)

-- a numbered entry is in the list at its number
pub slice_get-from_numbered : (ds : List Decl) (r : EntryRef) (n : ℕ) → IsNumbered ds r n → slice_get (entry_references ds) n ≡ Some r
unfolding entry_references
slice_get-from_numbered ds r n h =
    slice_get-references_from 0 ds r.declaration h.decl h.further n r.declaration h.declared h.within h.number (omega arith)
    ∙ ap (λ (t : EntryRef). Some t) (sym h.reference)

-- a numbered entry has its number
pub flat_number-from_numbered : (ds : List Decl) (r : EntryRef) (n : ℕ) → IsNumbered ds r n → flat_number ds r ≡ Ok n
unfolding flat_number
flat_number-from_numbered ds r n h =
    let far : distance h.decl r.index ≡ Ok h.further = rw h.reference (distance-entry_at r.declaration h.decl h.further h.within) in
    rw (h.declared, far, h.number) refl

-- a number is within those of one declaration
pub record IsWithin (ds : List Decl) (n k : ℕ) (d : Decl) : Type 0 where
  pub declared : slice_get ds k ≡ Some d
  pub from_first : entry_count (take k ds) ≤ n
  pub before_next : n < entry_count (take k ds) + width d

-- a number below the count is within those of some declaration
position_within : (ds : List Decl) (n : ℕ) → n < entry_count ds → (k : ℕ) × (d : Decl) × IsWithin ds n k d
position_within [] n h = absurd (omega arith)
position_within (x ∷ ds) n h =
    elim (cases_lt n (width x)) [
      | inl less ↦ (0, x, record { declared = refl; from_first = omega arith; before_next = omega arith })
      | inr more ↦
          let sums = sum_by-cons width x ds in
          let rest = position_within ds (n - width x) (omega arith) in
          let front = sum_by-cons width x (take rest.0 ds) in
          let low = rest.2.from_first in
          let high = rest.2.before_next in
          (suc rest.0, rest.1, record { declared = rest.2.declared; from_first = omega arith; before_next = omega arith })
    ]

-- if a number is within those of a declaration, it numbers the declaration's entry at that distance
pub numbered_within : (ds : List Decl) (n k : ℕ) (d : Decl) → IsWithin ds n k d → IsNumbered ds (entry_at k d (n - entry_count (take k ds))) n
numbered_within ds n k d h =
    let low = h.from_first in
    let high = h.before_next in
    record { decl = d; further = n - entry_count (take k ds); declared = h.declared; within = omega arith; reference = refl; number = omega arith }

-- an entry in the list is numbered by its position there
pub numbered_from_slice_get : (ds : List Decl) (r : EntryRef) (n : ℕ) → slice_get (entry_references ds) n ≡ Some r → IsNumbered ds r n
numbered_from_slice_get ds r n e =
    let inside = slice_get_within (entry_references ds) n r e in
    let counted = length-entry_references ds in
    let found = position_within ds n (omega arith) in
    let numbered = numbered_within ds n found.0 found.1 found.2 in
    let there = slice_get-from_numbered ds _ n numbered in
    let same : entry_at found.0 found.1 (n - entry_count (take found.0 ds)) ≡ r = cc in
    subst (λ (t : EntryRef). IsNumbered ds t n) same numbered

-- an entry has the number that its declaration gives it
number_by_parts : (ds : List Decl) (r : EntryRef) (n : ℕ) (o : Option Decl) → slice_get ds r.declaration ≡ o → number_in (entry_count (take r.declaration ds)) o r.index ≡ Ok n → IsNumbered ds r n
number_by_parts ds r n None declared e = cc
number_by_parts ds r n (Some d) declared e = at_distance (distance d r.index) refl e
  where
    at_distance : (far : Result ℕ IndexError) → distance d r.index ≡ far → number_at (entry_count (take r.declaration ds)) far ≡ Ok n → IsNumbered ds r n
    at_distance (Err fault) f g = cc
    at_distance (Ok j) f g =
        let parts = entry_at-distance r.declaration d r.index j f in
        record { decl = d; further = j; declared = declared; within = parts.0; reference = ap (λ (i : Option ℤ). record { declaration = r.declaration; index = i }) (sym parts.1); number = cc }

-- if `flat_number` gives an entry a number, the entry is numbered so
pub numbered_from_flat_number : (ds : List Decl) (r : EntryRef) (n : ℕ) → flat_number ds r ≡ Ok n → IsNumbered ds r n
unfolding flat_number
numbered_from_flat_number ds r n e = number_by_parts ds r n (slice_get ds r.declaration) refl e

-- an entry has a number exactly if it is at that position of the list
pub flat_number-iff-slice_get : (ds : List Decl) (r : EntryRef) (n : ℕ) → (flat_number ds r ≡ Ok n) ↔ (slice_get (entry_references ds) n ≡ Some r)
flat_number-iff-slice_get ds r n =
    (λ e. slice_get-from_numbered ds r n (numbered_from_flat_number ds r n e), λ e. flat_number-from_numbered ds r n (numbered_from_slice_get ds r n e))

-- a flat number is below the count of the entries
pub flat_number-lt-entry_count : (ds : List Decl) (r : EntryRef) (n : ℕ) → flat_number ds r ≡ Ok n → n < entry_count ds
flat_number-lt-entry_count ds r n e =
    let inside = slice_get_within (entry_references ds) n r (slice_get-from_numbered ds r n (numbered_from_flat_number ds r n e)) in
    let counted = length-entry_references ds in
    omega arith

-- the same for an answer that equals the number
pub flat_number_bijection : (ds : List Decl) (r : EntryRef) (answer : Result ℕ IndexError) → answer ≡ flat_number ds r → (n : ℕ) → (answer ≡ Ok n) ↔ (slice_get (entry_references ds) n ≡ Some r)
flat_number_bijection ds r answer e n = rw e (flat_number-iff-slice_get ds r n)

-- the number of an entry by its distance
pub flat_number-at_distance : (ds : List Decl) (r : EntryRef) (d : Decl) (j : ℕ) → slice_get ds r.declaration ≡ Some d → distance d r.index ≡ Ok j → flat_number ds r ≡ Ok (entry_count (take r.declaration ds) + j)
unfolding flat_number
flat_number-at_distance ds r d j declared far = rw (declared, far) refl

-- the fault of an index
pub flat_number-at_fault : (ds : List Decl) (r : EntryRef) (d : Decl) (fault : IndexError) → slice_get ds r.declaration ≡ Some d → distance d r.index ≡ Err fault → flat_number ds r ≡ Err fault
unfolding flat_number
flat_number-at_fault ds r d fault declared far = rw (declared, far) refl

-- a reference to no declaration has no number
pub flat_number-no_such_entry : (ds : List Decl) (r : EntryRef) → slice_get ds r.declaration ≡ None → flat_number ds r ≡ Err NoSuchEntry
unfolding flat_number
flat_number-no_such_entry ds r e = rw e refl

-- an entry is public exactly if its declaration says so
pub is_public-from_decl : (ds : List Decl) (r : EntryRef) (d : Decl) (n : ℕ) → slice_get (entry_references ds) n ≡ Some r → slice_get ds r.declaration ≡ Some d → is_public ds n ≡ d.public
unfolding is_public
is_public-from_decl ds r d n there declared = rw (there, declared) refl

-- an entry is public if its declaration is
pub is_public-yes : (ds : List Decl) (r : EntryRef) (d : Decl) (n : ℕ) → slice_get (entry_references ds) n ≡ Some r → slice_get ds r.declaration ≡ Some d → d.public ≡ true → is_public ds n ≡ true
is_public-yes ds r d n there declared visible = is_public-from_decl ds r d n there declared ∙ visible
