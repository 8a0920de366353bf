-- The entry is at the distance of its number from the first one of its declaration.
use Rattle.std.proofs.Common.{◌≡◌, ◌-◌, get_or, false, pos, arith, take}
use Rattle.po_unit.specs.declared.decl.Decl.{Decl}
use Rattle.po_unit.specs.Numbering.{entry_count, entry_at}
use Rattle.po_unit.specs.FirstNumbers.{first_numbers}
use Rattle.po_unit.proofs.NumberingLemmas.{IsNumbered, numbered_within, slice_get-from_numbered, flat_number-from_numbered}
use Rattle.po_unit.proofs.FirstNumbersLemmas.{length-firsts, get_or-firsts, within_from_position}
use Rattle.po_unit.proofs.shape.Shape.of_flat.Goals as goal

-- a declaration for a position past the end, which no reference names
abbrev missing : Decl
missing = record { public = false; family = false; low = pos 0; high = pos 0 }

pub bounds-as_slice-position : goal.bounds-as_slice-position
bounds-as_slice-position c =
    let same : c.as_slice.result.now ≡ first_numbers c.args.self.now = cc in
    let long = length-firsts c.args.self.now c.as_slice.result.now same in
    let inside = c.position_of-position.ensures.within in
    omega arith

pub overflow_sub-number : goal.overflow_sub-number
overflow_sub-number c =
    let same : c.as_slice.result.now ≡ first_numbers c.args.self.now = cc in
    let first = get_or-firsts c.args.self.now c.as_slice.result.now c.position_of-position.result 0 same c.position_of-position.ensures.within in
    let low = c.position_of-position.ensures.from_first in
    omega arith

pub entry_at-requires : goal.entry_at-requires
entry_at-requires c =
    let ds = c.args.self.now in
    let same : c.as_slice.result.now ≡ first_numbers ds = cc in
    let first = get_or-firsts ds c.as_slice.result.now c.position_of-position.result 0 same c.position_of-position.ensures.within in
    let here = within_from_position ds c.args.number c.position_of-position.result missing c.position_of-position.ensures in
    let low = here.from_first in
    let high = here.before_next in
    let decls : c.as_slice-2.result.now ≡ ds = cc in
    rw decls (omega arith)

-- the entry has the number that was asked for
numbered : (c : goal.After-entry_at) → IsNumbered c.args.self.now c.entry_at.result c.args.number
numbered c =
    let ds = c.args.self.now in
    let position = c.position_of-position.result in
    let same : c.as_slice.result.now ≡ first_numbers ds = cc in
    let first = get_or-firsts ds c.as_slice.result.now position 0 same c.position_of-position.ensures.within in
    let decls : c.as_slice-2.result.now ≡ ds = cc in
    let here = numbered_within ds c.args.number position (get_or ds position missing) (within_from_position ds c.args.number position missing c.position_of-position.ensures) in
    let entry : c.entry_at.result ≡ entry_at position (get_or ds position missing) (c.args.number - entry_count (take position ds)) =
    rw (decls, first) at c.entry_at.ensures in
    rw entry here

pub returns-clause-listed : goal.returns-clause-listed
returns-clause-listed c = slice_get-from_numbered _ _ _ (numbered c)

pub returns-clause-flat_back : goal.returns-clause-flat_back
returns-clause-flat_back c = flat_number-from_numbered _ _ _ (numbered c)
