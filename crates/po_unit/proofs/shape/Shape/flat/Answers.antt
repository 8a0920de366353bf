-- The number is that of the declaration's first entry and the distance from it, and the list has the entry at that position.
use Rattle.std.proofs.Common.{◌≡◌, ◌≤◌, slice_get, Ok, Err, Some, sym, ◌∙◌, arith}
use Rattle.std.proofs.lemmas.Option.{slice_get_within}
use Rattle.std.proofs.lemmas.Result.{err_from_is_err_and}
use Rattle.po_unit.specs.Numbering.{entry_count, distance}
use Rattle.po_unit.proofs.NumberingLemmas.{flat_number_bijection, flat_number-no_such_entry, flat_number-at_fault, flat_number-lt-entry_count}
use Rattle.po_unit.proofs.FirstNumbersLemmas.{length-firsts, flat_number-at_first}
use Rattle.po_unit.proofs.shape.Shape.flat.Goals as goal

pub returns-in_default-clause-exact : goal.returns-in_default-clause-exact
returns-in_default-clause-exact c =
    sym (flat_number-no_such_entry c.args.self.now c.args.reference (sym c.decl.ensures ∙ c.in_default.is))

pub returns-in_default-clause-bijection : goal.returns-in_default-clause-bijection
returns-in_default-clause-bijection c =
    flat_number_bijection c.args.self.now c.args.reference _ (returns-in_default-clause-exact c)

pub returns-in_err-distance-clause-exact : goal.returns-in_err-distance-clause-exact
returns-in_err-distance-clause-exact c =
    let ds = c.args.self.now in
    let declared : slice_get ds c.args.reference.declaration ≡ Some c.in-Some.decl = cc in
    let far : distance c.in-Some.decl c.args.reference.index ≡ Err c.in_err-distance.field-0.0 = cc (c.in_err-distance.was) in
    let returned = err_from_is_err_and c.from_residual.result c.from_residual.ensures.1 in
    rw (returned.1, returned.2) (sym (flat_number-at_fault ds c.args.reference c.in-Some.decl _ declared far))

pub returns-in_err-distance-clause-bijection : goal.returns-in_err-distance-clause-bijection
returns-in_err-distance-clause-bijection c =
    flat_number_bijection c.args.self.now c.args.reference _ (returns-in_err-distance-clause-exact c)

pub bounds-as_slice-from : goal.bounds-as_slice-from
bounds-as_slice-from c =
    let ds = c.args.self.now in
    let declared : slice_get ds c.args.reference.declaration ≡ Some c.in-Some.decl = cc in
    let inside = slice_get_within ds c.args.reference.declaration c.in-Some.decl declared in
    let long = length-firsts ds c.as_slice.result.now cc in
    omega arith

pub returns-clause-exact : goal.returns-clause-exact
returns-clause-exact c =
    let declared : slice_get c.args.self.now c.args.reference.declaration ≡ Some c.in-Some.decl = cc in
    let far : distance c.in-Some.decl c.args.reference.index ≡ Ok c.in_ok-distance.distance =
    cc (c.in_ok-distance.was) in
    sym (flat_number-at_first c.args.self.now c.args.reference c.in-Some.decl _ c.as_slice.result.now c.from.result declared far (cc) c.from.ensures)

pub overflow_add-result : goal.overflow_add-result
overflow_add-result c =
    let below = flat_number-lt-entry_count c.args.self.now c.args.reference _ (sym (returns-clause-exact c)) in
    let few : entry_count c.args.self.now ≤ 4096 = rw c.self.view_is at c.self.invariant.few_entries in
    omega arith

pub overflow_cast-result : goal.overflow_cast-result
overflow_cast-result c =
    let below = flat_number-lt-entry_count c.args.self.now c.args.reference _ (sym (returns-clause-exact c)) in
    let few : entry_count c.args.self.now ≤ 4096 = rw c.self.view_is at c.self.invariant.few_entries in
    omega arith

pub returns-clause-bijection : goal.returns-clause-bijection
returns-clause-bijection c =
    flat_number_bijection c.args.self.now c.args.reference _ (returns-clause-exact c)
