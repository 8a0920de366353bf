-- The declaration at the position is that of the entry.
use Rattle.std.proofs.Common.{◌≡◌, sym, get_or, false, pos}
use Rattle.po_unit.proofs.NumberingLemmas.{numbered_within, slice_get-from_numbered, is_public-from_decl}
use Rattle.po_unit.proofs.FirstNumbersLemmas.{within_from_position}
use Rattle.po_unit.proofs.shape.Shape.is_public.Goals as goal

pub returns : goal.returns
returns c =
    let ds = c.args.self.now in
    let same : c.as_slice.result.now ≡ ds = cc in
    let d = get_or ds c.position_of.result (record { public = false; family = false; low = pos 0; high = pos 0 }) in
    let here = within_from_position ds c.args.number c.position_of.result (record { public = false; family = false; low = pos 0; high = pos 0 }) c.position_of.ensures in
    let there = slice_get-from_numbered ds _ c.args.number (numbered_within ds c.args.number c.position_of.result d here) in
    rw same (sym (is_public-from_decl ds _ d c.args.number there here.declared))
