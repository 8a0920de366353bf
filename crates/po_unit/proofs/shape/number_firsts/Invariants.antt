-- The first numbers found so far, and the next one.
use Rattle.std.proofs.Common.{◌≡◌, take}
use Rattle.po_unit.specs.Numbering.{entry_count}
use Rattle.po_unit.specs.FirstNumbers.{first_numbers}
use Rattle.po_unit.proofs.shape.number_firsts.Given as goal

abbrev pub invariant-loop-decl : goal.invariant-loop-decl
invariant-loop-decl l =
    (l.firsts.items ≡ take l.decl-index (first_numbers l.decls))
    × (l.total ≡ entry_count (take l.decl-index l.decls))
