-- What has been counted so far.
use Rattle.std.proofs.Common.{◌≡◌, ◌≤◌, take}
use Rattle.po_unit.specs.Numbering.{entry_count}
use Rattle.po_unit.proofs.shape.count_entries.Given as goal

abbrev pub invariant-loop-decl : goal.invariant-loop-decl
invariant-loop-decl l = (l.total ≡ entry_count (take l.decl-index l.decls)) × (l.total ≤ 4096)
