use Rattle.std.proofs.Common.{◌≡◌, drop}
use Rattle.po_receipts.specs.Agreement.{gap}
use Rattle.po_receipts.proofs.comparison.first_gap.Given as goal

abbrev pub invariant-loop-volume : goal.invariant-loop-volume
invariant-loop-volume g l = gap l.from l.volumes l.base ≡ gap l.place (drop l.volume-index l.volumes) l.base
