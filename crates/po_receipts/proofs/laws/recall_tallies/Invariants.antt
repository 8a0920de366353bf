use Rattle.std.proofs.Common.{take}
use Rattle.std.specs.List.{All}
use Rattle.po_receipts.specs.Passes.{IsTallied}
use Rattle.po_receipts.proofs.laws.recall_tallies.Given as goal

abbrev pub invariant-loop-pass : goal.invariant-loop-pass
invariant-loop-pass g l = All IsTallied (take l.pass-index l.passes)
