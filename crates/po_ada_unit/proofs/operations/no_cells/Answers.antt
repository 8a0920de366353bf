-- SPDX-License-Identifier: MIT
use Rattle.po_ada_unit.specs.Frames.{no_values}
use Rattle.std.proofs.Common.{refl}
use Rattle.po_ada_unit.proofs.operations.no_cells.Goals as goal

pub returns : goal.returns
unfolding no_values
returns c = refl
