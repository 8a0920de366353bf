-- SPDX-License-Identifier: MIT
use Rattle.po_ada_unit.specs.Frames.{no_slots}
use Rattle.std.proofs.Common.{refl}
use Rattle.po_ada_unit.proofs.values.empty_stack.Goals as goal

pub returns : goal.returns
unfolding no_slots
returns c = refl
