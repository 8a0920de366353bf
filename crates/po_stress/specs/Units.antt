-- SPDX-License-Identifier: MIT
-- The units of a run (this project's own).
use Rattle.std.specs.Prelude.{Bool, true, false}
use Rattle.po_stress.specs.declared.unit.StressUnit.{StressUnit}
use Rattle.po_stress.specs.declared.unit.StressUnit.TheVariants.{Buffer, Allocator, Meeting, Race}

-- whether half of the threads wait for the other half
abbrev pub is_paired : StressUnit → Bool
is_paired Buffer = true
is_paired Race = true
is_paired Allocator = false
is_paired Meeting = false
