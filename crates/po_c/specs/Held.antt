-- SPDX-License-Identifier: MIT
-- What a handle owns.
use Rattle.std.specs.Prelude.{Option, Some, None}
use base.Fml.{Fml, ftrue, ffalse}
use base.Stored.{Coded}
use Rattle.std.specs.Coded.{coded_option}
use denote.RawPtr.{Ptr, block_ptr, null_ptr}
use Rattle.std.specs.Box.Ownership.{box_owns}
use Rattle.std.specs.declared.alloc.Global.{Global}
use Rattle.std.specs.contracts.impls.GlobalAllocator.TheImpl.{ghosts}
use Rattle.po_driven.specs.contracts.driven_object.DrivenObject.{the_row}

-- what a handle owns: nothing at null, and else what a box of the object owns
abbrev pub held : Global → Ptr → Option the_row.Denot → Fml
held alloc p (Some x) = box_owns (ghosts.dealloc_token alloc) the_row p x
held alloc null_ptr None = ftrue
held alloc (block_ptr b o) None = ffalse

abbrev pub object_coded : Coded (Option the_row.Denot)
object_coded = coded_option the_row.coded
