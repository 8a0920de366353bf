-- The handle and its box taken apart own what a box at the same types owns.
use mir.Syntax.{impl, tnil, dnil}
use mathlib.Core.List.{[]}
use denote.RattleType.{RattleType}
use denote.Signature.{Slot, plain}
use Rattle.std.proofs.BoxSteps.Form.{Bx}
use Rattle.std.specs.contracts.alloc.Global as Heap
use Rattle.std.specs.contracts.impls.GlobalAllocator.TheImpl.{ghosts, dict}
use Rattle.std.proofs.alloc.Global.TheLaws as heap
use Rattle.po_driven.specs.contracts.driven_object.DrivenObject as Object
use Rattle.po_driven.proofs.driven_object.DrivenObject.TheLaws as object
use Rattle.po_c.specs.contracts.loose.Loose as Loose
use Rattle.po_c.specs.contracts.handle.Handle as Handle

abbrev pub E : Bx
E = record { row = Object.the_row; laws = object.the_row_laws; al = record { row = Heap.the_row; laws = heap.the_row_laws; g = ghosts; d = dict; drops = impl [] tnil dnil } }

abbrev pub LooseObject : RattleType
LooseObject = Loose.the_row Object.the_row Heap.the_row ghosts

abbrev pub FromLoose : Slot 0
FromLoose = plain (λ _. LooseObject)

abbrev pub FromHandle : Slot 0
FromHandle = plain (λ _. Handle.the_row)

abbrev pub FromAlloc : Slot 0
FromAlloc = plain (λ _. Heap.the_row)
