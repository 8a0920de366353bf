-- The thread that `start_host` makes may own what it captures: the handle, the unit, its shape and place, the callers' steps, and what
-- all threads of the run share.
use Rattle.std.proofs.Common.{ℕ}
use denote.Exit as Exit
use denote.Param as Param
use denote.Param.Send as Send
use denote.RattleType.{RattleType}
use denote.Struct.Declared as Declared
use denote.Struct.Tuple as Tuple
use mathlib.Core.List.{List, [], ◌∷◌}
use Rattle.po_unit.proofs.shape.Shape.TheSendSync as shape
use Rattle.po_unit.specs.contracts.shape.Shape as Shape
use Rattle.po_scene_stress.proofs.host.Place.TheSendSync as place
use Rattle.po_scene_stress.specs.contracts.host.Place as Place
use Rattle.po_scene_stress.proofs.job.Steps.TheSendSync as steps
use Rattle.po_scene_stress.specs.contracts.job.Steps as Steps
use Rattle.po_scene_stress.proofs.course.Course.TheSendSync as course
use Rattle.po_scene_stress.specs.contracts.course.Course as Course
use Rattle.po_scene_stress.proofs.host.start_host.Goals as goal
use Rattle.std.below.std_heap.proofs.GlobalAllocator.TheSendSync as frees
use Rattle.std.proofs.alloc.Global.TheSendSync as global
use Rattle.std.proofs.sync.Arc.TheSendSync as arc
use Rattle.std.proofs.vec.Vec.TheSendSync as vec
use Rattle.std.specs.contracts.alloc.Global
use Rattle.std.specs.contracts.impls.GlobalAllocator.TheImpl as Heap
use Rattle.std.specs.contracts.sync.Arc as Arc
use Rattle.std.specs.contracts.vec.Vec as Vec

pub spawn-requires-send-F : goal.spawn-requires-send-F
spawn-requires-send-F g c κs within =
    let a = arc.the_send Course.the_row Global.the_row Heap.ghosts course.the_send global.the_send course.the_sync global.the_sync frees.the_frees in
    let v = vec.the_send Steps.the_row Global.the_row Heap.ghosts steps.the_send global.the_send frees.the_frees in
    let ν : List ℕ = 112 ∷ 111 ∷ 95 ∷ 115 ∷ 99 ∷ 101 ∷ 110 ∷ 101 ∷ 95 ∷ 115 ∷ 116 ∷ 114 ∷ 101 ∷ 115 ∷ 115 ∷ 58 ∷ 58 ∷ 104 ∷ 111 ∷ 115 ∷ 116 ∷ 58 ∷ 58 ∷ 102 ∷ 110 ∷ 58 ∷ 58 ∷ 115 ∷ 116 ∷ 97 ∷ 114 ∷ 116 ∷ 95 ∷ 104 ∷ 111 ∷ 115 ∷ 116 ∷ 58 ∷ 58 ∷ 119 ∷ 111 ∷ 114 ∷ 107 ∷ 43 ∷ 83 ∷ 101 ∷ 108 ∷ 102 ∷ [] in
    let Ts : List RattleType = Param.copied 1 g.row.W ∷ Param.param 0 g.row.U ∷ Shape.the_row ∷ Place.the_row ∷ Vec.the_row Steps.the_row Global.the_row Heap.ghosts ∷ Arc.the_row Course.the_row Global.the_row Heap.ghosts ∷ [] in
    Send.param_send 1 _ (Send.arg_send _ Exit.no _
    (Send.recorded_send (Tuple.field_at ν Ts).row _ _ (Tuple.type_at ν Ts).to_one (Send.struct_send (Declared.shape (Tuple.type_at ν Ts))
    (c.type_bounds.send-W, (c.type_bounds.send-U, (shape.the_send, (place.the_send, (v, (a, tt)))))))))
