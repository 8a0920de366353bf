-- The thread that `start` makes may own what it captures: the player, the handle, the explorer, the shared object and the scene.
use Rattle.std.proofs.Common.{ℕ}
use denote.Exit as Exit
use denote.Param as Param
use denote.Param.Send as Send
use denote.RattleType.{RattleType}
use denote.Struct.Declared as Declared
use denote.Struct.Tuple as Tuple
use mathlib.Core.List.{List, [], ◌∷◌}
use Rattle.std.below.std_heap.proofs.GlobalAllocator.TheSendSync as frees
use Rattle.std.proofs.alloc.Global.TheSendSync as global
use Rattle.std.proofs.sync.Arc.TheSendSync as arc
use Rattle.std.specs.contracts.alloc.Global
use Rattle.std.specs.contracts.impls.GlobalAllocator.TheImpl as Heap
use Rattle.std.specs.contracts.sync.Arc as Arc
use Rattle.test_schedules.specs.contracts.explorer.Explorer as Explorer
use Rattle.test_schedules.specs.contracts.player.Player as Player
use Rattle.test_schedules.specs.contracts.scene.Scene as Scene
use Rattle.test_schedules.proofs.explorer.Explorer.TheSendSync as explorer
use Rattle.test_schedules.proofs.player.Player.TheSendSync as player
use Rattle.test_schedules.proofs.scene.Scene.TheSendSync as scene
use Rattle.test_schedules.proofs.player.start.Goals as goal

pub spawn-requires-send-F : goal.spawn-requires-send-F
spawn-requires-send-F g c κs within =
    let P = Param.param 0 g.row.P in let O = Param.param 1 g.row.O in
    let e = arc.the_send Explorer.the_row Global.the_row Heap.ghosts explorer.the_send global.the_send explorer.the_sync global.the_sync frees.the_frees in
    let o = arc.the_send O Global.the_row Heap.ghosts c.type_bounds.send-O global.the_send c.type_bounds.sync-O global.the_sync frees.the_frees in
    let p = player.the_send P c.type_bounds.send-P in
    let w = c.type_bounds.send-W in
    let ν : List ℕ = 116 ∷ 101 ∷ 115 ∷ 116 ∷ 95 ∷ 115 ∷ 99 ∷ 104 ∷ 101 ∷ 100 ∷ 117 ∷ 108 ∷ 101 ∷ 115 ∷ 58 ∷ 58 ∷ 112 ∷ 108 ∷ 97 ∷ 121 ∷ 101 ∷ 114 ∷ 58 ∷ 58 ∷ 102 ∷ 110 ∷ 58 ∷ 58 ∷ 115 ∷ 116 ∷ 97 ∷ 114 ∷ 116 ∷ 58 ∷ 58 ∷ 106 ∷ 111 ∷ 98 ∷ 43 ∷ 83 ∷ 101 ∷ 108 ∷ 102 ∷ [] in
    let Ts : List RattleType = Player.the_row P ∷ Param.copied 2 g.row.W ∷ Arc.the_row Explorer.the_row Global.the_row Heap.ghosts ∷ Arc.the_row O Global.the_row Heap.ghosts ∷ Scene.the_row ∷ [] in
    Send.param_send 1 _ (Send.arg_send _ Exit.no _
    (Send.recorded_send (Tuple.field_at ν Ts).row _ _ (Tuple.type_at ν Ts).to_one (Send.struct_send (Declared.shape (Tuple.type_at ν Ts))
    (p, (w, (e, (o, (scene.the_send, tt))))))))
