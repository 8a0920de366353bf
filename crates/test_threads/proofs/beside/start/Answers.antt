-- The thread that `start` makes may own what it captures: the handle and the shared team.
use Rattle.std.proofs.Common.{ℕ}
use denote.Exit as Exit
use denote.Param as Param
use denote.Param.Send as Send
use denote.RattleType.{RattleType}
use denote.Struct.Declared as Declared
use denote.Struct.Tuple as Tuple
use mathlib.Core.List.{List, [], ◌∷◌}
use Rattle.test_threads.proofs.team.Team.TheSendSync as team
use Rattle.test_threads.specs.contracts.team.Team as Team
use Rattle.test_threads.proofs.beside.start.Goals as goal
use Rattle.std.below.std_heap.proofs.GlobalAllocator.TheSendSync as frees
use Rattle.std.proofs.alloc.Global.TheSendSync as global
use Rattle.std.proofs.sync.Arc.TheSendSync as arc
use Rattle.std.specs.contracts.alloc.Global
use Rattle.std.specs.contracts.impls.GlobalAllocator.TheImpl as Heap
use Rattle.std.specs.contracts.sync.Arc as Arc

pub spawn-requires-send-F : goal.spawn-requires-send-F
spawn-requires-send-F g c κs within =
    let a = arc.the_send Team.the_row Global.the_row Heap.ghosts team.the_send global.the_send team.the_sync global.the_sync frees.the_frees in
    let s = c.type_bounds.send-R in
    let ν : List ℕ = 116 ∷ 101 ∷ 115 ∷ 116 ∷ 95 ∷ 116 ∷ 104 ∷ 114 ∷ 101 ∷ 97 ∷ 100 ∷ 115 ∷ 58 ∷ 58 ∷ 98 ∷ 101 ∷ 115 ∷ 105 ∷ 100 ∷ 101 ∷ 58 ∷ 58 ∷ 102 ∷ 110 ∷ 58 ∷ 58 ∷ 115 ∷ 116 ∷ 97 ∷ 114 ∷ 116 ∷ 58 ∷ 58 ∷ 106 ∷ 111 ∷ 98 ∷ 43 ∷ 83 ∷ 101 ∷ 108 ∷ 102 ∷ [] in
    let Ts : List RattleType = Param.copied 0 g.row.R ∷ Arc.the_row Team.the_row Global.the_row Heap.ghosts ∷ [] in
    Send.param_send 1 _ (Send.arg_send _ Exit.no _
    (Send.recorded_send (Tuple.field_at ν Ts).row _ _ (Tuple.type_at ν Ts).to_one (Send.struct_send (Declared.shape (Tuple.type_at ν Ts))
    (s, (a, tt)))))
