-- The thread that `start` makes may own what it captures: the job, the handle, the shared object and the pass. That books and
-- shares of ledgers may be shared, and so the object, isn't found automatically: it is a lemma of po_object.
use Rattle.std.proofs.Common.{ℕ}
use denote.Exit as Exit
use denote.Param as Param
use denote.Param.Send as Send
use denote.RattleType.{RattleType}
use denote.Struct.Declared as Declared
use denote.Struct.Tuple as Tuple
use mathlib.Core.List.{List, [], ◌∷◌}
use Rattle.po_object.proofs.Shared.{object_sync}
use Rattle.po_object.proofs.object.Object.TheSendSync as object
use Rattle.po_object.proofs.pass.Pass.TheSendSync as pass
use Rattle.po_object.proofs.steps.NoHook.TheSendSync as unasked
use Rattle.po_object.specs.contracts.object.Object as Object
use Rattle.po_object.specs.contracts.pass.Pass as Pass
use Rattle.po_object.specs.contracts.steps.NoHook as NoHook
use Rattle.po_threads.proofs.starting.start.Goals as goal
use Rattle.std.below.std_heap.proofs.GlobalAllocator.TheSendSync as frees
use Rattle.std.proofs.alloc.Global.TheSendSync as global
use Rattle.std.proofs.sync.Arc.TheSendSync as arc
use Rattle.std.specs.contracts.alloc.Global
use Rattle.std.specs.contracts.impls.GlobalAllocator.TheImpl as Heap
use Rattle.std.specs.contracts.sync.Arc as Arc

pub spawn-requires-send-F : goal.spawn-requires-send-F
spawn-requires-send-F g c κs within =
    let U = Param.param 0 g.row.U in let C = Param.param 1 g.row.C in let P = Param.param 2 g.row.P in let F = Param.param 3 g.row.F in
    let R = Param.param 4 g.row.R in let Q = Param.param 5 g.row.Q in let V = Param.copied 8 g.row.U-Value in
    let e = g.U.Value.PartialEq in let t = c.type_bounds in
    let row = Object.the_row U C P F R Q NoHook.the_row V g.C.Ledger g.P.Ledger g.U.Unit e g.C.Story g.C.CallLedger g.F.Ledger g.R.Record g.Q.Receipts in
    let o = object.the_send U C P F R Q NoHook.the_row V g.C.Ledger g.P.Ledger g.U.Unit e g.C.Story g.C.CallLedger g.F.Ledger g.R.Record g.Q.Receipts t.send-U t.send-R t.send-Q unasked.the_send t.send-U-Value in
    let y = object_sync U C P F R Q V g.C.Ledger g.P.Ledger g.U.Unit e g.C.Story g.C.CallLedger g.F.Ledger g.R.Record g.Q.Receipts t.send-U t.sync-U t.send-R t.sync-R t.send-Q t.sync-Q t.send-U-Value t.sync-U-Value in
    let a = arc.the_send row Global.the_row Heap.ghosts o global.the_send y global.the_sync frees.the_frees in
    let p = pass.the_send V C P F Q g.C.CallLedger g.C.Ledger g.P.Ledger g.F.Ledger g.Q.Receipts t.send-U-Value t.send-Q in
    let ν : List ℕ = 112 ∷ 111 ∷ 95 ∷ 116 ∷ 104 ∷ 114 ∷ 101 ∷ 97 ∷ 100 ∷ 115 ∷ 58 ∷ 58 ∷ 115 ∷ 116 ∷ 97 ∷ 114 ∷ 116 ∷ 105 ∷ 110 ∷ 103 ∷ 58 ∷ 58 ∷ 102 ∷ 110 ∷ 58 ∷ 58 ∷ 115 ∷ 116 ∷ 97 ∷ 114 ∷ 116 ∷ 58 ∷ 58 ∷ 119 ∷ 111 ∷ 114 ∷ 107 ∷ 43 ∷ 83 ∷ 101 ∷ 108 ∷ 102 ∷ [] in
    let Ts : List RattleType = Param.param 6 g.row.J ∷ Param.copied 7 g.row.W ∷ Arc.the_row row Global.the_row Heap.ghosts ∷ Pass.the_row V C P F Q g.C.CallLedger g.C.Ledger g.P.Ledger g.F.Ledger g.Q.Receipts ∷ [] in
    Send.param_send 1 _ (Send.arg_send _ Exit.no _
    (Send.recorded_send (Tuple.field_at ν Ts).row _ _ (Tuple.type_at ν Ts).to_one (Send.struct_send (Declared.shape (Tuple.type_at ν Ts))
    (t.send-J, (t.send-W, (a, (p, tt)))))))
