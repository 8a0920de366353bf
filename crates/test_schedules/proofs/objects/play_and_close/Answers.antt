-- Threads may share the object. The prover doesn't find this by itself, since the object has books and shares of ledgers; a
-- lemma of po_object says it.
use denote.Exit as Exit
use denote.Param as Param
use denote.Param.Send as Send
use denote.Struct.Field as Field
use Rattle.std.specs.contracts.prelude.U64PartialEq.TheImpl as U64
use Rattle.po_object.proofs.Shared.{object_with_sync}
use Rattle.test_schedules.specs.contracts.gate.Gate as Gate
use Rattle.test_schedules.specs.contracts.station.Station as Station
use Rattle.test_schedules.specs.contracts.station.StationUnit.TheImpl as StationUnit
use Rattle.test_schedules.proofs.gate.Gate.TheSendSync as gate
use Rattle.test_schedules.proofs.station.Station.TheSendSync as station
use Rattle.test_schedules.proofs.objects.play_and_close.Goals as goal

pub play-requires-sync-O : goal.play-requires-sync-O
play-requires-sync-O g c κs within =
    let C = Param.param 0 g.row.C in let P = Param.param 1 g.row.P in let F = Param.param 2 g.row.F in
    let R = Param.param 3 g.row.R in let Q = Param.param 4 g.row.Q in let W = Param.copied 5 g.row.W in let V = Field.u64-field.row in
    let t = c.type_bounds in
    Send.param_sync 1 _ (Send.arg_sync _ Exit.no _
    (object_with_sync Station.the_row C P F R Q (Gate.the_row W) V g.C.Ledger g.P.Ledger StationUnit.ghosts U64.ghosts g.C.Story g.C.CallLedger g.F.Ledger g.R.Record g.Q.Receipts station.the_send station.the_sync t.send-R t.sync-R t.send-Q t.sync-Q (Send.plain_send _ _ _ _ _) (Send.plain_sync _ _ _ _ _) (gate.the_sync W t.sync-W)))
