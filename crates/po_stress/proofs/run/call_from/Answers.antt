-- Threads may share the object. The prover doesn't find this by itself, since the object has books and shares of ledgers; a
-- lemma of po_object says it.
use denote.Exit as Exit
use denote.Param as Param
use denote.Param.Send as Send
use denote.Struct.Field as Field
use Rattle.std.specs.contracts.prelude.U64PartialEq.TheImpl as U64
use Rattle.po_object.proofs.Shared.{object_sync}
use Rattle.po_stress.proofs.run.call_from.Goals as goal

pub load-requires-sync-O : goal.load-requires-sync-O
load-requires-sync-O g c κs within =
    let U = Param.param 0 g.row.U in let C = Param.param 1 g.row.C in let P = Param.param 2 g.row.P in let F = Param.param 3 g.row.F in
    let R = Param.param 4 g.row.R in let Q = Param.param 5 g.row.Q in let V = Field.u64-field.row in
    Send.param_sync 0 _ (Send.arg_sync _ Exit.no _
    (object_sync U C P F R Q V g.C.Ledger g.P.Ledger g.U.Unit U64.ghosts g.C.Story g.C.CallLedger g.F.Ledger g.R.Record g.Q.Receipts c.type_bounds.send-U c.type_bounds.sync-U c.type_bounds.send-R c.type_bounds.sync-R c.type_bounds.send-Q c.type_bounds.sync-Q (Send.plain_send _ _ _ _ _) (Send.plain_sync _ _ _ _ _)))
