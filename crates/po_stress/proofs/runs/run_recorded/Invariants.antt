use Rattle.std.specs.Prelude.{Some}
use Rattle.po_object.specs.Stories.{ends_by}
use Rattle.po_stress.specs.Starts.{started}
use Rattle.po_stress.proofs.runs.run_recorded.Given as goal

abbrev pub ghosts-run-C-Ledger : goal.ghosts-run-C-Ledger
ghosts-run-C-Ledger g a = record { name = a.calls.name; parts = a.calls.parts }

abbrev pub ghosts-run-P-Ledger : goal.ghosts-run-P-Ledger
ghosts-run-P-Ledger g a = record { name = a.procedures.name; parts = a.procedures.parts }

abbrev pub ghosts-run-C-CallLedger : goal.ghosts-run-C-CallLedger
ghosts-run-C-CallLedger g a = record { shape = a.shape; log = a.log.name; end_of = ends_by g.U.Unit.meaning (started a.unit a.shape) }

abbrev pub ghosts-run-C-Story : goal.ghosts-run-C-Story
ghosts-run-C-Story g a = record { setup = Some (started a.unit a.shape) }
