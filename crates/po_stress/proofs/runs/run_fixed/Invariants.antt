use Rattle.std.specs.Prelude.{Some}
use Rattle.po_object.specs.Stories.{ends_by}
use Rattle.po_stress.specs.Starts.{started}
use Rattle.po_stress.proofs.runs.run_fixed.Given as goal

abbrev pub ghosts-run_bounded-C-Ledger : goal.ghosts-run_bounded-C-Ledger
ghosts-run_bounded-C-Ledger g a = record { name = a.calls.name; parts = a.calls.parts }

abbrev pub ghosts-run_bounded-P-Ledger : goal.ghosts-run_bounded-P-Ledger
ghosts-run_bounded-P-Ledger g a = record { name = a.procedures.name; parts = a.procedures.parts }

abbrev pub ghosts-run_bounded-F-Ledger : goal.ghosts-run_bounded-F-Ledger
ghosts-run_bounded-F-Ledger g a = record { name = a.free.name; parts = a.free.parts }

abbrev pub ghosts-run_bounded-C-CallLedger : goal.ghosts-run_bounded-C-CallLedger
ghosts-run_bounded-C-CallLedger g a = record { shape = a.shape; log = a.log.name; end_of = ends_by g.U.Unit.meaning (started a.unit a.shape) }

abbrev pub ghosts-run_bounded-C-Story : goal.ghosts-run_bounded-C-Story
ghosts-run_bounded-C-Story g a = record { setup = Some (started a.unit a.shape) }
