use Rattle.std.specs.Prelude.{Some}
use Rattle.po_object.specs.Stories.{ends_by}
use Rattle.bench_calls.proofs.objects.race_recorded.Given as goal

abbrev pub ghosts-race_over-C-Ledger : goal.ghosts-race_over-C-Ledger
ghosts-race_over-C-Ledger g a = record { name = a.calls.name; parts = a.calls.parts }

abbrev pub ghosts-race_over-P-Ledger : goal.ghosts-race_over-P-Ledger
ghosts-race_over-P-Ledger g a = record { name = a.procedures.name; parts = a.procedures.parts }

abbrev pub ghosts-race_over-F-Ledger : goal.ghosts-race_over-F-Ledger
ghosts-race_over-F-Ledger g a = record { name = a.calls.name; parts = a.calls.parts }

abbrev pub ghosts-race_over-C-CallLedger : goal.ghosts-race_over-C-CallLedger
ghosts-race_over-C-CallLedger g a = record { shape = a.core.object.setup.shape; log = a.log.name; end_of = ends_by g.U.Unit.meaning a.core.object.setup }

abbrev pub ghosts-race_over-C-Story : goal.ghosts-race_over-C-Story
ghosts-race_over-C-Story g a = record { setup = Some a.core.object.setup }
