use Rattle.std.specs.Prelude.{Some}
use Rattle.po_object.specs.Stories.{ends_by}
use Rattle.bench_calls.proofs.objects.race_bounded.Given as goal

abbrev pub ghosts-race_over_bounded-C-Ledger : goal.ghosts-race_over_bounded-C-Ledger
ghosts-race_over_bounded-C-Ledger g a = record { name = a.calls.name; parts = a.calls.parts }

abbrev pub ghosts-race_over_bounded-P-Ledger : goal.ghosts-race_over_bounded-P-Ledger
ghosts-race_over_bounded-P-Ledger g a = record { name = a.procedures.name; parts = a.procedures.parts }

abbrev pub ghosts-race_over_bounded-F-Ledger : goal.ghosts-race_over_bounded-F-Ledger
ghosts-race_over_bounded-F-Ledger g a = record { name = a.free.name; parts = a.free.parts }

abbrev pub ghosts-race_over_bounded-C-CallLedger : goal.ghosts-race_over_bounded-C-CallLedger
ghosts-race_over_bounded-C-CallLedger g a = record { shape = a.core.object.setup.shape; log = a.log.name; end_of = ends_by g.U.Unit.meaning a.core.object.setup }

abbrev pub ghosts-race_over_bounded-C-Story : goal.ghosts-race_over_bounded-C-Story
ghosts-race_over_bounded-C-Story g a = record { setup = Some a.core.object.setup }
