use Rattle.std.specs.Prelude.{Some}
use Rattle.po_object.specs.Stories.{ends_by}
use Rattle.test_objects.specs.Sleeper.{sleeper_meaning}
use Rattle.test_objects.proofs.stopping.stopped_while_held.Given as goal

abbrev pub ghosts-open_and_stop-C-Ledger : goal.ghosts-open_and_stop-C-Ledger
ghosts-open_and_stop-C-Ledger g a = record { name = a.calls.name; parts = a.calls.parts }

abbrev pub ghosts-open_and_stop-P-Ledger : goal.ghosts-open_and_stop-P-Ledger
ghosts-open_and_stop-P-Ledger g a = record { name = a.procedures.name; parts = a.procedures.parts }

abbrev pub ghosts-open_and_stop-C-CallLedger : goal.ghosts-open_and_stop-C-CallLedger
ghosts-open_and_stop-C-CallLedger g a = record { shape = a.core.object.setup.shape; log = a.log.name; end_of = ends_by sleeper_meaning a.core.object.setup }

abbrev pub ghosts-open_and_stop-C-Story : goal.ghosts-open_and_stop-C-Story
ghosts-open_and_stop-C-Story g a = record { setup = Some a.core.object.setup }
