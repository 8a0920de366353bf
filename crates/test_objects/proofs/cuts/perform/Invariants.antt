use Rattle.std.specs.Prelude.{Some}
use Rattle.po_object.specs.Stories.{ends_by}
use Rattle.po_classic_units.specs.Buffer.{buffer_meaning}
use Rattle.test_objects.proofs.cuts.perform.Given as goal

abbrev pub ghosts-open_and_close-C-Ledger : goal.ghosts-open_and_close-C-Ledger
ghosts-open_and_close-C-Ledger g a = record { name = a.calls.name; parts = a.calls.parts }

abbrev pub ghosts-open_and_close-P-Ledger : goal.ghosts-open_and_close-P-Ledger
ghosts-open_and_close-P-Ledger g a = record { name = a.procedures.name; parts = a.procedures.parts }

abbrev pub ghosts-open_and_close-C-CallLedger : goal.ghosts-open_and_close-C-CallLedger
ghosts-open_and_close-C-CallLedger g a = record { shape = a.core.object.setup.shape; log = a.log.name; end_of = ends_by buffer_meaning a.core.object.setup }

abbrev pub ghosts-open_and_close-C-Story : goal.ghosts-open_and_close-C-Story
ghosts-open_and_close-C-Story g a = record { setup = Some a.core.object.setup }
