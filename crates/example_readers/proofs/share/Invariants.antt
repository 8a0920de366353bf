use Rattle.std.specs.Prelude.{Some}
use Rattle.po_object.specs.Stories.{ends_by}
use Rattle.example_readers.specs.ReadersWriters.{readers_writers_meaning}
use Rattle.example_readers.proofs.share.Given as goal

abbrev pub ghosts-visit_by_threads-C-Ledger : goal.ghosts-visit_by_threads-C-Ledger
ghosts-visit_by_threads-C-Ledger g a = record { name = a.calls.name; parts = a.calls.parts }

abbrev pub ghosts-visit_by_threads-P-Ledger : goal.ghosts-visit_by_threads-P-Ledger
ghosts-visit_by_threads-P-Ledger g a = record { name = a.procedures.name; parts = a.procedures.parts }

abbrev pub ghosts-visit_by_threads-C-CallLedger : goal.ghosts-visit_by_threads-C-CallLedger
ghosts-visit_by_threads-C-CallLedger g a = record { shape = a.core.object.setup.shape; log = a.log.name; end_of = ends_by readers_writers_meaning a.core.object.setup }

abbrev pub ghosts-visit_by_threads-C-Story : goal.ghosts-visit_by_threads-C-Story
ghosts-visit_by_threads-C-Story g a = record { setup = Some a.core.object.setup }
