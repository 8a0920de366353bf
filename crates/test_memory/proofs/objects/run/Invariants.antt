use Rattle.std.specs.Prelude.{Some}
use Rattle.po_object.specs.Stories.{ends_by}
use Rattle.po_classic_units.specs.Allocator.{allocator_meaning}
use Rattle.test_memory.proofs.objects.run.Given as goal

abbrev pub ghosts-try_object-C-Ledger : goal.ghosts-try_object-C-Ledger
ghosts-try_object-C-Ledger g a = record { name = a.calls.name; parts = a.calls.parts }

abbrev pub ghosts-try_object-P-Ledger : goal.ghosts-try_object-P-Ledger
ghosts-try_object-P-Ledger g a = record { name = a.procedures.name; parts = a.procedures.parts }

abbrev pub ghosts-try_object-C-CallLedger : goal.ghosts-try_object-C-CallLedger
ghosts-try_object-C-CallLedger g a = record { shape = a.core.object.setup.shape; log = a.log.name; end_of = ends_by allocator_meaning a.core.object.setup }

abbrev pub ghosts-try_object-C-Story : goal.ghosts-try_object-C-Story
ghosts-try_object-C-Story g a = record { setup = Some a.core.object.setup }
