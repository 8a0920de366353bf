use Rattle.std.specs.Prelude.{Some}
use Rattle.po_object.specs.Stories.{ends_by}
use Rattle.po_classic_units.specs.Buffer.{buffer_meaning}
use Rattle.example_bounded.proofs.main.Given as goal

abbrev pub ghosts-use_object-C-Ledger : goal.ghosts-use_object-C-Ledger
ghosts-use_object-C-Ledger g a = record { name = a.calls.name; parts = a.calls.parts }

abbrev pub ghosts-use_object-P-Ledger : goal.ghosts-use_object-P-Ledger
ghosts-use_object-P-Ledger g a = record { name = a.procedures.name; parts = a.procedures.parts }

abbrev pub ghosts-use_object-F-Ledger : goal.ghosts-use_object-F-Ledger
ghosts-use_object-F-Ledger g a = record { name = a.free.name; parts = a.free.parts }

abbrev pub ghosts-use_object-C-CallLedger : goal.ghosts-use_object-C-CallLedger
ghosts-use_object-C-CallLedger g a = record { shape = a.core.object.setup.shape; log = a.log.name; end_of = ends_by buffer_meaning a.core.object.setup }

abbrev pub ghosts-use_object-C-Story : goal.ghosts-use_object-C-Story
ghosts-use_object-C-Story g a = record { setup = Some a.core.object.setup }
