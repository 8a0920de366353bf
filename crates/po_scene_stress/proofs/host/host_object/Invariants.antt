use Rattle.std.specs.Prelude.{Some}
use Rattle.po_ada_unit.specs.Object.{ada_meaning}
use Rattle.po_object.specs.Stories.{ends_by}
use Rattle.po_scene_stress.proofs.host.host_object.Given as goal

abbrev pub ghosts-host_core-C-Ledger : goal.ghosts-host_core-C-Ledger
ghosts-host_core-C-Ledger g a = record { name = a.calls.name; parts = a.calls.parts }

abbrev pub ghosts-host_core-P-Ledger : goal.ghosts-host_core-P-Ledger
ghosts-host_core-P-Ledger g a = record { name = a.procedures.name; parts = a.procedures.parts }

abbrev pub ghosts-host_core-C-CallLedger : goal.ghosts-host_core-C-CallLedger
ghosts-host_core-C-CallLedger g a = record { shape = a.core.object.setup.shape; log = a.log.name; end_of = ends_by ada_meaning a.core.object.setup }

abbrev pub ghosts-host_core-C-Story : goal.ghosts-host_core-C-Story
ghosts-host_core-C-Story g a = record { setup = Some a.core.object.setup }
