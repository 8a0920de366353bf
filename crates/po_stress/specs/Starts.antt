-- SPDX-License-Identifier: MIT
-- How the objects of runs are set up (this project's own).
use Rattle.std.specs.Prelude.{ℕ, List, None}
use Rattle.po_unit.specs.declared.decl.Decl.{Decl}
use Rattle.po_classic_units.specs.ScriptUnit.{KnownUnit}
use Rattle.po_queues.specs.declared.order.Order.TheVariants.{Textual}
use Rattle.po_core.specs.Setup.{Setup}

-- this unit and these entries, calls numbered from 1, events from 0, and no limit for the length of a queue
abbrev pub started : {S : Type 0} → S → List Decl → Setup S
started unit shape = record { opening = unit; shape = shape; order = Textual; max_queue = None; first_number = 1; first_place = 0 }

-- the same setup of a new unit of this size
abbrev pub started_new : {S : Type 0} → KnownUnit S → ℕ → Setup S
started_new known size = started (known.opening size) (known.declarations (known.opening size))
