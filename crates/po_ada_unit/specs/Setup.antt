-- SPDX-License-Identifier: MIT
-- The object as it is made.
use Rattle.std.specs.Prelude.{◌≡◌, ℕ, List, [], replicate, Result, Ok, Err, ℤ, pos}
use Rattle.po_program.specs.declared.tree.Completion.{Completion}
use Rattle.po_program.specs.declared.tree.Completion.TheVariants.{Normal, Exited, Returned, Raised, Requeued}
use Rattle.po_program.specs.declared.tree.Program.{Program}
use Rattle.po_program.specs.Exceptions.{program_error}
use Rattle.po_program.specs.Execution.{setting_of, operation_executed}
use Rattle.po_ada_unit.specs.declared.error.SetupError.{SetupError}
use Rattle.po_ada_unit.specs.declared.error.SetupError.TheVariants.{OutOfMemory, Raised as RaisedError}
use Rattle.po_ada_unit.specs.Frames.{frame, no_values}
use Rattle.po_ada_unit.specs.Object.{Object, object, End}

-- How the operation ends that gives the data their initial values, and what it leaves (3.3.1). All data are 0 before it.
abbrev pub setup_end : Program → List ℤ → End
setup_end p d = operation_executed (setting_of p.operations.items [] []) p.setup d (frame no_values (pos 0))

abbrev pub made : Program → List ℤ → Completion → Result Object ℕ
made p d Normal = Ok (object p d)
made p d (Exited n) = Err program_error
made p d Returned = Err program_error
made p d (Raised k) = Err k
made p d (Requeued e w) = Err program_error

abbrev pub made_by : Program → End → Result Object ℕ
made_by p r = made p r.1 r.0

-- The object that a program makes, or the exception that its initial values raise.
abbrev pub new_object : Program → Result Object ℕ
new_object p = made_by p (setup_end p (replicate p.cells (pos 0)))

-- Why an object isn't made: memory ran out, or this exception was raised.
abbrev pub IsReason : SetupError → Result Object ℕ → Type 0
IsReason OutOfMemory r = Unit {0}
IsReason (RaisedError k) r = r ≡ Err k
