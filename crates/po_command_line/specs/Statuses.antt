-- SPDX-License-Identifier: MIT
-- The exit statuses of the programs.
use Rattle.std.specs.Prelude.{ℕ}
use Rattle.po_language.specs.declared.run_error.RunError.{RunError}
use Rattle.po_language.specs.declared.run_error.RunError.TheVariants.{Script, Read, Write, Memory}

-- the status of a fault: 1 if the script has one; 4 if memory ran out, or a read or a write failed
abbrev pub status_of : RunError → ℕ
status_of (Script line kind) = 1
status_of Read = 4
status_of Write = 4
status_of Memory = 4
