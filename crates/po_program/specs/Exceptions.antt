-- SPDX-License-Identifier: MIT
-- The numbers of exceptions without a message (this project's own).
use Rattle.std.specs.Prelude.{ℕ}

-- Constraint_Error (11.1).
abbrev pub constraint_error : ℕ
constraint_error = 16777216

-- Program_Error (11.1): also of a program that names a cell, an entry or an operation that it hasn't.
abbrev pub program_error : ℕ
program_error = 33554432

-- Storage_Error (11.1): calls are nested too deep, or there are no slots left for a frame.
abbrev pub storage_error : ℕ
storage_error = 50331648

-- Loops made more turns than they may. Ada has no such exception.
abbrev pub too_many_turns : ℕ
too_many_turns = 100663296

-- A call was requeued more often in a row than it may be. Ada has no such exception.
abbrev pub too_many_requeues : ℕ
too_many_requeues = 117440512
