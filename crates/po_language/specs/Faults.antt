-- SPDX-License-Identifier: MIT
-- The kinds of the faults of lines.
use Rattle.std.specs.Prelude.{ℕ, List, Option, Some, None, Result, Ok, Err}
use Rattle.po_language.specs.Commands.{command_with, form_with}
use Rattle.po_language.specs.Units.{UnitList}
use Rattle.po_language.specs.declared.command.Command.{Command}
use Rattle.po_language.specs.declared.parse.Known.{Known}
use Rattle.po_language.specs.declared.parse.Known.TheVariants.{Nothing, Begun, Unclear}
use Rattle.po_language.specs.declared.error.WordError.{WordError}
use Rattle.po_language.specs.declared.command.FaultKind.{FaultKind}
use Rattle.po_language.specs.declared.command.FaultKind.TheVariants.{ScriptTooLong, LineTooLong, UnknownCommand, NoUnit, SecondUnit, BadUnit, BadArgument}
use Rattle.po_language.specs.declared.error.Reason.{Reason}
use Rattle.po_language.specs.declared.error.Reason.TheVariants.{ScriptTooLong as ScriptEnd, LineTooLong as LineEnd, UnknownCommand as CommandWord, NoUnit as UnitWord, SecondUnit as OtherWord, BadUnit as UnitPart, BadArgument as ArgumentPart}
use Rattle.po_language.specs.declared.error.LineError.{LineError}

-- the kind of a fault
abbrev pub kind_of : Reason → FaultKind
kind_of ScriptEnd = ScriptTooLong
kind_of LineEnd = LineTooLong
kind_of CommandWord = UnknownCommand
kind_of UnitWord = NoUnit
kind_of OtherWord = SecondUnit
kind_of (UnitPart part) = BadUnit
kind_of (ArgumentPart argument) = BadArgument

-- the result, with only the kind of its fault
abbrev pub by_kind : {X : Type 0} → Result X LineError → Result X FaultKind
by_kind (Ok x) = Ok x
by_kind (Err fault) = Err (kind_of fault.reason)

abbrev pub word_kind : {X : Type 0} → Result X WordError → Result X FaultKind
word_kind (Ok x) = Ok x
word_kind (Err fault) = Err (kind_of fault.reason)

-- the line's command, if it has one, given what is known about the unit that was begun
abbrev pub known_command : UnitList → Known → List (List ℕ) → Result (Option Command) FaultKind
known_command units Nothing ws = command_with units None ws
known_command units (Begun unit) ws = command_with units (Some unit) ws
known_command units Unclear ws = form_with units ws
