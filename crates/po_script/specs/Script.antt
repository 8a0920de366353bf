-- SPDX-License-Identifier: MIT
-- What a script says: its lines, and its commands up to the first fault.
use Rattle.std.specs.Prelude.{ℕ, ◌+◌, nat_lt, ◌==◌, Bool, true, false, List, [], ◌∷◌, ◌++◌, length, take, Option, Some, None, Result, Ok, Err, if◌then◌else◌}
use Rattle.po_language.specs.Commands.{command_of}
use Rattle.po_language.specs.Units.{UnitList}
use Rattle.po_language.specs.declared.command.UnitChoice.{UnitChoice}
use Rattle.po_language.specs.declared.command.Command.{Command}
use Rattle.po_language.specs.declared.command.Command.TheVariants.{Begin}
use Rattle.po_language.specs.declared.command.FaultKind.{FaultKind}
use Rattle.po_language.specs.declared.command.FaultKind.TheVariants.{ScriptTooLong, LineTooLong}

-- the lines that a newline ends, and the bytes after the last newline
pub record Cut : Type 0 where
  pub full : List (List ℕ)
  pub rest : List ℕ

-- a byte of a line, put before what follows it
abbrev pub join : ℕ → List (List ℕ) → List ℕ → Cut
join b [] rest = record { full = []; rest = b ∷ rest }
join b (line ∷ lines) rest = record { full = (b ∷ line) ∷ lines; rest = rest }

-- a byte, put before what follows it
abbrev pub onto : ℕ → Cut → Cut
onto b c = if b == 10 then record { full = [] ∷ c.full; rest = c.rest } else join b c.full c.rest

-- the bytes cut at their newlines
abbrev pub cut : List ℕ → Cut
cut [] = record { full = []; rest = [] }
cut (b ∷ bs) = onto b (cut bs)

-- what a line says: its command, nothing, or its fault; a line has at most 4,096 bytes
abbrev pub line_of : UnitList → Option UnitChoice → List ℕ → Result (Option Command) FaultKind
line_of units begun line = if nat_lt 4096 (length line) then Err LineTooLong else command_of units begun line

-- the unit that is begun after the command
abbrev pub begun_after : Option UnitChoice → Command → Option UnitChoice
begun_after begun (Begin beginning) = Some beginning.unit
begun_after begun c = begun

-- the commands up to the first line with a fault, and that line's number and fault
pub record Reading : Type 0 where
  pub commands : List Command
  pub fault : Option (ℕ × FaultKind)

-- the command, put before what later lines say
abbrev pub prepend : Command → Reading → Reading
prepend c later = record { commands = c ∷ later.commands; fault = later.fault }

-- line n, by what it says, and then what later lines say, by the unit that is then begun
abbrev pub with_line : ℕ → Option UnitChoice → Result (Option Command) FaultKind → (Option UnitChoice → Reading) → Reading
with_line n begun (Err kind) later = record { commands = []; fault = Some (n, kind) }
with_line n begun (Ok None) later = later begun
with_line n begun (Ok (Some c)) later = prepend c (later (begun_after begun c))

-- what the lines from number n on say if this unit is begun
abbrev pub reading : UnitList → Option UnitChoice → ℕ → List (List ℕ) → Reading
reading units begun n [] = record { commands = []; fault = None }
reading units begun n (line ∷ lines) = with_line n begun (line_of units begun line) (λ later. reading units later (n + 1) lines)

-- what the lines that a newline ends say
abbrev pub whole_lines : UnitList → List ℕ → Reading
whole_lines units bytes = reading units None 1 (cut bytes).full

-- the first fault of these lines, or that the line after them has more bytes than a line or than the script may have
abbrev pub past_limit : List Command → Option (ℕ × FaultKind) → Cut → Reading
past_limit commands (Some fault) c = record { commands = commands; fault = Some fault }
past_limit commands None c = record { commands = commands; fault = Some (length c.full + 1, if nat_lt 4096 (length c.rest) then LineTooLong else ScriptTooLong) }

-- what a script of at most `most` bytes says; the bytes after the last newline are a line too
abbrev pub script_within : UnitList → ℕ → List ℕ → Reading
script_within units most bytes =
    if nat_lt most (length bytes)
    then past_limit (whole_lines units (take most bytes)).commands (whole_lines units (take most bytes)).fault (cut (take most bytes))
    else reading units None 1 ((cut bytes).full ++ (cut bytes).rest ∷ [])

-- what the script says: a script has at most 67,108,864 bytes
abbrev pub script_of : UnitList → List ℕ → Reading
script_of units bytes = script_within units 67108864 bytes

-- the commands of the lines that were read whole, each up to its newline or to the end of the script
abbrev pub commands_read : UnitList → List ℕ → Bool → List Command
commands_read units bytes true = (script_of units bytes).commands
commands_read units bytes false = (whole_lines units bytes).commands
