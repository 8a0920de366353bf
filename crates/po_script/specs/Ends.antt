-- SPDX-License-Identifier: MIT
-- What a run of a script writes, and how it ends.
use Rattle.std.specs.Prelude.{ℕ, ◌≡◌, ◌≤◌, ◌⊎◌, Bool, true, false, List, [], ◌∷◌, ◌++◌, length, Option, Some, None}
use Rattle.std.specs.Io.KnownBytes.{Appends}
use Rattle.po_language.specs.Units.{UnitList}
use Rattle.po_script.specs.Units.{ScriptUnits, listed}
use Rattle.po_script.specs.Script.{cut, whole_lines, script_of, commands_read}
use Rattle.po_script.specs.Session.{SessionState, opening_state, after, answer}
use Rattle.po_script.specs.AnySession.{state_by, text_by}
use Rattle.po_language.specs.declared.command.Command.{Command}
use Rattle.po_language.specs.declared.command.FaultKind.{FaultKind}
use Rattle.po_language.specs.declared.command.FaultKind.TheVariants.{ScriptTooLong, LineTooLong}
use Rattle.po_language.specs.declared.run_error.RunError.{RunError}
use Rattle.po_language.specs.declared.run_error.RunError.TheVariants.{Script, Read, Write, Memory}

-- the session after the commands
abbrev pub state_after : (units : ScriptUnits) → SessionState units → List Command → SessionState units
state_after units s commands = state_by (after units) s commands

-- what a session answers to the commands, one after another
abbrev pub answers : (units : ScriptUnits) → SessionState units → List Command → List ℕ
answers units s commands = text_by (after units) (answer units) s commands

-- what a script of these bytes writes
abbrev pub output_of : ScriptUnits → List ℕ → List ℕ
output_of units bytes = answers units (opening_state units) (script_of (listed units) bytes).commands

-- line n is ended by a newline or by the end of the script; with a fault of length it needn't be
abbrev pub IsLineRead : FaultKind → ℕ → List ℕ → Bool → Type 0
IsLineRead ScriptTooLong n bytes ended = Unit {0}
IsLineRead LineTooLong n bytes ended = Unit {0}
IsLineRead _ n bytes ended = (n ≤ length (cut bytes).full) ⊎ (ended ≡ true)

-- memory ran out after these commands: for the next command of the lines that were read whole, or before the first byte
abbrev pub WantsMemoryAfter : UnitList → List Command → List ℕ → Bool → Type 0
WantsMemoryAfter units first bytes ended =
    ((first ≡ []) × (bytes ≡ []))
    ⊎ ((command : Command) × (later : List Command) × (commands_read units bytes ended ≡ first ++ command ∷ later))

-- a run that read these bytes ended well: `start` and `now` are what the writer had and has; `ended` and `failed` are whether
-- the reader came to its end or failed, and `bad` is whether the writer failed or took no byte
abbrev pub EndsWell : ScriptUnits → List ℕ → Option (List ℕ) → Option (List ℕ) → Bool → Bool → Bool → Type 0
EndsWell units bytes start now ended failed bad =
    (ended ≡ true) × (failed ≡ false) × (bad ≡ false)
    × ((script_of (listed units) bytes).fault ≡ None)
    × Appends start now (output_of units bytes)

-- a run that read these bytes ended with this fault
abbrev pub EndsAs : ScriptUnits → RunError → List ℕ → Option (List ℕ) → Option (List ℕ) → Bool → Bool → Bool → Type 0
EndsAs units (Script n kind) bytes start now ended failed bad =
    ((script_of (listed units) bytes).fault ≡ Some (n, kind))
    × IsLineRead kind n bytes ended
    × (failed ≡ false) × (bad ≡ false)
    × Appends start now (output_of units bytes)
EndsAs units Read bytes start now ended failed bad =
    (failed ≡ true) × (bad ≡ false)
    × ((whole_lines (listed units) bytes).fault ≡ None) × (length (cut bytes).rest ≤ 4096)
    × Appends start now (answers units (opening_state units) (whole_lines (listed units) bytes).commands)
EndsAs units Write bytes start now ended failed bad =
    (failed ≡ false) × (bad ≡ true)
    × (text : List ℕ) × (rest : List ℕ) × (output_of units bytes ≡ text ++ rest)
    × Appends start now text
EndsAs units Memory bytes start now ended failed bad =
    (failed ≡ false) × (bad ≡ false)
    × (first : List Command) × WantsMemoryAfter (listed units) first bytes ended
    × Appends start now (answers units (opening_state units) first)
