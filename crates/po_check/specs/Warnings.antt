-- SPDX-License-Identifier: MIT
-- What a warning means for a run of the same script.
use Rattle.std.specs.Prelude.{ℕ, ◌≡◌, ◌-◌, nat_lt, List, [], ◌∷◌, ◌++◌, length, take, None, Contains, if◌then◌else◌}
use Rattle.po_language.specs.declared.command.Command.{Command}
use Rattle.po_language.specs.declared.command.Command.TheVariants.{Operate}
use Rattle.po_language.specs.declared.command.Operation.{Operation}
use Rattle.po_core.specs.declared.refusal.Refusal.{Refusal}
use Rattle.po_script.specs.Script.{cut, Reading, reading, script_within}
use Rattle.po_script.specs.Ends.{state_after, answers}
use Rattle.po_script.specs.Lines.{refused_line}
use Rattle.po_script.specs.Session.{opening_state}
use Rattle.po_script.specs.SureRefusals.{Refuses}
use Rattle.po_script.specs.Units.{ScriptUnits, listed}
use Rattle.po_check.specs.declared.known.Known.{Known}
use Rattle.po_check.specs.declared.claim.Claim.TheVariants.{IsRefused}
use Rattle.po_check.specs.Claims.{claims_within}

-- the lines of a script that may have `most` bytes; of a longer one, those that end within them
abbrev pub lines_within : ℕ → List ℕ → List (List ℕ)
lines_within most bytes =
    if nat_lt most (length bytes) then (cut (take most bytes)).full else (cut bytes).full ++ (cut bytes).rest ∷ []

module _ (units : ScriptUnits) (most : ℕ) (bytes : List ℕ) where
  -- what the first n lines say to a run
  abbrev pub first_lines : ℕ → Reading
  first_lines n = reading (listed units) None 1 (take n (lines_within most bytes))

  -- A run reaches line n: no line before it has a fault.
  abbrev pub IsReached : ℕ → Type 0
  IsReached n = (first_lines (n - 1)).fault ≡ None

  -- A run carries out the command of line n on the object that the lines before it left; it is refused with this refusal.
  pub record IsRefusedInRun (n : ℕ) (refusal : Refusal) : Type 0 where
    -- the command of the line
    pub operation : Operation
    pub line : (first_lines n).commands ≡ (first_lines (n - 1)).commands ++ Operate operation ∷ []
    pub refused : Refuses units (state_after units (opening_state units) (first_lines (n - 1)).commands) operation refusal
    -- the commands of the lines after it
    pub later : List Command
    pub script : (script_within (listed units) most bytes).commands ≡ (first_lines n).commands ++ later
    -- what the script writes: what the lines before it write, the line of the refusal, and what the lines after it write, which
    -- find the object as the lines before it left it
    pub written : answers units (opening_state units) (script_within (listed units) most bytes).commands
        ≡ answers units (opening_state units) (first_lines (n - 1)).commands
        ++ refused_line refusal
        ++ answers units (state_after units (opening_state units) (first_lines (n - 1)).commands) later

-- If a line has a warning of a refusal, a run that reaches the line refuses it with that refusal.
abbrev pub WarnsOfRefusals : ScriptUnits → ℕ → List ℕ → Type 0
WarnsOfRefusals units most bytes =
    (n : ℕ) (refusal : Refusal) (known : Known)
    → Contains (claims_within units most bytes) (IsRefused n refusal known)
    → IsReached units most bytes n
    → IsRefusedInRun units most bytes n refusal

-- This holds for each script: one has at most 67,108,864 bytes.
abbrev pub WarningsComeTrue : ScriptUnits → Type 0
WarningsComeTrue units = (bytes : List ℕ) → WarnsOfRefusals units 67108864 bytes
