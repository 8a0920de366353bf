-- SPDX-License-Identifier: MIT
-- What a check of a script says: which lines have a fault, and which are sure to be refused.
use Rattle.std.specs.Prelude.{ℕ, ◌+◌, nat_lt, List, [], ◌∷◌, ◌++◌, length, take, Option, Some, None, Result, Ok, Err, if◌then◌else◌}
use Rattle.po_language.specs.Commands.{form_of}
use Rattle.po_language.specs.Units.{UnitList}
use Rattle.po_language.specs.declared.command.Command.{Command}
use Rattle.po_language.specs.declared.command.Command.TheVariants.{Begin, Operate}
use Rattle.po_language.specs.declared.command.FaultKind.{FaultKind}
use Rattle.po_language.specs.declared.command.FaultKind.TheVariants.{ScriptTooLong, LineTooLong}
use Rattle.po_core.specs.declared.refusal.Refusal.{Refusal}
use Rattle.po_script.specs.Script.{Cut, cut, line_of}
use Rattle.po_script.specs.Facts.{facts_at, sure_refusal}
use Rattle.po_script.specs.Units.{ScriptUnits, listed}
use Rattle.po_check.specs.declared.known.Known.{Known}
use Rattle.po_check.specs.declared.known.Known.TheVariants.{Nothing, Begun, Unclear}
use Rattle.po_check.specs.declared.claim.Claim.{Claim}
use Rattle.po_check.specs.declared.claim.Claim.TheVariants.{HasFault, IsRefused}
use Rattle.po_check.specs.declared.verdict.Verdict.{Verdict}
use Rattle.po_check.specs.declared.verdict.Verdict.TheVariants.{Clean, Faulty}

-- What a line says: a command, nothing, or its fault. As long as no line before it has a fault, that is what it says in a run.
-- If the unit isn't known, only the form of the line is judged.
abbrev pub says : UnitList → Known → List ℕ → Result (Option Command) FaultKind
says units Nothing line = line_of units None line
says units (Begun unit) line = line_of units (Some unit) line
says units Unclear line = if nat_lt 4096 (length line) then Err LineTooLong else form_of units line

-- what is known about the unit after a line; a fault before a unit is begun leaves open which one was meant
abbrev pub known_after : Known → Result (Option Command) FaultKind → Known
known_after known (Ok None) = known
known_after known (Ok (Some (Begin beginning))) = Begun beginning.unit
known_after known (Ok (Some (Operate operation))) = known
known_after (Begun unit) (Err kind) = Begun unit
known_after Nothing (Err kind) = Unclear
known_after Unclear (Err kind) = Unclear

-- the refusal that a line's command is sure to meet
abbrev pub refusal_at : ScriptUnits → Known → Option Command → Option Refusal
refusal_at units (Begun unit) (Some (Operate operation)) = sure_refusal (facts_at units unit.number unit.size) operation
refusal_at units known command = None

abbrev pub warning : ℕ → Known → Option Refusal → List Claim
warning n known None = []
warning n known (Some refusal) = IsRefused n refusal known ∷ []

-- what is said about line n and what is known about the unit before it: its fault, or that it is sure to be refused
abbrev pub claims_at : ScriptUnits → Known → ℕ → Result (Option Command) FaultKind → List Claim
claims_at units known n (Err kind) = HasFault n kind known ∷ []
claims_at units known n (Ok command) = warning n known (refusal_at units known command)

-- what is said about the lines from number n on
abbrev pub claims_from : ScriptUnits → Known → ℕ → List (List ℕ) → List Claim
claims_from units known n [] = []
claims_from units known n (line ∷ lines) =
    claims_at units known n (says (listed units) known line)
    ++ claims_from units (known_after known (says (listed units) known line)) (n + 1) lines

-- what is known about the unit after these lines
abbrev pub known_behind : ScriptUnits → Known → List (List ℕ) → Known
known_behind units known [] = known
known_behind units known (line ∷ lines) = known_behind units (known_after known (says (listed units) known line)) lines

-- what is said about the lines that a newline ends
abbrev pub whole_claims : ScriptUnits → List ℕ → List Claim
whole_claims units bytes = claims_from units Nothing 1 (cut bytes).full

-- the fault of the line at whose end the script becomes too long
abbrev pub limit_claim : ScriptUnits → Cut → Claim
limit_claim units c = HasFault (length c.full + 1) (if nat_lt 4096 (length c.rest) then LineTooLong else ScriptTooLong) (known_behind units Nothing c.full)

-- what is said about a script that may have `most` bytes; what comes after the last newline is a line too
abbrev pub claims_within : ScriptUnits → ℕ → List ℕ → List Claim
claims_within units most bytes =
    if nat_lt most (length bytes)
    then whole_claims units (take most bytes) ++ limit_claim units (cut (take most bytes)) ∷ []
    else claims_from units Nothing 1 ((cut bytes).full ++ (cut bytes).rest ∷ [])

-- what is said about the script, line by line: a script has at most 67,108,864 bytes
abbrev pub claims_of : ScriptUnits → List ℕ → List Claim
claims_of units bytes = claims_within units 67108864 bytes

-- the first fault that is said, with its line
abbrev pub first_fault : List Claim → Option (ℕ × FaultKind)
first_fault [] = None
first_fault (HasFault n kind known ∷ claims) = Some (n, kind)
first_fault (IsRefused n refusal known ∷ claims) = first_fault claims

-- the result of a check that said these claims, after its result so far
abbrev pub verdict_with : Verdict → List Claim → Verdict
verdict_with verdict [] = verdict
verdict_with verdict (claim ∷ claims) = Faulty

-- the result of a check that said these claims: it is clean exactly if there are none
abbrev pub verdict_of : List Claim → Verdict
verdict_of claims = verdict_with Clean claims
