-- SPDX-License-Identifier: MIT
-- How far a check has come, and how a part of the script moves it on.
use Rattle.std.specs.Prelude.{ℕ, Bool, List, ◌++◌, Option}
use Rattle.po_script.specs.Cutter.{Cuts, waiting}
use Rattle.po_script.specs.Units.{ScriptUnits}
use Rattle.po_check.specs.declared.claim.Claim.{Claim}
use Rattle.po_check.specs.declared.check.Check.{Check}
use Rattle.po_check.specs.declared.error.CheckError.{CheckError}
use Rattle.po_check.specs.Checked.{StandsBy}
use Rattle.po_check.specs.Claims.{claims_of}
use Rattle.po_check.specs.Reports.{TellsFirst, FailsAs}

-- The check has cut these bytes, and told what there is to say about their whole lines. `start` and `left` are what the source
-- had to give at the start and has now, `first` and `reads` how many reads it counted then and now, and `had` and `has` what
-- the report was told then and now.
pub record Stands (units : ScriptUnits) (check : Check) (bytes : List ℕ) (start left : Option (List ℕ)) (first reads : Option ℕ)
    (had has : Option (List Claim)) : Type 0 where
  pub cuts : Cuts check.lines bytes start left first reads
  pub tells : StandsBy units check.checker.known check.checker.verdict check.checker.facts bytes had has

-- This piece was cut after what was cut before, and what there is to say about its lines was told.
abbrev pub GoesOn : ScriptUnits → Check → Check → List ℕ → Option (List Claim) → Option (List Claim) → Type 0
GoesOn units old new piece now has =
    (bytes : List ℕ) (start left : Option (List ℕ)) (first reads : Option ℕ) (had : Option (List Claim))
    → Stands units old bytes start left first reads had now → Stands units new (bytes ++ piece) start left first reads had has

-- The check ended early, since the report failed or memory ran out; `before` and `after` are whether a write of the report had
-- failed. The report was told the first part of what there is to say about the bytes that were cut and those that wait.
abbrev pub EndsIn : ScriptUnits → CheckError → Check → Option (List Claim) → Option (List Claim) → Bool → Bool → Type 0
EndsIn units fault old now has before after =
    FailsAs fault before after
    × ((bytes : List ℕ) (start left : Option (List ℕ)) (first reads : Option ℕ) (had : Option (List Claim))
    → Stands units old bytes start left first reads had now → TellsFirst had has (claims_of units (bytes ++ waiting old.lines)))
