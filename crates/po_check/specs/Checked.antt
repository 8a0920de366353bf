-- SPDX-License-Identifier: MIT
-- How far a check has come.
use Rattle.std.specs.Prelude.{ℕ, ◌≡◌, ◌<◌, ◌⊎◌, Bool, true, false, List, length, Option, Some, None}
use Rattle.std.specs.Io.KnownBytes.{IsAtEnd}
use Rattle.po_script.specs.Script.{cut}
use Rattle.po_script.specs.Facts.{Facts, facts_at}
use Rattle.po_script.specs.Units.{ScriptUnits}
use Rattle.po_check.specs.declared.known.Known.{Known}
use Rattle.po_check.specs.declared.known.Known.TheVariants.{Nothing, Begun, Unclear}
use Rattle.po_check.specs.declared.claim.Claim.{Claim}
use Rattle.po_check.specs.declared.verdict.Verdict.{Verdict}
use Rattle.po_check.specs.Claims.{known_behind, whole_claims, claims_of, verdict_of}
use Rattle.po_check.specs.Reports.{Tells, TellsFirst, FailsAs}
use Rattle.po_check.specs.declared.error.CheckError.{CheckError}
use Rattle.po_check.specs.declared.error.CheckError.TheVariants.{Read}

-- the facts of the unit, if it is known
abbrev pub facts_known : ScriptUnits → Known → Option Facts
facts_known units Nothing = None
facts_known units (Begun unit) = Some (facts_at units unit.number unit.size)
facts_known units Unclear = None

-- These bytes were cut, and all that there is to say about their whole lines was said: what the report was told at the start,
-- and now.
pub record StandsBy (units : ScriptUnits) (known : Known) (verdict : Verdict) (facts : Option Facts)
    (bytes : List ℕ) (start now : Option (List Claim)) : Type 0 where
  pub known_is : known ≡ known_behind units Nothing (cut bytes).full
  pub facts_are : facts ≡ facts_known units known
  pub verdict_is : verdict ≡ verdict_of (whole_claims units bytes)
  pub told : Tells start now (whole_claims units bytes)

-- What a check of these bytes came to. The reader's end was reached, or there are more bytes than a script may have; and no
-- read failed, and no write of the report: `before` and `after` are whether one had failed. The report was told what there is to say about the bytes, and the verdict is clean exactly if that is nothing.
pub record IsChecked (units : ScriptUnits) (verdict : Verdict) (bytes : List ℕ) (start now : Option (List Claim))
    (left : Option (List ℕ)) (ended failed before after : Bool) : Type 0 where
  pub whole : ((ended ≡ true) × IsAtEnd left) ⊎ (67108864 < length bytes)
  pub read : failed ≡ false
  pub written : after ≡ before
  pub told : Tells start now (claims_of units bytes)
  pub verdict_is : verdict ≡ verdict_of (claims_of units bytes)

-- What a check that read these bytes came to, if it ended early. If a read failed, the report was told what there is to say
-- about their whole lines. If a write of the report failed, or memory ran out, it was told the first part of what there is to
-- say about the bytes.
abbrev pub EndsEarly : ScriptUnits → CheckError → List ℕ → Option (List Claim) → Option (List Claim) → Bool → Bool → Bool → Type 0
EndsEarly units Read bytes start now failed before after = (failed ≡ true) × (after ≡ before) × Tells start now (whole_claims units bytes)
EndsEarly units fault bytes start now failed before after = (failed ≡ false) × FailsAs fault before after × TellsFirst start now (claims_of units bytes)
