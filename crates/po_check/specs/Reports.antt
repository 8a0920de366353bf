-- SPDX-License-Identifier: MIT
-- What a report was told.
use Rattle.std.specs.Prelude.{ℕ, ◌≡◌, Bool, true, List, [], ◌∷◌, ◌++◌, Option, Some, None}
use Rattle.std.specs.Option.{option_map}
use Rattle.po_check.specs.declared.claim.Claim.{Claim}
use Rattle.po_check.specs.declared.error.CheckError.{CheckError}
use Rattle.po_check.specs.declared.error.CheckError.TheVariants.{Read, Write, Memory}
use Rattle.po_check.specs.declared.claim.Claim.TheVariants.{HasFault, IsRefused}
use Rattle.po_check.specs.declared.known.Known.{Known}
use Rattle.po_check.specs.declared.finding.Finding.{Finding}
use Rattle.po_check.specs.declared.finding.Found.{Found}
use Rattle.po_check.specs.declared.finding.Found.TheVariants.{Fault, Refused}
use Rattle.po_language.specs.Faults.{kind_of}

-- It was told these claims after what it was told before, if it says what it was told. A report that doesn't say so never does.
abbrev pub Tells : Option (List Claim) → Option (List Claim) → List Claim → Type 0
Tells old new claims = new ≡ option_map (λ before. before ++ claims) old

-- It was told the first of these claims, after what it was told before, and none of the later ones.
abbrev pub TellsFirst : Option (List Claim) → Option (List Claim) → List Claim → Type 0
TellsFirst old new claims =
    (first : List Claim) × (later : List Claim) × (claims ≡ first ++ later) × Tells old new first

-- How a report may fail, given whether a write of it had failed before and has now: with Write only if one has. It reads nothing.
abbrev pub FailsAs : CheckError → Bool → Bool → Type 0
FailsAs Read before now = ⊥
FailsAs Write before now = now ≡ true
FailsAs Memory before now = now ≡ before

-- what is said about line n, given what was known about the unit before it and what was found there
abbrev pub claim_by : ℕ → Known → Found → Claim
claim_by n known (Fault fault) = HasFault n (kind_of fault.reason) known
claim_by n known (Refused operation refusal) = IsRefused n refusal known

-- what a finding says
abbrev pub claim_of : Finding → Claim
claim_of finding = claim_by finding.number finding.known finding.found

-- what is said about line n, given what was known about the unit before it and what was found there, if anything was
abbrev pub claims_of_found : ℕ → Known → Option Found → List Claim
claims_of_found n known None = []
claims_of_found n known (Some found) = claim_by n known found ∷ []
