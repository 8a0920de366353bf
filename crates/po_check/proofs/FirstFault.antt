-- The first fault that a check tells is that of a run.
use Rattle.std.proofs.Common.{◌≡◌, ℕ, ◌+◌, Bool, true, false, cond, ltb, List, [], ◌∷◌, ◌++◌, length, take, Option, Some, None, Result, Ok, Err, refl, ap, ◌∙◌}
use Rattle.po_language.specs.declared.command.UnitChoice.{UnitChoice}
use Rattle.po_language.specs.declared.command.Command.{Command}
use Rattle.po_language.specs.declared.command.Command.TheVariants.{Begin, Operate}
use Rattle.po_language.specs.declared.command.FaultKind.{FaultKind}
use Rattle.po_script.specs.Script.{Cut, cut, Reading, reading, with_line, line_of, whole_lines, past_limit, script_within}
use Rattle.po_script.specs.Units.{ScriptUnits, listed}
use Rattle.po_core.specs.declared.refusal.Refusal.{Refusal}
use Rattle.po_check.specs.declared.known.Known.{Known}
use Rattle.po_check.specs.declared.known.Known.TheVariants.{Nothing, Begun}
use Rattle.po_check.specs.declared.claim.Claim.{Claim}
use Rattle.po_check.specs.declared.claim.Claim.TheVariants.{HasFault, IsRefused}
use Rattle.po_check.specs.Claims.{says, known_after, refusal_at, warning, claims_at, claims_from, whole_claims, limit_claim, claims_within, first_fault}

-- what is known in a check if a run has begun this unit
abbrev pub known_of : Option UnitChoice → Known
known_of None = Nothing
known_of (Some unit) = Begun unit

pub says_same : (units : ScriptUnits) (begun : Option UnitChoice) (line : List ℕ) → says (listed units) (known_of begun) line ≡ line_of (listed units) begun line
says_same units None line = refl
says_same units (Some unit) line = refl

warning_first : (n : ℕ) (known : Known) (refusal : Option Refusal) (later : List Claim) → first_fault (warning n known refusal ++ later) ≡ first_fault later
warning_first n known None later = refl
warning_first n known (Some refusal) later = refl

module _ (units : ScriptUnits) where
  line_first : (n : ℕ) (begun : Option UnitChoice) (said : Result (Option Command) FaultKind) (later : Known → List Claim) (reads : Option UnitChoice → Reading) → ((begun : Option UnitChoice) → first_fault (later (known_of begun)) ≡ (reads begun).fault) → first_fault (claims_at units (known_of begun) n said ++ later (known_after (known_of begun) said)) ≡ (with_line n begun said reads).fault
  line_first n begun (Err kind) later reads same = refl
  line_first n begun (Ok None) later reads same = warning_first n (known_of begun) (refusal_at units (known_of begun) None) _ ∙ same begun
  line_first n begun (Ok (Some (Begin beginning))) later reads same = warning_first n (known_of begun) (refusal_at units (known_of begun) (Some (Begin beginning))) _ ∙ same (Some beginning.unit)
  line_first n begun (Ok (Some (Operate operation))) later reads same = warning_first n (known_of begun) (refusal_at units (known_of begun) (Some (Operate operation))) _ ∙ same begun

  pub lines_first : (begun : Option UnitChoice) (n : ℕ) (ls : List (List ℕ)) → first_fault (claims_from units (known_of begun) n ls) ≡ (reading (listed units) begun n ls).fault
  lines_first begun n [] = refl
  lines_first begun n (l ∷ ls) =
      ap (λ said. first_fault (claims_at units (known_of begun) n said ++ claims_from units (known_after (known_of begun) said) (n + 1) ls)) (says_same units begun l)
      ∙ line_first n begun (line_of (listed units) begun l) (λ known. claims_from units known (n + 1) ls) (λ later. reading (listed units) later (n + 1) ls) (λ later. lines_first later (n + 1) ls)

  -- the fault of the limit comes first if none came before
  limit_first : (claims : List Claim) (fault : Option (ℕ × FaultKind)) (cs : List Command) (c : Cut) → first_fault claims ≡ fault → first_fault (claims ++ limit_claim units c ∷ []) ≡ (past_limit cs fault c).fault
  limit_first claims None cs c e = last_first claims e
    where
      last_first : (claims : List Claim) → first_fault claims ≡ None → first_fault (claims ++ limit_claim units c ∷ []) ≡ first_fault (limit_claim units c ∷ [])
      last_first [] none = refl
      last_first (HasFault n kind known ∷ claims) none = absurd cc
      last_first (IsRefused n refusal known ∷ claims) none = last_first claims none
  limit_first claims (Some fault) cs c e = kept_first claims e
    where
      kept_first : (claims : List Claim) → first_fault claims ≡ Some fault → first_fault (claims ++ limit_claim units c ∷ []) ≡ Some fault
      kept_first [] none = absurd cc
      kept_first (HasFault n kind known ∷ claims) some = some
      kept_first (IsRefused n refusal known ∷ claims) some = kept_first claims some

  pub within_first : (most : ℕ) (bytes : List ℕ) → first_fault (claims_within units most bytes) ≡ (script_within (listed units) most bytes).fault
  within_first most bytes = go (ltb most (length bytes))
    where
      go : (past : Bool) → first_fault (cond past (whole_claims units (take most bytes) ++ limit_claim units (cut (take most bytes)) ∷ []) (claims_from units Nothing 1 ((cut bytes).full ++ (cut bytes).rest ∷ []))) ≡ (cond past (past_limit (whole_lines (listed units) (take most bytes)).commands (whole_lines (listed units) (take most bytes)).fault (cut (take most bytes))) (reading (listed units) None 1 ((cut bytes).full ++ (cut bytes).rest ∷ []))).fault
      go true = limit_first (whole_claims units (take most bytes)) (whole_lines (listed units) (take most bytes)).fault _ (cut (take most bytes)) (lines_first None 1 (cut (take most bytes)).full)
      go false = lines_first None 1 ((cut bytes).full ++ (cut bytes).rest ∷ [])
