-- What a report was told if a check ends early.
use Rattle.std.proofs.Common.{◌≡◌, ℕ, ◌+◌, ◌-◌, ◌<◌, ◌≤◌, Bool, true, false, cond, ltb, List, [], ◌∷◌, ◌++◌, length, take, Option, refl, sym, ap, subst, ◌∙◌, arith, append_assoc}
use Rattle.std.proofs.Math.Seq.{take-append-add}
use Rattle.std.proofs.lemmas.List.{append-nil, length_push}
use Rattle.po_script.proofs.CutLemmas.{full_grows, cut-newline}
use Rattle.po_script.specs.Script.{Cut, cut}
use Rattle.po_script.specs.Units.{ScriptUnits, listed}
use Rattle.po_check.specs.declared.known.Known.{Known}
use Rattle.po_check.specs.declared.known.Known.TheVariants.{Nothing}
use Rattle.po_check.specs.declared.claim.Claim.{Claim}
use Rattle.po_check.specs.declared.error.CheckError.{CheckError}
use Rattle.po_check.specs.declared.error.CheckError.TheVariants.{Read, Write, Memory}
use Rattle.po_check.specs.declared.verdict.Verdict.{Verdict}
use Rattle.po_script.specs.Facts.{Facts}
use Rattle.po_check.specs.Checked.{StandsBy, EndsEarly}
use Rattle.po_check.specs.Claims.{says, known_after, claims_at, claims_from, whole_claims, limit_claim, claims_within, claims_of}
use Rattle.po_check.specs.Reports.{Tells, TellsFirst, FailsAs}
use Rattle.po_check.proofs.CheckLemmas.{tells-nothing, tells-trans, line_says, line_claims, within_all}

pub tells_none : (start now : Option (List Claim)) (claims : List Claim) → now ≡ start → TellsFirst start now claims
tells_none start now claims same = ([], claims, refl, same ∙ tells-nothing start)

pub tells_all : (start now : Option (List Claim)) (claims : List Claim) → Tells start now claims → TellsFirst start now claims
tells_all start now claims told = (claims, [], sym (append-nil claims), told)

-- if a report was told the first of some claims, it was told the first of more claims
pub tells_more : (start now : Option (List Claim)) (claims more : List Claim) → TellsFirst start now claims → TellsFirst start now (claims ++ more)
tells_more start now claims more told = (told.0, told.1 ++ more, ap (λ cs. cs ++ more) told.2 ∙ append_assoc told.0 told.1 more, told.3)

-- all of some claims, and then the first of others
pub tells_then : (start now later : Option (List Claim)) (claims more : List Claim) → Tells start now claims → TellsFirst now later more → TellsFirst start later (claims ++ more)
tells_then start now later claims more told next =
    (claims ++ next.0, next.1, ap (λ cs. claims ++ cs) next.2 ∙ sym (append_assoc claims next.0 next.1), tells-trans start now later claims next.0 told next.3)

module _ (units : ScriptUnits) where
  claims_go_on : (known : Known) (n : ℕ) (ls ms : List (List ℕ)) → (more : List Claim) × (claims_from units known n (ls ++ ms) ≡ claims_from units known n ls ++ more)
  claims_go_on known n [] ms = (claims_from units known n ms, refl)
  claims_go_on known n (l ∷ ls) ms =
      let said = says (listed units) known l in
      let later = claims_go_on (known_after known said) (n + 1) ls ms in
      (later.0, ap (λ cs. claims_at units known n said ++ cs) later.1 ∙ sym (append_assoc (claims_at units known n said) _ later.0))

  -- what is said about whole lines is the first part of what is said about more bytes
  pub whole_go_on : (bytes more : List ℕ) → (claims : List Claim) × (whole_claims units (bytes ++ more) ≡ whole_claims units bytes ++ claims)
  whole_go_on bytes more =
      let grown = full_grows bytes more in
      let later = claims_go_on Nothing 1 (cut bytes).full grown.0 in
      (later.0, ap (λ ls. claims_from units Nothing 1 ls) grown.1 ∙ later.1)

  pub early_more : (start now : Option (List Claim)) (bytes more : List ℕ) → TellsFirst start now (whole_claims units bytes) → TellsFirst start now (whole_claims units (bytes ++ more))
  early_more start now bytes more told =
      let later = whole_go_on bytes more in
      subst (TellsFirst start now) (sym later.1) (tells_more start now (whole_claims units bytes) later.0 told)

  take_within : (most : ℕ) (xs ys : List ℕ) → length xs ≤ most → take most (xs ++ ys) ≡ xs ++ take (most - length xs) ys
  take_within most xs ys h = let e : most ≡ length xs + (most - length xs) = omega arith in ap (λ n. take n (xs ++ ys)) e ∙ take-append-add xs ys (most - length xs)

  -- and of what is said about a script that begins with these bytes
  pub early_within : (most : ℕ) (start now : Option (List Claim)) (bytes more : List ℕ) → length bytes ≤ most → TellsFirst start now (whole_claims units bytes) → TellsFirst start now (claims_within units most (bytes ++ more))
  early_within most start now bytes more few told = go (ltb most (length (bytes ++ more)))
    where
      go : (past : Bool) → TellsFirst start now (cond past (whole_claims units (take most (bytes ++ more)) ++ limit_claim units (cut (take most (bytes ++ more))) ∷ []) (claims_from units Nothing 1 ((cut (bytes ++ more)).full ++ (cut (bytes ++ more)).rest ∷ [])))
      go true =
          let cut_off = subst (λ b. TellsFirst start now (whole_claims units b)) (sym (take_within most bytes more few)) (early_more start now bytes (take (most - length bytes) more) told) in
          tells_more start now (whole_claims units (take most (bytes ++ more))) _ cut_off
      go false =
          let last = claims_go_on Nothing 1 (cut (bytes ++ more)).full ((cut (bytes ++ more)).rest ∷ []) in
          subst (TellsFirst start now) (sym last.1) (tells_more start now (whole_claims units (bytes ++ more)) last.0 (early_more start now bytes more told))

  -- an end that no read caused
  pub early_other : (fault : CheckError) (bytes : List ℕ) (start now : Option (List Claim)) (failed before mid after : Bool) → failed ≡ false → mid ≡ before → FailsAs fault mid after → TellsFirst start now (claims_of units bytes) → EndsEarly units fault bytes start now failed before after
  early_other Read bytes start now failed before mid after fine kept fails told = absurd fails
  early_other Write bytes start now failed before mid after fine kept fails told = (fine, fails, told)
  early_other Memory bytes start now failed before mid after fine kept fails told = (fine, fails ∙ kept, told)

  -- the end if the line that a newline ends was to be told
  pub newline_early : (known : Known) (verdict : Verdict) (facts : Option Facts) (bytes more : List ℕ) (start now later : Option (List Claim)) → StandsBy units known verdict facts bytes start now → length bytes < 67108864 → TellsFirst now later (line_says units known bytes) → TellsFirst start later (claims_of units (bytes ++ 10 ∷ more))
  newline_early known verdict facts bytes more start now later s room told =
      let whole : whole_claims units (bytes ++ 10 ∷ []) ≡ whole_claims units bytes ++ line_says units known bytes =
      ap (λ (c : Cut). claims_from units Nothing 1 c.full) (cut-newline bytes) ∙ line_claims units known verdict facts bytes start now s in
      let here = subst (TellsFirst start later) (sym whole) (tells_then start now later (whole_claims units bytes) (line_says units known bytes) s.told told) in
      subst (λ b. TellsFirst start later (claims_of units b)) (append_assoc bytes (10 ∷ []) more) (early_within 67108864 start later (bytes ++ 10 ∷ []) more (omega (arith, room, length_push bytes 10)) here)

  -- the end if the last line was to be told
  pub finish_early : (known : Known) (verdict : Verdict) (facts : Option Facts) (bytes : List ℕ) (start now later : Option (List Claim)) → StandsBy units known verdict facts bytes start now → length bytes ≤ 67108864 → TellsFirst now later (line_says units known bytes) → TellsFirst start later (claims_of units bytes)
  finish_early known verdict facts bytes start now later s few told =
      let whole : claims_of units bytes ≡ whole_claims units bytes ++ line_says units known bytes =
      within_all units 67108864 bytes few ∙ line_claims units known verdict facts bytes start now s in
      subst (TellsFirst start later) (sym whole) (tells_then start now later (whole_claims units bytes) (line_says units known bytes) s.told told)

  -- the end if the limit of a script was to be told
  pub limit_early : (known : Known) (verdict : Verdict) (facts : Option Facts) (bytes more : List ℕ) (start now later : Option (List Claim)) → StandsBy units known verdict facts bytes start now → length bytes ≤ 67108864 → later ≡ now → TellsFirst start later (claims_of units (bytes ++ more))
  limit_early known verdict facts bytes more start now later s few same =
      early_within 67108864 start later bytes more few (tells_all start later (whole_claims units bytes) (same ∙ s.told))
