-- What is said about lines that are put together, and how far a check has come.
use Rattle.std.proofs.Common.{◌≡◌, ℕ, suc, ◌+◌, ◌≤◌, Bool, true, false, cond, eqb, ltb, List, [], ◌∷◌, ◌++◌, length, take, Option, Some, None, Result, Ok, Err, IfOk, OnOk, refl, sym, ap, ◌∙◌, inl, inr, arith, append_assoc, length-append}
use Rattle.std.proofs.lemmas.Bool.{cases_Bool, lt-ltb, le-ltb, ltb-true, ltb-false}
use Rattle.std.proofs.lemmas.List.{append-nil, take_all, take_at, length-take-le}
use Rattle.po_language.specs.declared.command.FaultKind.{FaultKind}
use Rattle.po_language.specs.declared.command.FaultKind.TheVariants.{ScriptTooLong, LineTooLong}
use Rattle.po_language.specs.Units.{UnitList}
use Rattle.po_script.specs.Script.{Cut, cut}
use Rattle.po_script.proofs.CutLemmas.{cut-newline, cut-letter}
use Rattle.po_script.proofs.CutterLemmas.{kept_long}
use Rattle.po_script.specs.Facts.{Facts}
use Rattle.po_script.specs.Units.{ScriptUnits, listed}
use Rattle.po_check.specs.declared.known.Known.{Known}
use Rattle.po_check.specs.declared.known.Known.TheVariants.{Nothing, Begun, Unclear}
use Rattle.po_check.specs.declared.claim.Claim.{Claim}
use Rattle.po_check.specs.declared.claim.Claim.TheVariants.{HasFault}
use Rattle.po_check.specs.declared.verdict.Verdict.{Verdict}
use Rattle.po_check.specs.declared.verdict.Verdict.TheVariants.{Clean, Faulty}
use Rattle.po_check.specs.Claims.{says, known_after, claims_at, claims_from, known_behind, whole_claims, limit_claim, claims_within, claims_of, verdict_with, verdict_of}
use Rattle.po_check.specs.Reports.{Tells}
use Rattle.po_check.specs.Checked.{facts_known, StandsBy}

pub verdict-append : (v : Verdict) (xs ys : List Claim) → verdict_with v (xs ++ ys) ≡ verdict_with (verdict_with v xs) ys
verdict-append v [] ys = refl
verdict-append v (x ∷ xs) [] = ap (λ l. verdict_with v l) (append-nil (x ∷ xs))
verdict-append v (x ∷ xs) (y ∷ ys) = refl

pub tells-nothing : (start : Option (List Claim)) → Tells start start []
tells-nothing None = refl
tells-nothing (Some l) = ap (λ (l : List Claim). Some l) (sym (append-nil l))

pub tells-trans : (a b c : Option (List Claim)) (xs ys : List Claim) → Tells a b xs → Tells b c ys → Tells a c (xs ++ ys)
tells-trans None b c xs ys first second = rw first at second
tells-trans (Some l) b c xs ys first second = (rw first at second) ∙ ap (λ (l : List Claim). Some l) (append_assoc l xs ys)

says_long : (units : UnitList) (known : Known) (line : List ℕ) → ltb 4096 (length line) ≡ true → says units known line ≡ Err LineTooLong
says_long units Nothing line long = simp long refl
says_long units (Begun unit) line long = simp long refl
says_long units Unclear line long = simp long refl

-- the bytes of a line that are kept say what the line says
pub says_kept : (units : UnitList) (known : Known) (line : List ℕ) → says units known (take 4097 line) ≡ says units known line
says_kept units known line = elim (cases_Bool (ltb 4096 (length line))) [
  | inl long ↦
      let above = ltb-true 4096 (length line) long in
      let more : 4097 ≤ length line = omega (arith, above) in
      let kept : ltb 4096 (length (take 4097 line)) ≡ true = lt-ltb 4096 _ (omega (arith, length-take-le 4097 line more)) in
      says_long units known (take 4097 line) kept ∙ sym (says_long units known line long)
  | inr short ↦ ap (λ l. says units known l) (take_all 4097 line (omega (arith, ltb-false 4096 (length line) short)))
]

pub ok_weaker : {T E : Type 0} (P Q : T → Type 0) (r : Result T E) → ((v : T) → P v → Q v) → IfOk r P → IfOk r Q
ok_weaker P Q (Ok v) f h = f v h
ok_weaker P Q (Err e) f h = tt

pub ok_both : {T E : Type 0} (P : T → Type 0) (Q : Type 0) (r : Result T E) → IfOk r P → OnOk r Q → IfOk r (λ v. P v × Q)
ok_both P Q (Ok v) p q = (p, q)
ok_both P Q (Err e) p q = tt

module _ (units : ScriptUnits) where
  -- one more line
  pub known-push : (known : Known) (ls : List (List ℕ)) (l : List ℕ) → known_behind units known (ls ++ l ∷ []) ≡ known_after (known_behind units known ls) (says (listed units) (known_behind units known ls) l)
  known-push known [] l = refl
  known-push known (m ∷ ls) l = known-push (known_after known (says (listed units) known m)) ls l

  pub claims-push : (known : Known) (n : ℕ) (ls : List (List ℕ)) (l : List ℕ) → claims_from units known n (ls ++ l ∷ []) ≡ claims_from units known n ls ++ claims_at units (known_behind units known ls) (n + length ls) (says (listed units) (known_behind units known ls) l)
  claims-push known n [] l = let e : n + 0 ≡ n = omega arith in rw e (append-nil _)
  claims-push known n (m ∷ ls) l =
      let shift : n + suc (length ls) ≡ n + 1 + length ls = omega arith in
      rw shift (ap (λ cs. claims_at units known n (says (listed units) known m) ++ cs) (claims-push (known_after known (says (listed units) known m)) (n + 1) ls l) ∙ sym (append_assoc (claims_at units known n (says (listed units) known m)) _ _))

  -- what is said about the line being read, once it ends
  abbrev pub line_says : Known → List ℕ → List Claim
  line_says known bytes = claims_at units known (length (cut bytes).full + 1) (says (listed units) known (cut bytes).rest)

  pub line_claims : (known : Known) (verdict : Verdict) (facts : Option Facts) (bytes : List ℕ) (start now : Option (List Claim)) → StandsBy units known verdict facts bytes start now → claims_from units Nothing 1 ((cut bytes).full ++ (cut bytes).rest ∷ []) ≡ whole_claims units bytes ++ line_says known bytes
  line_claims known verdict facts bytes start now s =
      let n : 1 + length (cut bytes).full ≡ length (cut bytes).full + 1 = omega arith in
      claims-push Nothing 1 (cut bytes).full (cut bytes).rest ∙ rw (n, ← s.known_is) refl

  pub newline_stands : (known knows : Known) (verdict becomes : Verdict) (facts has : Option Facts) (bytes : List ℕ) (start now later : Option (List Claim)) → StandsBy units known verdict facts bytes start now → knows ≡ known_after known (says (listed units) known (cut bytes).rest) → has ≡ facts_known units knows → becomes ≡ verdict_with verdict (line_says known bytes) → Tells now later (line_says known bytes) → StandsBy units knows becomes has (bytes ++ 10 ∷ []) start later
  newline_stands known knows verdict becomes facts has bytes start now later s ek ef ev told =
      let e = cut-newline bytes in
      let whole : whole_claims units (bytes ++ 10 ∷ []) ≡ whole_claims units bytes ++ line_says known bytes = ap (λ (c : Cut). claims_from units Nothing 1 c.full) e ∙ line_claims known verdict facts bytes start now s in
      record {
        known_is = ek ∙ rw s.known_is (sym (known-push Nothing (cut bytes).full (cut bytes).rest)) ∙ ap (λ (c : Cut). known_behind units Nothing c.full) (sym e);
        facts_are = ef;
        verdict_is = ev ∙ rw (whole, s.verdict_is) (sym (verdict-append Clean (whole_claims units bytes) _));
        told = rw whole (tells-trans start now later _ _ s.told told);
      }

  pub letter_stands : (known : Known) (verdict : Verdict) (facts : Option Facts) (bytes : List ℕ) (start now : Option (List Claim)) (b : ℕ) → StandsBy units known verdict facts bytes start now → eqb b 10 ≡ false → StandsBy units known verdict facts (bytes ++ b ∷ []) start now
  letter_stands known verdict facts bytes start now b s other =
      let e = cut-letter bytes b other in
      let whole : whole_claims units (bytes ++ b ∷ []) ≡ whole_claims units bytes = ap (λ (c : Cut). claims_from units Nothing 1 c.full) e in
      record {
        known_is = s.known_is ∙ ap (λ (c : Cut). known_behind units Nothing c.full) (sym e);
        facts_are = s.facts_are;
        verdict_is = rw whole s.verdict_is;
        told = rw whole s.told;
      }

  pub within_all : (most : ℕ) (bytes : List ℕ) → length bytes ≤ most → claims_within units most bytes ≡ claims_from units Nothing 1 ((cut bytes).full ++ (cut bytes).rest ∷ [])
  within_all most bytes h = ap (λ (b : Bool). cond b (whole_claims units (take most bytes) ++ limit_claim units (cut (take most bytes)) ∷ []) (claims_from units Nothing 1 ((cut bytes).full ++ (cut bytes).rest ∷ []))) (le-ltb most (length bytes) h)

  within_past : (most : ℕ) (bytes : List ℕ) (b : ℕ) (more : List ℕ) → length bytes ≡ most → claims_within units most (bytes ++ b ∷ more) ≡ whole_claims units bytes ++ limit_claim units (cut bytes) ∷ []
  within_past most bytes b more all =
      let past = lt-ltb most (length (bytes ++ b ∷ more)) (omega (arith, length-append bytes (b ∷ more))) in
      ap (λ (p : Bool). cond p (whole_claims units (take most (bytes ++ b ∷ more)) ++ limit_claim units (cut (take most (bytes ++ b ∷ more))) ∷ []) (claims_from units Nothing 1 ((cut (bytes ++ b ∷ more)).full ++ (cut (bytes ++ b ∷ more)).rest ∷ []))) past
      ∙ ap (λ l. whole_claims units l ++ limit_claim units (cut l) ∷ []) (take_at bytes (b ∷ more) most all)

  pub finish_ends : (known : Known) (verdict becomes : Verdict) (facts : Option Facts) (bytes : List ℕ) (start now later : Option (List Claim)) → StandsBy units known verdict facts bytes start now → length bytes ≤ 67108864 → becomes ≡ verdict_with verdict (line_says known bytes) → Tells now later (line_says known bytes) → Tells start later (claims_of units bytes) × (becomes ≡ verdict_of (claims_of units bytes))
  finish_ends known verdict becomes facts bytes start now later s few ev told =
      let whole : claims_of units bytes ≡ whole_claims units bytes ++ line_says known bytes = within_all 67108864 bytes few ∙ line_claims known verdict facts bytes start now s in
      (rw whole (tells-trans start now later _ _ s.told told), ev ∙ rw (whole, s.verdict_is) (sym (verdict-append Clean (whole_claims units bytes) _)))

  faulty : (v : Verdict) (claims : List Claim) (c : Claim) → Faulty ≡ verdict_with v (claims ++ c ∷ [])
  faulty v [] c = refl
  faulty v (d ∷ claims) c = refl

  pub past_ends : (known : Known) (verdict : Verdict) (facts : Option Facts) (bytes : List ℕ) (b : ℕ) (more : List ℕ) (start now later : Option (List Claim)) (kind : FaultKind) → StandsBy units known verdict facts bytes start now → length bytes ≡ 67108864 → kind ≡ cond (ltb 4096 (length (take 4097 (cut bytes).rest))) LineTooLong ScriptTooLong → Tells now later (HasFault (length (cut bytes).full + 1) kind known ∷ []) → Tells start later (claims_of units (bytes ++ b ∷ more)) × (Faulty ≡ verdict_of (claims_of units (bytes ++ b ∷ more)))
  past_ends known verdict facts bytes b more start now later kind s all ek told =
      let claim = HasFault (length (cut bytes).full + 1) kind known in
      let limit : claim ≡ limit_claim units (cut bytes) = rw (ek, kept_long (cut bytes).rest, s.known_is) refl in
      let whole : claims_of units (bytes ++ b ∷ more) ≡ whole_claims units bytes ++ claim ∷ [] = within_past 67108864 bytes b more all ∙ ap (λ c. whole_claims units bytes ++ c ∷ []) (sym limit) in
      (rw whole (tells-trans start now later _ _ s.told told), rw whole (faulty Clean (whole_claims units bytes) claim))
