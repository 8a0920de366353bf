-- What stays of a script's reading as bytes are added.
use Rattle.std.proofs.Common.{◌≡◌, ◌⊎◌, ℕ, ◌+◌, ◌-◌, ◌<◌, ◌≤◌, Bool, true, false, cond, ltb, List, [], ◌∷◌, ◌++◌, length, take, Option, Some, None, Err, refl, sym, ap, ◌∙◌, inl, inr, arith, append_assoc, length-append}
use Rattle.std.proofs.lemmas.Bool.{cases_Bool, lt-ltb, le-ltb}
use Rattle.std.proofs.lemmas.List.{take_at}
use Rattle.std.proofs.Math.Seq.{take-append-add}
use Rattle.po_script.proofs.CutLemmas.{glue, cut-append, full_grows}
use Rattle.po_script.proofs.ReadingLemmas.{extend, reading-push, reading_kept, reading_front}
use Rattle.po_script.specs.Script.{Cut, cut, Reading, reading, whole_lines, line_of, past_limit, script_within}
use Rattle.po_language.specs.declared.command.UnitChoice.{UnitChoice}
use Rattle.po_language.specs.declared.command.Command.{Command}
use Rattle.po_language.specs.declared.command.FaultKind.{FaultKind}
use Rattle.po_language.specs.declared.command.FaultKind.TheVariants.{ScriptTooLong, LineTooLong}
use Rattle.po_language.specs.Units.{UnitList}

module _ (units : UnitList) where
  take-append-within : (most : ℕ) (xs ys : List ℕ) → length xs ≤ most → take most (xs ++ ys) ≡ xs ++ take (most - length xs) ys
  take-append-within most xs ys h = let e : most ≡ length xs + (most - length xs) = omega arith in ap (λ n. take n (xs ++ ys)) e ∙ take-append-add xs ys (most - length xs)

  script_within-past : (most : ℕ) (bytes : List ℕ) → ltb most (length bytes) ≡ true → script_within units most bytes ≡ past_limit (whole_lines units (take most bytes)).commands (whole_lines units (take most bytes)).fault (cut (take most bytes))
  script_within-past most bytes past = ap (λ (b : Bool). cond b (past_limit (whole_lines units (take most bytes)).commands (whole_lines units (take most bytes)).fault (cut (take most bytes))) (reading units None 1 ((cut bytes).full ++ (cut bytes).rest ∷ []))) past

  pub script_within-all : (most : ℕ) (bytes : List ℕ) → ltb most (length bytes) ≡ false → script_within units most bytes ≡ reading units None 1 ((cut bytes).full ++ (cut bytes).rest ∷ [])
  script_within-all most bytes within = ap (λ (b : Bool). cond b (past_limit (whole_lines units (take most bytes)).commands (whole_lines units (take most bytes)).fault (cut (take most bytes))) (reading units None 1 ((cut bytes).full ++ (cut bytes).rest ∷ []))) within

  past_limit-commands : (cs : List Command) (f : Option (ℕ × FaultKind)) (c : Cut) → (past_limit cs f c).commands ≡ cs
  past_limit-commands cs None c = refl
  past_limit-commands cs (Some f) c = refl

  past_limit-fault : (r : Reading) (f : ℕ × FaultKind) (c : Cut) → r.fault ≡ Some f → past_limit r.commands r.fault c ≡ r
  past_limit-fault r f c bad = ap (λ (o : Option (ℕ × FaultKind)). past_limit r.commands o c) bad ∙ ap (λ (o : Option (ℕ × FaultKind)). let q : Reading = record { commands = r.commands; fault = o } in q) (sym bad)

  -- the whole lines of more bytes begin with the commands so far
  pub script_front : (most : ℕ) (bytes more : List ℕ) → length bytes ≤ most → (cs : List Command) × ((script_within units most (bytes ++ more)).commands ≡ (whole_lines units bytes).commands ++ cs)
  script_front most bytes more h = elim (cases_Bool (ltb most (length (bytes ++ more)))) [
    | inl past ↦
        let m = full_grows bytes (take (most - length bytes) more) in
        let r = reading_front units None 1 (cut bytes).full m.0 in
        (r.0, ap (λ (q : Reading). q.commands) (script_within-past most (bytes ++ more) past) ∙ past_limit-commands _ _ _ ∙ ap (λ b. (whole_lines units b).commands) (take-append-within most bytes more h) ∙ ap (λ ls. (reading units None 1 ls).commands) m.1 ∙ r.1)
    | inr within ↦
        let m = full_grows bytes more in
        let last = (cut (bytes ++ more)).rest ∷ [] in
        let r = reading_front units None 1 (cut bytes).full (m.0 ++ last) in
        (r.0, ap (λ (q : Reading). q.commands) (script_within-all most (bytes ++ more) within) ∙ ap (λ ls. (reading units None 1 (ls ++ last)).commands) m.1 ∙ ap (λ ls. (reading units None 1 ls).commands) (append_assoc (cut bytes).full m.0 last) ∙ r.1)
  ]

  -- the first fault stays the first
  pub script_fault : (most : ℕ) (bytes more : List ℕ) (f : ℕ × FaultKind) → length bytes ≤ most → (whole_lines units bytes).fault ≡ Some f → script_within units most (bytes ++ more) ≡ whole_lines units bytes
  script_fault most bytes more f h bad = elim (cases_Bool (ltb most (length (bytes ++ more)))) [
    | inl past ↦
        let m = full_grows bytes (take (most - length bytes) more) in
        let kept : whole_lines units (take most (bytes ++ more)) ≡ whole_lines units bytes = ap (λ b. whole_lines units b) (take-append-within most bytes more h) ∙ ap (λ ls. reading units None 1 ls) m.1 ∙ reading_kept units None 1 (cut bytes).full m.0 f bad in
        script_within-past most (bytes ++ more) past ∙ ap (λ (q : Reading). past_limit q.commands q.fault (cut (take most (bytes ++ more)))) kept ∙ past_limit-fault (whole_lines units bytes) f _ bad
    | inr within ↦
        let m = full_grows bytes more in
        let last = (cut (bytes ++ more)).rest ∷ [] in
        script_within-all most (bytes ++ more) within ∙ ap (λ ls. reading units None 1 (ls ++ last)) m.1 ∙ ap (λ ls. reading units None 1 ls) (append_assoc (cut bytes).full m.0 last) ∙ reading_kept units None 1 (cut bytes).full (m.0 ++ last) f bad
  ]

  past_limit-fine : (r : Reading) (c : Cut) (k : FaultKind) → r.fault ≡ None → (cond (ltb 4096 (length c.rest)) LineTooLong ScriptTooLong) ≡ k → past_limit r.commands r.fault c ≡ record { commands = r.commands; fault = Some (length c.full + 1, k) }
  past_limit-fine r c k fine e = ap (λ (o : Option (ℕ × FaultKind)). past_limit r.commands o c) fine ∙ ap (λ (k : FaultKind). let q : Reading = record { commands = r.commands; fault = Some (length c.full + 1, k) } in q) e

  -- more bytes than a script may have
  pub script_past : (most : ℕ) (bytes : List ℕ) (x : ℕ) (more : List ℕ) → length bytes ≡ most → (whole_lines units bytes).fault ≡ None → length (cut bytes).rest ≤ 4096 → script_within units most (bytes ++ x ∷ more) ≡ record { commands = (whole_lines units bytes).commands; fault = Some (length (cut bytes).full + 1, ScriptTooLong) }
  script_past most bytes x more all fine short =
      let past = lt-ltb most (length (bytes ++ x ∷ more)) (omega (arith, length-append bytes (x ∷ more))) in
      script_within-past most (bytes ++ x ∷ more) past ∙ ap (λ b. past_limit (whole_lines units b).commands (whole_lines units b).fault (cut b)) (take_at bytes (x ∷ more) most all) ∙ past_limit-fine (whole_lines units bytes) (cut bytes) ScriptTooLong fine (ap (λ (b : Bool). cond b LineTooLong ScriptTooLong) (le-ltb 4096 (length (cut bytes).rest) short))

  long_line : (begun : Option UnitChoice) (line : List ℕ) → 4096 < length line → line_of units begun line ≡ Err LineTooLong
  long_line begun line h = simp (lt-ltb 4096 (length line) h) refl

  -- a line with too many bytes, ended by a newline or by the end
  long_read : (bytes line : List ℕ) (ls : List (List ℕ)) → (whole_lines units bytes).fault ≡ None → 4096 < length line → reading units None 1 ((cut bytes).full ++ line ∷ ls) ≡ record { commands = (whole_lines units bytes).commands; fault = Some (length (cut bytes).full + 1, LineTooLong) }
  long_read bytes line ls fine h =
      let one = reading-push units None 1 (cut bytes).full line fine ∙ ap (extend (whole_lines units bytes) (1 + length (cut bytes).full)) (long_line _ line h) in
      let n : 1 + length (cut bytes).full ≡ length (cut bytes).full + 1 = omega arith in
      ap (λ ls. reading units None 1 ls) (sym (append_assoc (cut bytes).full (line ∷ []) ls)) ∙ reading_kept units None 1 ((cut bytes).full ++ line ∷ []) ls (1 + length (cut bytes).full, LineTooLong) (ap (λ (q : Reading). q.fault) one) ∙ one ∙ ap (λ n. let q : Reading = record { commands = (whole_lines units bytes).commands; fault = Some (n, LineTooLong) } in q) n

  -- a line with too many bytes is ended, or is the rest
  long_cut : (bytes zs : List ℕ) → 4096 < length (cut bytes).rest → ((line : List ℕ) × (ls : List (List ℕ)) × (4096 < length line) × ((cut (bytes ++ zs)).full ≡ (cut bytes).full ++ line ∷ ls)) ⊎ (((cut (bytes ++ zs)).full ≡ (cut bytes).full) × (4096 < length (cut (bytes ++ zs)).rest))
  long_cut bytes zs long = go (cut zs).full (cut-append bytes zs)
    where
      go : (fs : List (List ℕ)) → cut (bytes ++ zs) ≡ glue (cut bytes).full (cut bytes).rest fs (cut zs).rest → ((line : List ℕ) × (ls : List (List ℕ)) × (4096 < length line) × ((cut (bytes ++ zs)).full ≡ (cut bytes).full ++ line ∷ ls)) ⊎ (((cut (bytes ++ zs)).full ≡ (cut bytes).full) × (4096 < length (cut (bytes ++ zs)).rest))
      go [] e = inr (ap (λ (c : Cut). c.full) e, omega (arith, long, ap (λ (c : Cut). length c.rest) e, length-append (cut bytes).rest (cut zs).rest))
      go (l ∷ ls) e = inl ((cut bytes).rest ++ l, ls, omega (arith, long, length-append (cut bytes).rest l), ap (λ (c : Cut). c.full) e)

  -- more bytes than a line may have
  pub script_long : (most : ℕ) (bytes more : List ℕ) → length bytes ≤ most → (whole_lines units bytes).fault ≡ None → 4096 < length (cut bytes).rest → script_within units most (bytes ++ more) ≡ record { commands = (whole_lines units bytes).commands; fault = Some (length (cut bytes).full + 1, LineTooLong) }
  script_long most bytes more h fine long =
      let f : ℕ × FaultKind = (length (cut bytes).full + 1, LineTooLong) in
      elim (cases_Bool (ltb most (length (bytes ++ more)))) [
        | inl past ↦
            let zs = take (most - length bytes) more in
            script_within-past most (bytes ++ more) past ∙ ap (λ b. past_limit (whole_lines units b).commands (whole_lines units b).fault (cut b)) (take-append-within most bytes more h) ∙ elim (long_cut bytes zs long) [
              | inl w ↦
                  let whole = ap (λ ls. reading units None 1 ls) w.3 ∙ long_read bytes w.0 w.1 fine w.2 in
                  past_limit-fault (whole_lines units (bytes ++ zs)) f _ (ap (λ (q : Reading). q.fault) whole) ∙ whole
              | inr w ↦
                  let whole = ap (λ ls. reading units None 1 ls) w.0 in
                  past_limit-fine (whole_lines units (bytes ++ zs)) (cut (bytes ++ zs)) LineTooLong (ap (λ (q : Reading). q.fault) whole ∙ fine) (ap (λ (b : Bool). cond b LineTooLong ScriptTooLong) (lt-ltb 4096 _ w.1)) ∙ rw w.0 refl
            ]
        | inr within ↦
            script_within-all most (bytes ++ more) within ∙ elim (long_cut bytes more long) [
              | inl w ↦ ap (λ ls. reading units None 1 (ls ++ (cut (bytes ++ more)).rest ∷ [])) w.3 ∙ ap (λ ls. reading units None 1 ls) (append_assoc (cut bytes).full (w.0 ∷ w.1) _) ∙ long_read bytes w.0 _ fine w.2
              | inr w ↦ ap (λ ls. reading units None 1 (ls ++ (cut (bytes ++ more)).rest ∷ [])) w.0 ∙ long_read bytes _ [] fine w.1
            ]
      ]
