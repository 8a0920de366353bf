-- What a script says and answers, over any session, if a line isn't carried out or is the last.
use Rattle.std.proofs.Common.{◌≡◌, ℕ, ◌+◌, ◌<◌, ◌≤◌, Bool, true, false, List, [], ◌∷◌, ◌++◌, length, take, drop, Option, Some, None, Result, Ok, Err, sym, ap, ◌∙◌, arith, append_assoc, length-append}
use Rattle.std.proofs.lemmas.List.{length_push, take-append-drop}
use Rattle.std.proofs.lemmas.Bool.{le-ltb}
use Rattle.std.proofs.KnownBytes.{Appends-trans}
use Rattle.std.specs.Io.KnownBytes.{Appends}
use Rattle.po_script.proofs.CutLemmas.{full_grows, cut-newline}
use Rattle.po_script.proofs.ReadingLemmas.{extend, reading-push, reading_front, text_by-append}
use Rattle.po_script.proofs.StandLemmas.{line_of-short, whole_lines-newline, extend-fine, extend-text}
use Rattle.po_script.proofs.ScriptLemmas.{script_within-all, script_front, script_fault, script_past, script_long}
use Rattle.po_language.specs.Commands.{command_of}
use Rattle.po_script.specs.Script.{Cut, cut, Reading, reading, whole_lines, line_of, script_of, script_within, commands_read}
use Rattle.po_script.specs.AnySession.{begun_by, state_by, text_by, text_with, StandsBy}
use Rattle.po_language.specs.declared.command.UnitChoice.{UnitChoice}
use Rattle.po_language.specs.declared.command.Command.{Command}
use Rattle.po_language.specs.declared.command.FaultKind.{FaultKind}
use Rattle.po_language.specs.declared.command.FaultKind.TheVariants.{ScriptTooLong, LineTooLong}
use Rattle.po_language.specs.Units.{UnitList}

module _ (units : UnitList) where
  -- the bytes up to a newline, and those after it
  parted : (bytes : List ℕ) (b : ℕ) (more : List ℕ) → bytes ++ b ∷ more ≡ (bytes ++ b ∷ []) ++ more
  parted bytes b more = sym (append_assoc bytes (b ∷ []) more)

  -- the commands of more bytes begin with those of the whole lines so far
  read_front : (ended : Bool) (bytes more : List ℕ) → length bytes ≤ 67108864 → (cs : List Command) × (commands_read units (bytes ++ more) ended ≡ (whole_lines units bytes).commands ++ cs)
  read_front true bytes more h = script_front units 67108864 bytes more h
  read_front false bytes more h =
      let m = full_grows bytes more in
      let r = reading_front units None 1 (cut bytes).full m.0 in
      (r.0, ap (λ ls. (reading units None 1 ls).commands) m.1 ∙ r.1)

  -- a part of a text is taken, and the rest follows
  split_text : (first text : List ℕ) (k : ℕ) (tail : List ℕ) → (first ++ text) ++ tail ≡ (first ++ take k text) ++ (drop k text ++ tail)
  split_text first text k tail = ap (λ t. (first ++ t) ++ tail) (sym (take-append-drop k text)) ∙ ap (λ t. t ++ tail) (sym (append_assoc first (take k text) (drop k text))) ∙ append_assoc (first ++ take k text) (drop k text) tail

  module _ {S : Type 0} (after : S → Command → S) (answer : S → Command → List ℕ) (opening : S) (begun : Option UnitChoice) (state : S) (bytes : List ℕ) (start now : Option (List ℕ)) (s : StandsBy units after answer opening begun state bytes start now) where
    says_rest : (says : Result (Option Command) FaultKind) → length (cut bytes).rest ≤ 4096 → command_of units begun (cut bytes).rest ≡ says → line_of units (begun_by None (whole_lines units bytes).commands) (cut bytes).rest ≡ says
    says_rest says short e = rw (← s.begun_is) (line_of-short units begun (cut bytes).rest short ∙ e)

    -- the commands so far, the command of a line that a newline ends, and others
    pub wanted_ends : (more : List ℕ) (c : Command) (ended : Bool) → length bytes < 67108864 → length (cut bytes).rest ≤ 4096 → command_of units begun (cut bytes).rest ≡ Ok (Some c) → (later : List Command) × (commands_read units (bytes ++ 10 ∷ more) ended ≡ (whole_lines units bytes).commands ++ c ∷ later)
    wanted_ends more c ended room short says =
        let w = whole_lines-newline units bytes (Ok (Some c)) s.fine (says_rest (Ok (Some c)) short says) in
        let front = read_front ended (bytes ++ 10 ∷ []) more (omega (arith, room, length_push bytes 10)) in
        (front.0, ap (λ b. commands_read units b ended) (parted bytes 10 more) ∙ front.1 ∙ ap (λ (q : Reading). q.commands ++ front.0) w ∙ append_assoc (whole_lines units bytes).commands (c ∷ []) front.0)

    -- a line that a newline ends has a fault
    pub script_ends : (more : List ℕ) (n : ℕ) (k : FaultKind) → length bytes < 67108864 → length (cut bytes).rest ≤ 4096 → command_of units begun (cut bytes).rest ≡ Err k → n ≡ length (cut bytes).full + 1 → ((script_of units (bytes ++ 10 ∷ more)).fault ≡ Some (n, k)) × (n ≤ length (cut (bytes ++ 10 ∷ more)).full) × Appends start now (text_by after answer opening (script_of units (bytes ++ 10 ∷ more)).commands)
    script_ends more n k room short says e =
        let w = whole_lines-newline units bytes (Err k) s.fine (says_rest (Err k) short says) in
        let f : ℕ × FaultKind = (1 + length (cut bytes).full, k) in
        let sc : script_of units (bytes ++ 10 ∷ more) ≡ whole_lines units (bytes ++ 10 ∷ []) = ap (λ b. script_within units 67108864 b) (parted bytes 10 more) ∙ script_fault units 67108864 (bytes ++ 10 ∷ []) more f (omega (arith, room, length_push bytes 10)) (ap (λ (q : Reading). q.fault) w) in
        let all = sc ∙ w in
        let number_is : 1 + length (cut bytes).full ≡ n = omega (arith, e) in
        let full = full_grows (bytes ++ 10 ∷ []) more in
        let longer : n ≤ length (cut (bytes ++ 10 ∷ more)).full = omega (arith, ap (λ b. length (cut b).full) (parted bytes 10 more), ap (λ ls. length ls) full.1, length-append (cut (bytes ++ 10 ∷ [])).full full.0, ap (λ (c : Cut). length c.full) (cut-newline bytes), length_push (cut bytes).full (cut bytes).rest) in
        (ap (λ (q : Reading). q.fault) all ∙ ap (λ n. Some (n, k)) number_is, longer, rw all s.told)

    -- the answer of a line that a newline ends was written in part
    pub write_ends : (more : List ℕ) (later : Option (List ℕ)) (c : Option Command) (k : ℕ) → length bytes < 67108864 → length (cut bytes).rest ≤ 4096 → command_of units begun (cut bytes).rest ≡ Ok c → Appends now later (take k (text_with answer state c)) → (text : List ℕ) × (rest : List ℕ) × (text_by after answer opening (script_of units (bytes ++ 10 ∷ more)).commands ≡ text ++ rest) × Appends start later text
    write_ends more later c k room short says told =
        let r = whole_lines units bytes in
        let w = whole_lines-newline units bytes (Ok c) s.fine (says_rest (Ok c) short says) in
        let cs = script_front units 67108864 (bytes ++ 10 ∷ []) more (omega (arith, room, length_push bytes 10)) in
        let text = text_with answer (state_by after opening r.commands) c in
        let first = text_by after answer opening r.commands in
        let commands = ap (λ b. (script_within units 67108864 b).commands) (parted bytes 10 more) ∙ cs.1 in
        let tail = text_by after answer (state_by after opening (whole_lines units (bytes ++ 10 ∷ [])).commands) cs.0 in
        let whole : text_by after answer opening (script_of units (bytes ++ 10 ∷ more)).commands ≡ (first ++ text) ++ tail = ap (λ cs. text_by after answer opening cs) commands ∙ text_by-append after answer opening (whole_lines units (bytes ++ 10 ∷ [])).commands cs.0 ∙ ap (λ t. t ++ tail) (ap (λ (q : Reading). text_by after answer opening q.commands) w ∙ extend-text units after answer opening r (1 + length (cut bytes).full) c) in
        (first ++ take k text, drop k text ++ tail, whole ∙ split_text first text k tail, Appends-trans start now later first (take k text) s.told (rw (← s.state_is) told))

    -- one byte past the most that a script may have
    pub past_ends : (b : ℕ) (more : List ℕ) → length bytes ≡ 67108864 → length (cut bytes).rest ≤ 4096 → ((script_of units (bytes ++ b ∷ more)).fault ≡ Some (length (cut bytes).full + 1, ScriptTooLong)) × Appends start now (text_by after answer opening (script_of units (bytes ++ b ∷ more)).commands)
    past_ends b more all short =
        let e = script_past units 67108864 bytes b more all s.fine short in
        (ap (λ (q : Reading). q.fault) e, rw e s.told)

    -- one byte past the most that a line may have
    pub long_ends : (more : List ℕ) → length bytes ≤ 67108864 → 4096 < length (cut bytes).rest → ((script_of units (bytes ++ more)).fault ≡ Some (length (cut bytes).full + 1, LineTooLong)) × Appends start now (text_by after answer opening (script_of units (bytes ++ more)).commands)
    long_ends more room long =
        let e = script_long units 67108864 bytes more room s.fine long in
        (ap (λ (q : Reading). q.fault) e, rw e s.told)

    -- the end of the input, by what the last line says
    at_end : (says : Result (Option Command) FaultKind) → length bytes ≤ 67108864 → length (cut bytes).rest ≤ 4096 → command_of units begun (cut bytes).rest ≡ says → script_of units bytes ≡ extend (whole_lines units bytes) (1 + length (cut bytes).full) says
    at_end says room short e =
        script_within-all units 67108864 bytes (le-ltb 67108864 (length bytes) (room)) ∙ reading-push units None 1 (cut bytes).full (cut bytes).rest s.fine ∙ ap (extend (whole_lines units bytes) (1 + length (cut bytes).full)) (says_rest says short e)

    -- the commands so far, and the command of the last line
    pub end_wanted : (c : Command) → length bytes ≤ 67108864 → length (cut bytes).rest ≤ 4096 → command_of units begun (cut bytes).rest ≡ Ok (Some c) → (script_of units bytes).commands ≡ (whole_lines units bytes).commands ++ c ∷ []
    end_wanted c room short says = ap (λ (q : Reading). q.commands) (at_end (Ok (Some c)) room short says)

    -- the last line is carried out
    pub end_well : (c : Option Command) (later : Option (List ℕ)) → length bytes ≤ 67108864 → length (cut bytes).rest ≤ 4096 → command_of units begun (cut bytes).rest ≡ Ok c → Appends now later (text_with answer state c) → ((script_of units bytes).fault ≡ None) × Appends start later (text_by after answer opening (script_of units bytes).commands)
    end_well c later room short says told =
        let r = whole_lines units bytes in
        let n = 1 + length (cut bytes).full in
        let e = at_end (Ok c) room short says in
        (rw e (extend-fine units r n c s.fine), rw (e, extend-text units after answer opening r n c) (Appends-trans start now later _ _ s.told (rw (← s.state_is) told)))

    -- the last line has a fault
    pub end_script : (n : ℕ) (k : FaultKind) → length bytes ≤ 67108864 → length (cut bytes).rest ≤ 4096 → command_of units begun (cut bytes).rest ≡ Err k → n ≡ length (cut bytes).full + 1 → ((script_of units bytes).fault ≡ Some (n, k)) × Appends start now (text_by after answer opening (script_of units bytes).commands)
    end_script n k room short says e =
        let all = at_end (Err k) room short says in
        let number_is : 1 + length (cut bytes).full ≡ n = omega (arith, e) in
        (ap (λ (q : Reading). q.fault) all ∙ ap (λ n. Some (n, k)) number_is, rw all s.told)

    -- the answer of the last line was written in part
    pub end_write : (later : Option (List ℕ)) (c : Option Command) (k : ℕ) → length bytes ≤ 67108864 → length (cut bytes).rest ≤ 4096 → command_of units begun (cut bytes).rest ≡ Ok c → Appends now later (take k (text_with answer state c)) → (text : List ℕ) × (rest : List ℕ) × (text_by after answer opening (script_of units bytes).commands ≡ text ++ rest) × Appends start later text
    end_write later c k room short says told =
        let r = whole_lines units bytes in
        let n = 1 + length (cut bytes).full in
        let e = at_end (Ok c) room short says in
        let text = text_with answer (state_by after opening r.commands) c in
        let first = text_by after answer opening r.commands in
        let whole : text_by after answer opening (script_of units bytes).commands ≡ first ++ text = ap (λ (q : Reading). text_by after answer opening q.commands) e ∙ extend-text units after answer opening r n c in
        let split : first ++ text ≡ (first ++ take k text) ++ drop k text = ap (λ t. first ++ t) (sym (take-append-drop k text)) ∙ sym (append_assoc first (take k text) (drop k text)) in
        (first ++ take k text, drop k text, whole ∙ split, Appends-trans start now later first (take k text) s.told (rw (← s.state_is) told))
