-- How far a reading has come after one more byte, over any session.
use Rattle.std.proofs.Common.{◌≡◌, ℕ, ◌+◌, ◌≤◌, eqb, false, List, [], ◌∷◌, ◌++◌, length, Option, Some, None, Result, Ok, refl, sym, ap, ◌∙◌, arith}
use Rattle.std.proofs.lemmas.Bool.{le-ltb}
use Rattle.std.proofs.lemmas.List.{append-nil, length_push}
use Rattle.std.proofs.KnownBytes.{Appends-trans}
use Rattle.std.specs.Io.KnownBytes.{Appends}
use Rattle.po_script.proofs.CutLemmas.{cut-newline, cut-letter}
use Rattle.po_script.proofs.ReadingLemmas.{extend, reading-push, begun_by-push, state_by-append, text_by-append}
use Rattle.po_language.specs.Commands.{command_of}
use Rattle.po_script.specs.Script.{Cut, cut, Reading, reading, whole_lines, line_of}
use Rattle.po_script.specs.AnySession.{begun_by, state_by, text_by, begun_with, state_with, text_with, StandsBy}
use Rattle.po_language.specs.declared.command.UnitChoice.{UnitChoice}
use Rattle.po_language.specs.declared.command.Command.{Command}
use Rattle.po_language.specs.declared.command.FaultKind.{FaultKind}
use Rattle.po_language.specs.Units.{UnitList}

module _ (units : UnitList) where
  -- what a line says if it isn't too long
  pub line_of-short : (begun : Option UnitChoice) (line : List ℕ) → length line ≤ 4096 → line_of units begun line ≡ command_of units begun line
  line_of-short begun line short = simp (le-ltb 4096 (length line) short) refl

  pub extend-fine : (r : Reading) (n : ℕ) (c : Option Command) → r.fault ≡ None → (extend r n (Ok c)).fault ≡ None
  extend-fine r n None fine = fine
  extend-fine r n (Some c) fine = refl

  extend-begun : (r : Reading) (n : ℕ) (c : Option Command) → begun_with (begun_by None r.commands) c ≡ begun_by None (extend r n (Ok c)).commands
  extend-begun r n None = refl
  extend-begun r n (Some c) = sym (begun_by-push None r.commands c)

  -- a line that a newline ends, by what it says
  pub whole_lines-newline : (bytes : List ℕ) (says : Result (Option Command) FaultKind) → (whole_lines units bytes).fault ≡ None → line_of units (begun_by None (whole_lines units bytes).commands) (cut bytes).rest ≡ says → whole_lines units (bytes ++ 10 ∷ []) ≡ extend (whole_lines units bytes) (1 + length (cut bytes).full) says
  whole_lines-newline bytes says fine e =
      ap (λ (c : Cut). reading units None 1 c.full) (cut-newline bytes) ∙ reading-push units None 1 (cut bytes).full (cut bytes).rest fine ∙ ap (extend (whole_lines units bytes) (1 + length (cut bytes).full)) e

  module _ {S : Type 0} (after : S → Command → S) (answer : S → Command → List ℕ) (opening : S) where
    extend-state : (r : Reading) (n : ℕ) (c : Option Command) → state_with after (state_by after opening r.commands) c ≡ state_by after opening (extend r n (Ok c)).commands
    extend-state r n None = refl
    extend-state r n (Some c) = sym (state_by-append after answer opening r.commands (c ∷ []))

    pub extend-text : (r : Reading) (n : ℕ) (c : Option Command) → text_by after answer opening (extend r n (Ok c)).commands ≡ text_by after answer opening r.commands ++ text_with answer (state_by after opening r.commands) c
    extend-text r n None = sym (append-nil _)
    extend-text r n (Some c) = text_by-append after answer opening r.commands (c ∷ []) ∙ ap (λ t. text_by after answer opening r.commands ++ t) (append-nil _)

    pub newline_stands : (begun : Option UnitChoice) (state : S) (bytes : List ℕ) (start now later : Option (List ℕ)) (c : Option Command) → StandsBy units after answer opening begun state bytes start now → length (cut bytes).rest ≤ 4096 → command_of units begun (cut bytes).rest ≡ Ok c → Appends now later (text_with answer state c) → StandsBy units after answer opening (begun_with begun c) (state_with after state c) (bytes ++ 10 ∷ []) start later
    newline_stands begun state bytes start now later c s short says told =
        let r = whole_lines units bytes in
        let n = 1 + length (cut bytes).full in
        let says_rest : line_of units (begun_by None r.commands) (cut bytes).rest ≡ Ok c = rw (← s.begun_is) (line_of-short begun (cut bytes).rest short ∙ says) in
        let w = whole_lines-newline bytes (Ok c) s.fine says_rest in
        record {
          fine = rw w (extend-fine r n c s.fine);
          begun_is = rw (w, s.begun_is) (extend-begun r n c);
          state_is = rw (w, s.state_is) (extend-state r n c);
          told = rw (w, extend-text r n c) (Appends-trans start now later _ _ s.told (rw (← s.state_is) told));
        }

    pub letter_stands : (begun : Option UnitChoice) (state : S) (bytes : List ℕ) (start now : Option (List ℕ)) (b : ℕ) → StandsBy units after answer opening begun state bytes start now → eqb b 10 ≡ false → StandsBy units after answer opening begun state (bytes ++ b ∷ []) start now
    letter_stands begun state bytes start now b s other =
        let w : whole_lines units (bytes ++ b ∷ []) ≡ whole_lines units bytes = ap (λ (c : Cut). reading units None 1 c.full) (cut-letter bytes b other) in
        record { fine = rw w s.fine; begun_is = rw w s.begun_is; state_is = rw w s.state_is; told = rw w s.told }

pub appends-nothing : (had : Option (List ℕ)) → Appends had had []
appends-nothing None = tt
appends-nothing (Some l) = sym (append-nil l)
