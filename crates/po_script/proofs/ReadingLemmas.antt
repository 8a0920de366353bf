-- What lines say that are put together, and what follows from their commands.
use Rattle.std.proofs.Common.{◌≡◌, ℕ, suc, ◌+◌, List, [], ◌∷◌, ◌++◌, length, Option, Some, None, Result, Ok, Err, refl, sym, ap, ◌∙◌, arith, append_assoc}
use Rattle.po_script.specs.Script.{Reading, reading, with_line, prepend, line_of, begun_after}
use Rattle.po_script.specs.AnySession.{begun_by, state_by, text_by}
use Rattle.po_language.specs.declared.command.UnitChoice.{UnitChoice}
use Rattle.po_language.specs.declared.command.Command.{Command}
use Rattle.po_language.specs.declared.command.FaultKind.{FaultKind}
use Rattle.po_language.specs.Units.{UnitList}

-- one more line
abbrev pub extend : Reading → ℕ → Result (Option Command) FaultKind → Reading
extend r n (Err kind) = record { commands = r.commands; fault = Some (n, kind) }
extend r n (Ok None) = r
extend r n (Ok (Some c)) = record { commands = r.commands ++ c ∷ []; fault = None }

prepend-extend : (c : Command) (r : Reading) (n : ℕ) (says : Result (Option Command) FaultKind) → prepend c (extend r n says) ≡ extend (prepend c r) n says
prepend-extend c r n (Err kind) = refl
prepend-extend c r n (Ok None) = refl
prepend-extend c r n (Ok (Some d)) = refl

push_first : (n : ℕ) (begun : Option UnitChoice) (says : Result (Option Command) FaultKind) → with_line n begun says (λ _. record { commands = []; fault = None }) ≡ extend (record { commands = []; fault = None }) n says
push_first n begun (Err kind) = refl
push_first n begun (Ok None) = refl
push_first n begun (Ok (Some c)) = refl

kept_later : (n : ℕ) (f : ℕ × FaultKind) (later longer : Option UnitChoice → Reading) → ((begun : Option UnitChoice) → (later begun).fault ≡ Some f → longer begun ≡ later begun) → (begun : Option UnitChoice) (says : Result (Option Command) FaultKind) → (with_line n begun says later).fault ≡ Some f → with_line n begun says longer ≡ with_line n begun says later
kept_later n f later longer step begun (Err kind) bad = refl
kept_later n f later longer step begun (Ok None) bad = step begun bad
kept_later n f later longer step begun (Ok (Some c)) bad = ap (prepend c) (step (begun_after begun c) bad)

front_later : (n : ℕ) (later longer : Option UnitChoice → Reading) → ((begun : Option UnitChoice) → (cs : List Command) × ((longer begun).commands ≡ (later begun).commands ++ cs)) → (begun : Option UnitChoice) (says : Result (Option Command) FaultKind) → (cs : List Command) × ((with_line n begun says longer).commands ≡ (with_line n begun says later).commands ++ cs)
front_later n later longer step begun (Err kind) = ([], refl)
front_later n later longer step begun (Ok None) = step begun
front_later n later longer step begun (Ok (Some c)) = let s = step (begun_after begun c) in (s.0, ap (λ cs. c ∷ cs) s.1)

module _ (units : UnitList) where
  push_later : (n k : ℕ) (l : List ℕ) (later longer : Option UnitChoice → Reading) → ((begun : Option UnitChoice) → (later begun).fault ≡ None → longer begun ≡ extend (later begun) k (line_of units (begun_by begun (later begun).commands) l)) → (begun : Option UnitChoice) (says : Result (Option Command) FaultKind) → (with_line n begun says later).fault ≡ None → with_line n begun says longer ≡ extend (with_line n begun says later) k (line_of units (begun_by begun (with_line n begun says later).commands) l)
  push_later n k l later longer step begun (Err kind) fine = absurd (cc)
  push_later n k l later longer step begun (Ok None) fine = step begun fine
  push_later n k l later longer step begun (Ok (Some c)) fine = ap (prepend c) (step (begun_after begun c) fine) ∙ prepend-extend c (later (begun_after begun c)) k _

  -- lines without a fault, and one more
  pub reading-push : (begun : Option UnitChoice) (n : ℕ) (ls : List (List ℕ)) (l : List ℕ) → (reading units begun n ls).fault ≡ None → reading units begun n (ls ++ l ∷ []) ≡ extend (reading units begun n ls) (n + length ls) (line_of units (begun_by begun (reading units begun n ls).commands) l)
  reading-push begun n [] l fine = let e : n + 0 ≡ n = omega arith in rw e (push_first n begun (line_of units begun l))
  reading-push begun n (m ∷ ls) l fine =
      let shift : n + suc (length ls) ≡ n + 1 + length ls = omega arith in
      rw shift (push_later n (n + 1 + length ls) l (λ b. reading units b (n + 1) ls) (λ b. reading units b (n + 1) (ls ++ l ∷ [])) (λ b quiet. reading-push b (n + 1) ls l quiet) begun (line_of units begun m) fine)

  -- lines with a fault, and more
  pub reading_kept : (begun : Option UnitChoice) (n : ℕ) (ls ms : List (List ℕ)) (f : ℕ × FaultKind) → (reading units begun n ls).fault ≡ Some f → reading units begun n (ls ++ ms) ≡ reading units begun n ls
  reading_kept begun n [] ms f bad = absurd (cc)
  reading_kept begun n (l ∷ ls) ms f bad =
      kept_later n f (λ b. reading units b (n + 1) ls) (λ b. reading units b (n + 1) (ls ++ ms)) (λ b worse. reading_kept b (n + 1) ls ms f worse) begun (line_of units begun l) bad

  -- the commands of more lines begin with the commands so far
  pub reading_front : (begun : Option UnitChoice) (n : ℕ) (ls ms : List (List ℕ)) → (cs : List Command) × ((reading units begun n (ls ++ ms)).commands ≡ (reading units begun n ls).commands ++ cs)
  reading_front begun n [] ms = ((reading units begun n ms).commands, refl)
  reading_front begun n (l ∷ ls) ms =
      front_later n (λ b. reading units b (n + 1) ls) (λ b. reading units b (n + 1) (ls ++ ms)) (λ b. reading_front b (n + 1) ls ms) begun (line_of units begun l)

pub begun_by-push : (begun : Option UnitChoice) (cs : List Command) (c : Command) → begun_by begun (cs ++ c ∷ []) ≡ begun_after (begun_by begun cs) c
begun_by-push begun [] c = refl
begun_by-push begun (d ∷ cs) c = begun_by-push (begun_after begun d) cs c

module _ {S : Type 0} (after : S → Command → S) (answer : S → Command → List ℕ) where
  pub state_by-append : (s : S) (cs ds : List Command) → state_by after s (cs ++ ds) ≡ state_by after (state_by after s cs) ds
  state_by-append s [] ds = refl
  state_by-append s (c ∷ cs) ds = state_by-append (after s c) cs ds

  pub text_by-append : (s : S) (cs ds : List Command) → text_by after answer s (cs ++ ds) ≡ text_by after answer s cs ++ text_by after answer (state_by after s cs) ds
  text_by-append s [] ds = refl
  text_by-append s (c ∷ cs) ds = ap (λ t. answer s c ++ t) (text_by-append (after s c) cs ds) ∙ sym (append_assoc (answer s c) _ _)
