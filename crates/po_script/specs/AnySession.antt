-- SPDX-License-Identifier: MIT
-- How far a reading has come, over any session: how a command changes the state, and what it answers in it.
use Rattle.std.specs.Prelude.{ℕ, ◌≡◌, List, [], ◌∷◌, ◌++◌, Option, Some, None}
use Rattle.std.specs.Io.KnownBytes.{Appends}
use Rattle.po_language.specs.Units.{UnitList}
use Rattle.po_script.specs.Script.{whole_lines, begun_after}
use Rattle.po_language.specs.declared.command.UnitChoice.{UnitChoice}
use Rattle.po_language.specs.declared.command.Command.{Command}

-- the state after the commands
abbrev pub state_by : {S : Type 0} → (S → Command → S) → S → List Command → S
state_by after s [] = s
state_by after s (c ∷ cs) = state_by after (after s c) cs

-- what the commands answer, one after another
abbrev pub text_by : {S : Type 0} → (S → Command → S) → (S → Command → List ℕ) → S → List Command → List ℕ
text_by after answer s [] = []
text_by after answer s (c ∷ cs) = answer s c ++ text_by after answer (after s c) cs

-- the unit that is begun after the commands
abbrev pub begun_by : Option UnitChoice → List Command → Option UnitChoice
begun_by begun [] = begun
begun_by begun (c ∷ cs) = begun_by (begun_after begun c) cs

-- what a line does, if it has a command: the unit begun after it, the state after it, and the answer
abbrev pub begun_with : Option UnitChoice → Option Command → Option UnitChoice
begun_with begun None = begun
begun_with begun (Some c) = begun_after begun c

abbrev pub state_with : {S : Type 0} → (S → Command → S) → S → Option Command → S
state_with after s None = s
state_with after s (Some c) = after s c

abbrev pub text_with : {S : Type 0} → (S → Command → List ℕ) → S → Option Command → List ℕ
text_with answer s None = []
text_with answer s (Some c) = answer s c

-- `bytes` were cut so far, and all whole lines in them were carried out. `start` and `now` are what the writer had at first and
-- has now.
pub record StandsBy (units : UnitList) {S : Type 0} (after : S → Command → S) (answer : S → Command → List ℕ) (opening : S)
    (begun : Option UnitChoice) (state : S) (bytes : List ℕ) (start now : Option (List ℕ)) : Type 0 where
  pub fine : (whole_lines units bytes).fault ≡ None
  pub begun_is : begun ≡ begun_by None (whole_lines units bytes).commands
  pub state_is : state ≡ state_by after opening (whole_lines units bytes).commands
  pub told : Appends start now (text_by after answer opening (whole_lines units bytes).commands)
