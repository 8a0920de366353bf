-- SPDX-License-Identifier: MIT
-- How far a run has come, and how each part of the script takes it further.
use Rattle.std.specs.Prelude.{ℕ, ◌≡◌, ◌≤◌, ◌++◌, Bool, false, List, length, Option}
use Rattle.po_script.specs.Units.{ScriptUnits, Object, listed}
use Rattle.po_script.specs.Script.{cut}
use Rattle.po_script.specs.Session.{state_of, opening_state, after, answer}
use Rattle.po_script.specs.AnySession.{StandsBy}
use Rattle.po_script.specs.Cutter.{Cuts, waiting}
use Rattle.po_script.specs.Ends.{EndsAs}
use Rattle.po_language.specs.declared.run_error.RunError.{RunError}
use Rattle.po_script.specs.declared.interpreter.Interpreter.{Interpreter}
use Rattle.po_script.specs.declared.run.Run.{Run}

module _ {O : Type 0} (units : ScriptUnits) (object : O → Object units) where
  -- the whole lines of these bytes were carried out: `start` and `now` are what the writer had at first and has now
  abbrev pub Tells : Interpreter O → List ℕ → Option (List ℕ) → Option (List ℕ) → Type 0
  Tells interpreter bytes start now =
      StandsBy (listed units) (after units) (answer units) (opening_state units) interpreter.begun (state_of object interpreter.session) bytes start now

  -- The run has cut these bytes, and carried out all whole lines in them: what the source had to give at first and has now, how
  -- many reads it counted then and now, and what the writer had and has.
  pub record Stands (run : Run O) (bytes : List ℕ) (start left : Option (List ℕ)) (first reads : Option ℕ) (had has : Option (List ℕ)) : Type 0 where
    pub cuts : Cuts run.lines bytes start left first reads
    pub short : length (cut bytes).rest ≤ 4096
    pub tells : Tells run.interpreter bytes had has

  -- After what was before, `piece` was cut and its lines were carried out.
  abbrev pub GoesOn : Run O → Run O → List ℕ → Option (List ℕ) → Option (List ℕ) → Type 0
  GoesOn old new piece now has =
      (bytes : List ℕ) (start left : Option (List ℕ)) (first reads : Option ℕ) (had : Option (List ℕ))
      → Stands old bytes start left first reads had now → Stands new (bytes ++ piece) start left first reads had has

  -- The run ends with this fault after the bytes that were cut and those that wait.
  abbrev pub FailsAt : RunError → Run O → Bool → Option (List ℕ) → Option (List ℕ) → Bool → Bool → Type 0
  FailsAt fault old ended now has before bad =
      (bytes : List ℕ) (start left : Option (List ℕ)) (first reads : Option ℕ) (had : Option (List ℕ))
      → Stands old bytes start left first reads had now
      → before ≡ false
      → EndsAs units fault (bytes ++ waiting old.lines) had has ended false bad
