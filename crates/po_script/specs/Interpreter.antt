-- SPDX-License-Identifier: MIT
-- What carrying out a line does.
use Rattle.std.specs.Prelude.{ℕ, ◌≡◌, Bool, true, List, take, Option, Some, Ok, Err}
use Rattle.std.specs.Io.KnownBytes.{Appends}
use Rattle.po_language.specs.Commands.{command_of}
use Rattle.po_script.specs.Units.{ScriptUnits, Object, listed}
use Rattle.po_script.specs.Session.{state_of, after, answer}
use Rattle.po_script.specs.AnySession.{begun_with, state_with, text_with}
use Rattle.po_language.specs.declared.command.Command.{Command}
use Rattle.po_language.specs.declared.run_error.RunError.{RunError}
use Rattle.po_language.specs.declared.run_error.RunError.TheVariants.{Script, Read, Write, Memory}
use Rattle.po_script.specs.declared.interpreter.Interpreter.{Interpreter}

-- The line was carried out. The writer has what it had, followed by the answer.
pub record CarriesOut {O : Type 0} (units : ScriptUnits) (object : O → Object units) (old new : Interpreter O) (line : List ℕ) (had has : Option (List ℕ)) : Type 0 where
  pub command : Option Command
  pub says : command_of (listed units) old.begun line ≡ Ok command
  pub begun : new.begun ≡ begun_with old.begun command
  pub state : state_of object new.session ≡ state_with (after units) (state_of object old.session) command
  pub told : Appends had has (text_with (answer units) (state_of object old.session) command)

-- line n wasn't carried out to its end: what the writer had and has, and whether it had, and has, failed or taken no byte
abbrev pub Fails : {O : Type 0} (units : ScriptUnits) → (O → Object units) → RunError → Interpreter O → ℕ → List ℕ → Option (List ℕ) → Option (List ℕ) → Bool → Bool → Type 0
Fails units object (Script n kind) old number line had has before bad =
    (command_of (listed units) old.begun line ≡ Err kind) × (n ≡ number) × (has ≡ had) × (bad ≡ before)
Fails units object Read old number line had has before bad = ⊥
Fails units object Write old number line had has before bad =
    (command : Option Command) × (command_of (listed units) old.begun line ≡ Ok command)
    × (count : ℕ) × Appends had has (take count (text_with (answer units) (state_of object old.session) command))
    × (bad ≡ true)
Fails units object Memory old number line had has before bad =
    (command : Command) × (command_of (listed units) old.begun line ≡ Ok (Some command))
    × (has ≡ had) × (bad ≡ before)
