-- SPDX-License-Identifier: MIT
-- What a session is, how a command changes it, and what it answers.
use Rattle.std.specs.Prelude.{ℕ, List, [], Option, Some, None}
use Rattle.std.specs.Option.{option_map}
use Rattle.po_language.specs.declared.command.Command.{Command}
use Rattle.po_language.specs.declared.command.Command.TheVariants.{Begin, Operate}
use Rattle.po_script.specs.Units.{ScriptUnits, Object, made_at, after_on, lines_on}
use Rattle.po_script.specs.declared.session.Session.{Session}

-- the object that the latest `unit` line made, if there was one
abbrev pub SessionState : ScriptUnits → Type 0
SessionState units = Option (Object units)

-- the state of a session, by what its object is to the commands
abbrev pub state_of : {O S : Type 0} → (O → S) → Session O → Option S
state_of object session = option_map object session.object

module _ (units : ScriptUnits) where
  -- the session before the first command
  unfoldable pub opening_state : SessionState units
  opening_state = None

  -- the session after the command; an operation before any unit is begun does nothing, and no line asks for one
  unfoldable pub after : SessionState units → Command → SessionState units
  after s (Begin beginning) = Some (made_at units beginning.unit.number beginning)
  after None (Operate operation) = None
  after (Some object) (Operate operation) = Some (after_on units object operation)

  -- the lines that answer the command
  unfoldable pub answer : SessionState units → Command → List ℕ
  answer s (Begin beginning) = []
  answer None (Operate operation) = []
  answer (Some object) (Operate operation) = lines_on units object operation
