-- SPDX-License-Identifier: MIT
-- What is refused in a run of a script, whatever was carried out before.
use Rattle.std.specs.Prelude.{◌≡◌, List, Some, None}
use Rattle.po_core.specs.declared.refusal.Refusal.{Refusal}
use Rattle.po_language.specs.declared.command.Command.{Command}
use Rattle.po_language.specs.declared.command.Operation.{Operation}
use Rattle.po_language.specs.declared.command.UnitChoice.{UnitChoice}
use Rattle.po_script.specs.AnySession.{begun_by}
use Rattle.po_script.specs.Ends.{state_after}
use Rattle.po_script.specs.Facts.{facts_at, sure_refusal}
use Rattle.po_script.specs.Lines.{refused_line}
use Rattle.po_script.specs.Session.{SessionState, opening_state}
use Rattle.po_script.specs.Units.{ScriptUnits, Object, refusal_on, after_on, lines_on}

-- The session has an object. It refuses the operation with this refusal, stays as it is, and answers by the refusal's line.
pub record Refuses (units : ScriptUnits) (s : SessionState units) (operation : Operation) (refusal : Refusal) : Type 0 where
  pub object : Object units
  pub present : s ≡ Some object
  pub refused : refusal_on units object operation ≡ Some refusal
  pub stays : after_on units object operation ≡ object
  pub answered : lines_on units object operation ≡ refused_line refusal

-- If these commands began a unit, each operation that is sure to be refused by the facts of that unit is refused after them:
-- the object has these facts, whatever was carried out on it.
abbrev pub RefusesBehind : ScriptUnits → List Command → Type 0
RefusesBehind units commands =
    (unit : UnitChoice) → begun_by None commands ≡ Some unit
    → (operation : Operation) (refusal : Refusal)
    → sure_refusal (facts_at units unit.number unit.size) operation ≡ Some refusal
    → Refuses units (state_after units (opening_state units) commands) operation refusal
