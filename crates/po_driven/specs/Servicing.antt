-- SPDX-License-Identifier: MIT
-- What the methods that service the queues of a driven object say about it, besides what each says for itself (this project's
-- own).
use Rattle.std.specs.Prelude.{◌≢◌}
use Rattle.po_driven.specs.DrivenView.{DrivenView, KeepsAll, KeepsSetup, LeavesNamed, Tells}
use Rattle.po_driven.specs.Noted.{Names, NamesTicket, Notes, serviced}
use Rattle.po_driven.specs.declared.action.Action.{Action}
use Rattle.po_driven.specs.declared.action.Action.TheVariants.{Refused}
use Rattle.po_driven.specs.declared.words.NamedCall.{NamedCall}

-- The queues are serviced: the client is told what is next, and no call is queued.
pub record Services (step : NamedCall) (old new : DrivenView) (action : Action) : Type 0 where
  pub tells : Tells action new
  pub noted : Notes (serviced action old) old new
  pub names : Names action step old new
  pub setup : KeepsSetup old new
  -- it isn't refused, so what is said of a step that is refused or finds no memory holds of it
  pub answers : action ≢ Refused
  pub proceeds : (before after : DrivenView) → KeepsAll action before after
  pub unnamed : (before after : NamedCall) → LeavesNamed action before after
  pub unqueued : (named : NamedCall) (d : DrivenView) → NamesTicket action named d
