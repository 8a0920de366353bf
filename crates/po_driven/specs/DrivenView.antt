-- SPDX-License-Identifier: MIT
-- What contracts see of an object that its client drives, and what always holds of it (9.5.1 to 9.5.4).
use Rattle.std.specs.Prelude.{ℕ, replicate, ◌≡◌, ◌≢◌, ◌<◌, List, [], ◌∷◌, ◌++◌, length, false, None, find, IsSome}
use Rattle.po_engine.specs.WaitingCalls.{is_on}
use Rattle.po_engine.specs.StateView.{StateView}
use Rattle.po_driven.specs.AtRest.{AskedBelow, IsAtRest, ToldBelow}
use Rattle.po_driven.specs.DrivenCallsView.{KeepsRoom, KeepsTickets, DrivenCallsView, IsTraced}
use Rattle.po_driven.specs.declared.phase.Phase.{Phase}
use Rattle.po_driven.specs.declared.phase.Phase.TheVariants.{Resting, Asked, Running, Settling, Breaking}
use Rattle.po_driven.specs.declared.action.Action.{Action}
use Rattle.po_driven.specs.declared.action.Action.TheVariants.{Rest, Evaluate, Run, Queued, Cancelled, ProgramError, NoMemory, Refused}
use Rattle.po_driven.specs.declared.words.Barrier.{Barrier}
use Rattle.po_driven.specs.declared.words.NamedCall.{NamedCall}
use Rattle.po_driven.specs.declared.words.Barrier.TheVariants.{Closed, Open, Raised}

pub record DrivenView : Type 0 where
  -- the calls, and what has happened to them
  pub calls : DrivenCallsView
  -- for each entry, how many calls may be queued on it; 0 means any number (D.7)
  pub limits : List ℕ
  -- what the object waits for
  pub phase : Phase
  -- the entries that the client has reported closed since a body or a procedure ran, or a count changed: known to proofs alone
  pub closed : List ℕ

-- a newly made object at rest, with these calls and this number of entries
abbrev pub at_opening : DrivenCallsView → ℕ → DrivenView
at_opening calls entries = record { calls = calls; limits = replicate entries 0; phase = Resting; closed = [] }

-- What holds while an object waits for this. If it waits for a command, it is at rest. If it waits for a barrier, a call is
-- queued on that entry, and the client has answered for the entries below it and for no others, so that none is asked for
-- twice. And a call is in service while its body runs.
abbrev pub Awaits : Phase → StateView ℕ ℕ → List ℕ → Type 0
Awaits Resting o closed = IsAtRest o closed
Awaits (Asked e) o closed = (o.serving ≡ None) × (e < o.state.unit) × IsSome (find (is_on e) o.state.waiting) × ToldBelow closed e o.state.waiting × AskedBelow closed e
Awaits Running o closed = IsSome o.serving
Awaits Settling o closed = o.serving ≡ None
Awaits Breaking o closed = o.serving ≡ None

-- What holds of a driven object besides its calls: it has a limit for each entry, and what its phase says holds.
pub record IsWaiting (d : DrivenView) : Type 0 where
  pub limits : length d.limits ≡ d.calls.object.state.unit
  pub awaits : Awaits d.phase d.calls.object d.closed

-- What always holds of a driven object.
pub record IsDriven (d : DrivenView) : Type 0 where
  pub traced : IsTraced d.calls
  pub waits : IsWaiting d

-- Calls are accepted: the object waits for a command and isn't finalized, and a number and a place are left.
pub record AcceptsCalls (d : DrivenView) : Type 0 where
  pub resting : d.phase ≡ Resting
  pub alive : d.calls.object.state.finalized ≡ false
  pub number : d.calls.object.state.next < 18_446_744_073_709_551_615
  pub place : d.calls.place < 340_282_366_920_938_463_463_374_607_431_768_211_455

-- A call on this entry is accepted: calls are, and the entry exists.
pub record MayIssue (d : DrivenView) (e : ℕ) : Type 0 where
  pub accepts : AcceptsCalls d
  pub entry : e < d.calls.object.state.unit

-- What the client is told is right: what it is to do next is what the object waits for.
abbrev pub Tells : Action → DrivenView → Type 0
Tells Rest d = d.phase ≡ Resting
Tells (Evaluate e) d = d.phase ≡ Asked e
Tells (Run e) d = d.phase ≡ Running
Tells (Queued e) d = d.phase ≡ Asked e
Tells Cancelled d = d.phase ≡ Settling
Tells ProgramError d = d.phase ≢ Running
Tells NoMemory d = d.phase ≡ Resting
Tells Refused d = Unit {0}

-- After a step that may have changed what a barrier says, no entry counts as reported closed.
abbrev pub Fresh : Action → DrivenView → Type 0
Fresh NoMemory d = Unit {0}
Fresh Refused d = Unit {0}
Fresh other d = d.closed ≡ []

-- A step that is refused, or finds no memory, changes nothing.
abbrev pub KeepsAll : Action → DrivenView → DrivenView → Type 0
KeepsAll NoMemory old new = new ≡ old
KeepsAll Refused old new = new ≡ old
KeepsAll other old new = Unit {0}

-- A step that is refused, or finds no memory, names no call: what was named before stays.
abbrev pub LeavesNamed : Action → NamedCall → NamedCall → Type 0
LeavesNamed NoMemory old new = new ≡ old
LeavesNamed Refused old new = new ≡ old
LeavesNamed other old new = Unit {0}

-- The setup of an object stays: how many entries it has, the limits of their queues, whether its memory is fixed, and if so,
-- for how many calls. And so do the tickets of calls that haven't ended.
pub record KeepsSetup (old new : DrivenView) : Type 0 where
  pub entries : new.calls.object.state.unit ≡ old.calls.object.state.unit
  pub limits : new.limits ≡ old.limits
  pub room : KeepsRoom old.calls.object new.calls.object
  pub tickets : KeepsTickets old.calls.object new.calls.object

-- which entries count as reported closed once the client has answered for this one
abbrev pub closed_after : List ℕ → ℕ → Barrier → List ℕ
closed_after closed e Closed = closed ++ e ∷ []
closed_after closed e Open = []
closed_after closed e Raised = []
