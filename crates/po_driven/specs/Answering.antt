-- SPDX-License-Identifier: MIT
-- Which answer is given when (9.4, 9.5.2 to 9.5.4, 9.7.2).
use Rattle.std.specs.Prelude.{ℕ, ◌≡◌, ◌<◌, ◌&&◌, ◌||◌, not, List, [], Bool, true, false, All}
use Rattle.po_calls.specs.declared.call.Call.{Call}
use Rattle.po_engine.specs.declared.arriving.Arriving.{Arriving}
use Rattle.po_driven.specs.AtRest.{told}
use Rattle.po_driven.specs.DrivenView.{DrivenView}
use Rattle.po_driven.specs.declared.action.Action.{Action}
use Rattle.po_driven.specs.declared.action.Action.TheVariants.{Rest, Evaluate, Run, Queued, Cancelled, ProgramError, NoMemory, Refused}
use Rattle.po_driven.specs.declared.phase.Phase.{Phase}
use Rattle.po_driven.specs.declared.phase.Phase.TheVariants.{Resting, Asked, Running, Settling, Breaking}
use Rattle.po_driven.specs.declared.words.Barrier.{Barrier}
use Rattle.po_driven.specs.declared.words.Barrier.TheVariants.{Closed, Open, Raised}
use Rattle.po_driven.specs.declared.words.Requeue.{Requeue}
use Rattle.po_driven.specs.declared.words.NamedCall.{NamedCall}

-- whether the call is cancelled before its barrier is looked at: its caller was aborted, and it comes by no requeue without
-- abort
abbrev pub is_withdrawn : Arriving ℕ → Bool
is_withdrawn a = a.aborted && not a.without_abort

-- A call whose barrier is open is served. One whose barrier is closed is queued or finds its queue full. If the barrier raised,
-- all calls end by Program_Error, one after the other (9.5.3, D.7).
abbrev pub FollowsBarrier : Action → Arriving ℕ → Barrier → DrivenView → Type 0
FollowsBarrier (Run e) a barrier new = (barrier ≡ Open) × (e ≡ a.entry)
FollowsBarrier (Queued e) a barrier new = barrier ≡ Closed
FollowsBarrier ProgramError a Open new = ⊥
FollowsBarrier ProgramError a Closed new = new.phase ≡ Settling
FollowsBarrier ProgramError a Raised new = new.phase ≡ Breaking
FollowsBarrier other a barrier new = ⊥

-- The same for a call that may be withdrawn, refused or without memory: a withdrawn one is cancelled.
abbrev pub AnswersCall : Action → Arriving ℕ → Barrier → DrivenView → Type 0
AnswersCall Refused a barrier new = Unit {0}
AnswersCall NoMemory a barrier new = is_withdrawn a ≡ false
AnswersCall Cancelled a barrier new = is_withdrawn a ≡ true
AnswersCall action a barrier new = (is_withdrawn a ≡ false) × FollowsBarrier action a barrier new

-- The queues are looked at. The client is asked for a barrier; or a due call is cancelled, if the entry of each queued call was
-- reported closed; or the object is at rest (9.5.3, 9.7.2).
abbrev pub LooksOn : Action → List (Call ℕ) → List ℕ → Type 0
LooksOn Rest waiting closed = Unit {0}
LooksOn (Evaluate e) waiting closed = Unit {0}
LooksOn Cancelled waiting closed = All (λ x. told closed x.entry ≡ true) waiting
LooksOn other waiting closed = ⊥

-- All queued calls end by Program_Error, one after the other, until none is queued (9.4, 9.5.3).
abbrev pub Breaks : Action → DrivenView → DrivenView → Type 0
Breaks ProgramError old new = new.phase ≡ Breaking
Breaks Rest old new = old.calls.object.state.waiting ≡ []
Breaks other old new = ⊥

-- whether a requeue cancels its call: it is with abort, and the call is marked as aborted, by this requeue or before (9.5.4)
abbrev pub is_cancelled : Requeue → Call ℕ → Bool
is_cancelled r x = r.with_abort && (r.aborted || x.aborted)

-- The entry exists, and a place is left for one more arrival.
abbrev pub MayRequeue : DrivenView → Requeue → Type 0
MayRequeue d r = (r.target < d.calls.object.state.unit) × (d.calls.place < 340_282_366_920_938_463_463_374_607_431_768_211_455)

-- A call that its body requeued is cancelled, queued or finds its queue full, and its caller is named.
abbrev pub Moves : Action → Requeue → Call ℕ → NamedCall → DrivenView → Type 0
Moves Refused r x step old = MayRequeue old r → ⊥
Moves Cancelled r x step old = (is_cancelled r x ≡ true) × (step.caller ≡ x.value)
Moves (Queued e) r x step old = (is_cancelled r x ≡ false) × (step.caller ≡ x.value) × (step.number ≡ x.number)
Moves ProgramError r x step old = (is_cancelled r x ≡ false) × (step.caller ≡ x.value)
Moves other r x step old = ⊥

-- The object may be asked for what is next.
abbrev pub WaitsForNext : Phase → Type 0
WaitsForNext Resting = Unit {0}
WaitsForNext (Asked e) = ⊥
WaitsForNext Running = ⊥
WaitsForNext Settling = Unit {0}
WaitsForNext Breaking = Unit {0}
