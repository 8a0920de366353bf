-- SPDX-License-Identifier: MIT
-- An object whose client runs the bodies and evaluates the barriers (this project's own).
use Rattle.std.specs.Prelude.{ℕ, ◌+◌, drop}
use Rattle.po_calls.specs.declared.call.Call.{Call}
use Rattle.po_engine.specs.ObjectState.{ObjectState}
use Rattle.po_engine.specs.declared.arriving.Arriving.{Arriving}

-- a call that is new
abbrev pub new_call : {V : Type 0} → ℕ → Arriving V → Call V
new_call n a = record { number = n; owner = 0; entry = a.entry; value = a.value; without_abort = a.without_abort; aborted = a.aborted; deadline = a.deadline }

module _ {S V : Type 0} where
  -- the state after one more call has got its number
  abbrev pub counted : ObjectState S V → ObjectState S V
  counted s = record s { next = s.next + 1 }

  -- the state after the call that was queued first of all has left its queue
  abbrev pub take_oldest : ObjectState S V → ObjectState S V
  take_oldest s = record s { waiting = drop 1 s.waiting }
