-- SPDX-License-Identifier: MIT
-- Calls that have ended.
use Rattle.std.specs.Prelude.{ℕ, ◌==◌, Bool}
use Rattle.po_calls.specs.declared.call.Call.{Call}
use Rattle.po_calls.specs.declared.end.End.{End}
use Rattle.po_engine.specs.declared.ended.Ended.{Ended}

-- the call, ended in this way
abbrev pub ended_as : {V : Type 0} → End V → Call V → Ended V
ended_as end x = record { number = x.number; owner = x.owner; end = end }

-- whether it is the end of the call with number n
abbrev pub has_ended : {V : Type 0} → ℕ → Ended V → Bool
has_ended n x = x.number == n
