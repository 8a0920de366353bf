-- SPDX-License-Identifier: MIT
-- What a record in memory keeps besides the state of its object (this project's own).
use Rattle.std.specs.Prelude.{ℕ, ◌≡◌, ◌≤◌, ◌+◌, length, count_by, false, Vec, vec_len, vec_capacity}
use Rattle.po_history.specs.Histories.{HistoryView}
use Rattle.po_engine.specs.declared.ended.Ended.{Ended}
use Rattle.po_core.specs.Setup.{Setup}
use Rattle.po_core.specs.Base.{Base, is_ran}
use Rattle.po_core.specs.Outcomes.{AreOutcomes}
use Rattle.po_core.specs.Noting.{Known}

-- The history has room for `room` events, and there is room for `calls` calls. Outcomes, keys and ends are those that the state
-- knows, and the procedures of the history are counted.
pub record IsRecording {S V A B : Type 0} (setup : Setup S) (s : Known S V) (room calls : ℕ) (b : Base S V) (h : HistoryView V) (by_number : Vec ℕ A) (ends : Vec (Ended V) B) (procedures : ℕ) : Type 0 where
  pub counted : room ≡ h.owed
  pub ran : procedures ≡ b.ran + count_by is_ran h.events
  pub outcomes : AreOutcomes h s.state.ended
  pub numbered : setup.first_number + length h.outcomes ≡ s.state.next + calls
  pub first_number : h.first_number ≡ setup.first_number
  pub place : h.place ≡ b.place
  pub keys : by_number.items ≡ s.keys
  pub ended : ends.items ≡ s.state.ended
  pub first : s.first ≡ setup.first_number
  pub grows : s.is_fixed ≡ false
  pub for_ends : vec_len by_number + calls ≤ vec_capacity ends
  pub for_keys : vec_len by_number + calls ≤ vec_capacity by_number
