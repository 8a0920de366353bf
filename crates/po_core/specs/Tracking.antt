-- SPDX-License-Identifier: MIT
-- What an object keeps of its history, whether in a record or for proofs alone (this project's own).
use Rattle.std.specs.Prelude.{ℕ, ◌≡◌, ◌≤◌, ◌+◌, ◌*◌, List, length, Option, None}
use Rattle.po_unit.specs.Meaning.{Meaning}
use Rattle.po_history.specs.declared.event.Event.{Event}
use Rattle.po_core.specs.Setup.{Setup}
use Rattle.po_core.specs.Base.{Base, opening_base, state_at, arrived}
use Rattle.po_engine.specs.Arrival.{AreAt, arrivals}
use Rattle.po_core.specs.History.{IsHistory}
use Rattle.po_engine.specs.Pick.{owed, last_from}
use Rattle.po_engine.specs.StateView.{StateView}

-- the base of an object whose history was never cut: its opening
abbrev pub opening_of : {S V : Type 0} → Setup S → Base S V
opening_of setup = opening_base setup.opening setup.first_number setup.first_place

-- The places of the events that may still follow fit 128 bits, even if all calls are issued that may be: each causes at most
-- 259 events.
abbrev pub ArePlaces : ℕ → ℕ → ℕ → Type 0
ArePlaces place owed next = place + owed + 4_777_706_715_090_773_868_544 ≤ 170_141_183_460_469_231_731_687_303_715_884_105_728 + 259 * next

-- What an object keeps in the middle of a protected action: its history from the base; the place of the next event, and the
-- fact that the places of those that may follow fit; the place at which each waiting call arrived; the entry that was served
-- last; and how many calls had ended before the command.
pub record IsTracked {S V : Type 0} (m : Meaning S V) (setup : Setup S) (b : Base S V) (s : StateView S V) (events : List (Event V)) (next : ℕ) (served : Option ℕ) : Type 0 where
  pub history : IsHistory m setup b s.state events
  pub last : served ≡ last_from b.last events
  pub placed : AreAt (arrivals m setup.max_queue (state_at b s.state.ended) b.place (arrived b) events) s.state.waiting s.places
  pub place : next ≡ b.place + length events
  pub fits : ArePlaces next (owed m s.state) s.state.next
  pub numbers : s.state.next ≤ 18_446_744_073_709_551_615
  pub shown : s.before ≤ length s.state.ended
  pub idle : s.serving ≡ None
