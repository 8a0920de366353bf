-- SPDX-License-Identifier: MIT
-- What the history says of each seat: the calls and procedures that it asked for, and the receipts that are due for them (this
-- project's own).
use Rattle.std.specs.Prelude.{ℕ, ◌==◌, List, filter, map, find, Bool, false, Option, Some, None, option_map}
use Rattle.po_calls.specs.declared.end.End.{End}
use Rattle.po_history.specs.declared.event.Event.{Event}
use Rattle.po_history.specs.declared.event.Event.TheVariants.{Issue, Procedure}
use Rattle.po_engine.specs.declared.ended.Ended.{Ended}
use Rattle.po_engine.specs.Ending.{has_ended}
use Rattle.po_receipts.specs.declared.receipt.Receipt.{Receipt}

module _ {V : Type 0} where
  -- whether the event is a call or a procedure that this seat asked for (9.5.1, 9.5.3)
  abbrev pub is_asked_by : ℕ → Event V → Bool
  is_asked_by seat (Issue n owner e v deadline) = owner == seat
  is_asked_by seat (Procedure owner op v reply) = owner == seat
  is_asked_by seat other = false

  -- the calls and procedures that a seat asked for, in the order of the history
  abbrev pub asked_by : List (Event V) → ℕ → List (Event V)
  asked_by history seat = filter (is_asked_by seat) history

  -- how the call with number n ended, if it has
  abbrev pub answer_of : List (Ended V) → ℕ → Option (End V)
  answer_of ended n = option_map (λ x. x.end) (find (has_ended n) ended)

  -- The receipt that is due for an event: for a call that has ended, what was asked and its answer; for a procedure, what was
  -- asked and its reply. None is due for a call that hasn't ended, or for any other event.
  abbrev pub receipt_of : List (Ended V) → Event V → Option (Receipt V)
  receipt_of ended (Issue n owner e v deadline) = option_map (λ answer. Receipt.Called n e v deadline answer) (answer_of ended n)
  receipt_of ended (Procedure owner op v reply) = Some (Receipt.Ran op v reply)
  receipt_of ended other = None

  -- the receipts that are due to a seat, one for each call and procedure that it asked for
  abbrev pub receipts_due : List (Ended V) → List (Event V) → ℕ → List (Option (Receipt V))
  receipts_due ended history seat = map (receipt_of ended) (asked_by history seat)
