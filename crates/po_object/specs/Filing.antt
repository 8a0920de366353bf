-- SPDX-License-Identifier: MIT
-- What passes file: a receipt for each accepted call and procedure (this project's own).
use Rattle.std.specs.Prelude.{ℕ, ◌≡◌, ◌+◌, List, [], ◌∷◌, ◌++◌, IfSome, Some, None, Result}
use Rattle.po_calls.specs.declared.end.End.{End}
use Rattle.po_calls.specs.declared.call.Deadline.{Deadline}
use Rattle.po_history.specs.declared.event.Event.{Event}
use Rattle.po_receipts.specs.declared.asked.Asked.{Asked}
use Rattle.po_receipts.specs.declared.receipt.Receipt.{Receipt}
use Rattle.po_receipts.specs.declared.receipt.Receipt.TheVariants.{Called, Ran}
use Rattle.po_receipts.specs.Passes.{PassView}

module _ {V : Type 0} where
  -- the pass, whose caller has seen this beginning of the history
  abbrev pub seeing : PassView V → List (Event V) → PassView V
  seeing pass seen = record pass { seen = seen }

  -- the pass with this receipt after the earlier ones, whose caller has seen this beginning of the history
  abbrev pub filing : PassView V → Receipt V → List (Event V) → PassView V
  filing pass receipt seen = record pass { receipts = pass.receipts ++ receipt ∷ []; seen = seen }

  -- the pass with one more call, which waits for its receipt
  abbrev pub asking : PassView V → Asked V → List (Event V) → PassView V
  asking pass asked seen = record pass { calls = pass.calls + 1; pending = Some asked; seen = seen }

  -- The pending call got this end: its receipt says what was asked and how it ended, and no call is pending.
  abbrev pub IsFinished : PassView V → End V → PassView V → Type 0
  IsFinished before end after =
      IfSome before.pending (λ asked. after ≡
      filing (record before { pending = None }) (Called asked.ticket.number asked.entry asked.value asked.deadline end) after.seen)

  -- One more call, on this entry, with this value and deadline, was accepted and got this end, and its receipt says so.
  abbrev pub IsCalled : PassView V → ℕ → V → Deadline → End V → PassView V → Type 0
  IsCalled before entry value deadline end after =
      (number : ℕ) × (after ≡ filing (record before { calls = before.calls + 1 }) (Called number entry value deadline end) after.seen)

  -- the pass with one more procedure, which gave this reply, and whose receipt says so
  abbrev pub running : PassView V → ℕ → V → Result V ℕ → List (Event V) → PassView V
  running pass op value reply seen = filing (record pass { procedures = pass.procedures + 1 }) (Ran op value reply) seen
