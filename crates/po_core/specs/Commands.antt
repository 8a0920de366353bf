-- SPDX-License-Identifier: MIT
-- The entry that a call names, the event of a command that issues a call, and what a procedure replies.
use Rattle.std.specs.Prelude.{ℕ, List, Result, Ok, Err}
use Rattle.po_unit.specs.Meaning.{Meaning}
use Rattle.po_unit.specs.declared.decl.Decl.{Decl}
use Rattle.po_unit.specs.declared.decl.EntryRef.{EntryRef}
use Rattle.po_unit.specs.declared.error.IndexError.{IndexError}
use Rattle.po_unit.specs.Numbering.{flat_number}
use Rattle.po_calls.specs.declared.call.Deadline.{Deadline}
use Rattle.po_history.specs.declared.event.Event.{Event}
use Rattle.po_history.specs.declared.event.Event.TheVariants.{Issue}
use Rattle.po_engine.specs.ObjectState.{counts_in}
use Rattle.po_core.specs.View.{View}

-- the flat number, or zero if there is none: such a call is refused
abbrev pub number_or : Result ℕ IndexError → ℕ
number_or (Ok n) = n
number_or (Err fault) = 0

-- the flat number of the entry that a reference names
abbrev pub entry_of : List Decl → EntryRef → ℕ
entry_of shape reference = number_or (flat_number shape reference)

module _ {S V : Type 0} where
  -- the event of a call that this owner issues now, on the entry that the reference names (9.5.3)
  abbrev pub issue_of : View S V → ℕ → EntryRef → V → Deadline → Event V
  issue_of view owner entry value deadline =
      Issue view.state.next owner (entry_of view.setup.shape entry) value deadline

  -- what the procedure replies now: a value, or the number of the exception that it propagates (9.5.1)
  abbrev pub reply_of : Meaning S V → View S V → ℕ → V → Result V ℕ
  reply_of m view op value = (m.procedure view.state.unit op value (counts_in m view.state)).1
