-- SPDX-License-Identifier: MIT
-- Which refusal a command gets: the first in their order that applies. Running out of memory comes after all of them.
use Rattle.std.specs.Prelude.{ℕ, ◌≡◌, ◌||◌, Option, Some, None, Result, Ok, Err, List, nat_lt, nat_le, if◌then◌else◌, find, is_some}
use Rattle.std.specs.List.{slice_get}
use Rattle.po_unit.specs.Meaning.{Meaning}
use Rattle.po_unit.specs.declared.decl.Decl.{Decl}
use Rattle.po_unit.specs.declared.decl.EntryRef.{EntryRef}
use Rattle.po_unit.specs.declared.error.IndexError.{IndexError}
use Rattle.po_unit.specs.Numbering.{flat_number}
use Rattle.po_calls.specs.declared.end.CallStatus.{CallStatus}
use Rattle.po_calls.specs.declared.end.CallStatus.TheVariants.{Unknown, Waiting, Ended}
use Rattle.po_engine.specs.WaitingCalls.{has_number}
use Rattle.po_engine.specs.Tickets.{uncollected}
use Rattle.po_engine.specs.ObjectState.{ObjectState}
use Rattle.po_core.specs.View.{View, next_place}
use Rattle.po_core.specs.declared.refusal.Refusal.{Refusal}
use Rattle.po_core.specs.declared.refusal.Refusal.TheVariants.{NoSuchEntry, PrivateEntry, NoSuchOperation, UnknownCall, AlreadyEnded, Finalized, NumbersSpent, OutOfMemory, TooManyCalls}
use Rattle.po_core.specs.RefusalNumbers.{refusal_of}
use Rattle.po_core.specs.Tickets.{CoreView}

-- the refusal of a reference that has no flat number, or else the other refusal
abbrev pub if_unindexed : Result ℕ IndexError → Option Refusal → Option Refusal
if_unindexed (Ok n) other = other
if_unindexed (Err fault) other = Some (refusal_of fault)

-- the refusal of a call from outside on an entry with this declaration, whatever its index
abbrev pub if_private : Option Decl → Option Refusal → Option Refusal
if_private None other = Some NoSuchEntry
if_private (Some d) other = if d.public then other else Some PrivateEntry

-- the refusal of a call from outside on the entry that a reference names, or else the other refusal
abbrev pub entry_refusal : List Decl → EntryRef → Option Refusal → Option Refusal
entry_refusal shape reference other =
    if_private (slice_get shape reference.declaration) (if_unindexed (flat_number shape reference) other)

-- the one refusal, or else the other
abbrev pub or_else : Option Refusal → Option Refusal → Option Refusal
or_else None other = other
or_else (Some why) other = Some why

-- the refusal of a call if as many are uncollected as may be
abbrev pub if_full : Option ℕ → List (Option ℕ) → Option Refusal
if_full None tickets = None
if_full (Some most) tickets = if nat_le most (uncollected tickets) then Some TooManyCalls else None

-- the refusal of an event whose place an object with fixed memory can't count
abbrev pub if_uncounted : Option ℕ → ℕ → Option Refusal
if_uncounted None place = None
if_uncounted (Some most) place = if nat_le 18_446_744_073_709_551_615 place then Some NumbersSpent else None

-- If nothing else refuses a command, only a lack of memory may, and only if the number of calls isn't fixed.
abbrev pub MayRefuse : Option ℕ → Option Refusal → Refusal → Type 0
MayRefuse capacity (Some why) refusal = refusal ≡ why
MayRefuse capacity None refusal = (capacity ≡ None) × (refusal ≡ OutOfMemory)

-- the refusal of an attempt to cancel a call with this status
abbrev pub cancel_refusal : {V : Type 0} → CallStatus V → Option Refusal
cancel_refusal Unknown = Some UnknownCall
cancel_refusal Waiting = None
cancel_refusal (Ended end) = Some AlreadyEnded

module _ {S V : Type 0} where
  -- the refusal of an operation on a finalized object, or else the other refusal (9.4)
  abbrev pub if_finalized : ObjectState S V → Option Refusal → Option Refusal
  if_finalized s other = if s.finalized then Some Finalized else other

  -- the refusal of a call from outside, by its entry and the object's state
  abbrev pub issue_refusal : View S V → EntryRef → Option Refusal
  issue_refusal view reference =
      entry_refusal view.setup.shape reference
      (if_finalized view.state
      (if nat_le 18_446_744_073_709_551_615 view.state.next then Some NumbersSpent else None))

  -- the refusal of a call from outside
  abbrev pub call_refusal : CoreView S V → EntryRef → Option Refusal
  call_refusal core reference = or_else (issue_refusal core.object reference) (if_full core.capacity core.tickets)

  -- the refusal of a procedure or a cut if no place is left for it
  abbrev pub if_spent : View S V → Option Refusal
  if_spent view = if nat_le 18_446_744_073_709_551_615 (next_place view) then Some NumbersSpent else None

  abbrev pub procedure_refusal : Meaning S V → View S V → ℕ → Option Refusal
  procedure_refusal m view op =
      if nat_le (m.procedures view.state.unit) op then Some NoSuchOperation else if_finalized view.state (if_spent view)

  abbrev pub function_refusal : Meaning S V → View S V → ℕ → Option Refusal
  function_refusal m view op =
      if nat_le (m.functions view.state.unit) op then Some NoSuchOperation else if_finalized view.state None

  -- the refusal of an attempt to cancel the call with number n
  abbrev pub cancel_number_refusal : View S V → ℕ → Option Refusal
  cancel_number_refusal view n =
      if nat_lt n view.setup.first_number || nat_le view.state.next n
      then Some UnknownCall
      else (if is_some (find (has_number n) view.state.waiting) then None else Some AlreadyEnded)

  -- the refusal of a command that only a finalized object refuses
  abbrev pub finalized_refusal : View S V → Option Refusal
  finalized_refusal view = if_finalized view.state None

  -- the refusal of a tick
  abbrev pub tick_refusal : CoreView S V → Option Refusal
  tick_refusal core = or_else (finalized_refusal core.object) (if_uncounted core.capacity (next_place core.object))

  -- the refusal of a cut of the history
  abbrev pub cut_refusal : View S V → Option Refusal
  cut_refusal view = if_spent view

  -- the refusal of a look at how many calls are queued on an entry
  abbrev pub count_refusal : View S V → EntryRef → Option Refusal
  count_refusal view reference = if_unindexed (flat_number view.setup.shape reference) None
