-- SPDX-License-Identifier: MIT
-- Turns, with the stamps of the arrivals that they come from.
use Rattle.std.specs.Prelude.{ℕ, Option, Some, None, if◌then◌else◌, nat_lt, List, [], ◌∷◌, Bool, true, false}
use Rattle.po_queues.specs.QueuedKeys.{QueuedKey}
use Rattle.po_queues.specs.declared.selection.Selection.{Selection}
use Rattle.po_queues.specs.declared.selection.Selection.TheVariants.{Quiet, Ready, Broken}
use Rattle.po_queues.specs.declared.stamped.Stamped.{Stamped}

-- A turn with its stamp, if there is a turn.
abbrev pub with_stamp : ℕ → Selection → Option Stamped
with_stamp s Quiet = None
with_stamp s (Ready e) = Some (record { stamp = s; selection = Ready e })
with_stamp s (Broken e) = Some (record { stamp = s; selection = Broken e })

-- The one with the lower stamp, or the only one that there is.
abbrev pub older : Option Stamped → Option Stamped → Option Stamped
older None b = b
older (Some a) None = Some a
older (Some a) (Some b) = if nat_lt b.stamp a.stamp then Some b else Some a

-- The turn, or `Quiet` if there is none.
abbrev pub selection_of : Option Stamped → Selection
selection_of None = Quiet
selection_of (Some a) = a.selection

-- The first, or the second if there is no first.
abbrev pub or_stamped : Option Stamped → Option Stamped → Option Stamped
or_stamped None other = other
or_stamped (Some a) other = Some a

-- The turn of a queued key, if its entry passes the test.
abbrev pub stamped_if : Bool → Option Stamped → Option Stamped
stamped_if true a = a
stamped_if false a = None

-- The turn of the key that was queued first, among the entries that pass the test and have a turn.
abbrev pub first_stamped : (ℕ → Bool) → (ℕ → Selection) → List QueuedKey → Option Stamped
first_stamped p f [] = None
first_stamped p f (x ∷ xs) =
    or_stamped (stamped_if (p x.entry) (with_stamp x.stamp (f x.entry))) (first_stamped p f xs)
