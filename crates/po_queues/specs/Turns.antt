-- SPDX-License-Identifier: MIT
-- The turns of entries: in which order entries are examined, what examining one finds, and whose turn comes first. The orders
-- are this project's own, within what FIFO_Queuing (D.4) leaves open.
use Rattle.std.specs.Prelude.{ℕ, zero, suc, ◌+◌, Bool, true, false, Result, Ok, Err, List, [], ◌∷◌, ◌++◌, take, drop}
use Rattle.std.specs.Prelude.{Option, Some, None}
use Rattle.po_queues.specs.declared.selection.Selection.{Selection}
use Rattle.po_queues.specs.declared.selection.Selection.TheVariants.{Quiet, Ready, Broken}
use Rattle.po_queues.specs.declared.order.Order.{Order}
use Rattle.po_queues.specs.declared.order.Order.TheVariants.{Textual, Oldest, Rotating}

-- The numbers below n, rising: the entries of an object that has n of them (9.5.2).
abbrev pub below : ℕ → List ℕ
below zero = []
below (suc n) = below n ++ n ∷ []

-- The entries in the order in which they are examined: by rising number; by the arrival of the first key on each; or from the
-- entry after the one that was served last, around to that one. `queued` are the entries of the queued keys, in order of
-- arrival.
abbrev pub examined : Order → Option ℕ → ℕ → List ℕ → List ℕ
examined Textual last total queued = below total
examined Oldest last total queued = queued
examined Rotating None total queued = below total
examined Rotating (Some e) total queued = drop (e + 1) (below total) ++ take (e + 1) (below total)

-- The turn of an entry on which a key is queued, by its barrier. An open entry is served, and one whose barrier propagates an
-- exception ends all calls (9.5.3).
abbrev pub turn : ℕ → Result Bool ℕ → Selection
turn e (Ok true) = Ready e
turn e (Ok false) = Quiet
turn e (Err k) = Broken e

-- Whether no entry has its turn.
abbrev pub tells_nothing : Selection → Bool
tells_nothing Quiet = true
tells_nothing (Ready e) = false
tells_nothing (Broken e) = false

-- The first, or the second if the first is `Quiet`.
abbrev pub or_selection : Selection → Selection → Selection
or_selection Quiet other = other
or_selection (Ready e) other = Ready e
or_selection (Broken e) other = Broken e

-- The turn of the first of these entries that has one.
abbrev pub first_selection : (ℕ → Selection) → List ℕ → Selection
first_selection f [] = Quiet
first_selection f (e ∷ es) = or_selection (f e) (first_selection f es)

-- The turn, if the test holds.
abbrev pub selection_if : Bool → Selection → Selection
selection_if true selection = selection
selection_if false selection = Quiet
