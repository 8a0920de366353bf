-- SPDX-License-Identifier: MIT
-- Histories whose calls from outside are on public entries.
use Rattle.std.specs.Prelude.{◌≡◌, List, true, All}
use Rattle.po_unit.specs.declared.decl.Decl.{Decl}
use Rattle.po_unit.specs.Numbering.{is_public}
use Rattle.po_history.specs.declared.event.Event.{Event}
use Rattle.po_history.specs.declared.event.Event.TheVariants.{Issue}

-- A call that is issued names a public entry: one in the visible part of the declaration (9.4, 9.5.2).
abbrev pub NamesPublic : {V : Type 0} → List Decl → Event V → Type 0
NamesPublic shape (Issue n owner e v d) = is_public shape e ≡ true
NamesPublic shape other = Unit {0}

-- Each issued call names a public entry.
abbrev pub AllPublic : {V : Type 0} → List Decl → List (Event V) → Type 0
AllPublic shape events = All (NamesPublic shape) events
