-- SPDX-License-Identifier: MIT
-- Which volumes are parts of an object's history, as a caller has seen it (this project's own).
use Rattle.std.specs.Prelude.{◌≡◌, ◌+◌, List, ◌++◌, All, Option, length}
use mathlib.Core.List.{IsPrefix}
use Rattle.po_history.specs.declared.event.Event.{Event}
use Rattle.po_history.specs.Histories.{VolumeView}
use Rattle.po_engine.specs.Finding.{IsFound}
use Rattle.po_core.specs.Setup.{Setup}

-- The volume is a part of the log: the earlier events are as many as its first place says, then its own events follow, and then
-- maybe more (this project's own).
pub record IsPartOf {S V : Type 0} (setup : Setup S) (volume : VolumeView V) (log : List (Event V)) : Type 0 where
  pub earlier : List (Event V)
  pub within : IsPrefix (earlier ++ volume.events) log
  pub placed : volume.first_place ≡ setup.first_place + length earlier

-- Each of the volumes is a part of the log of the object that was opened (this project's own).
abbrev pub AreParts : {S V : Type 0} → Option (Setup S) → List (Event V) → List (VolumeView V) → Type 0
AreParts made log volumes = All (λ volume. IsFound (λ setup. IsPartOf setup volume log) made) volumes
