-- What the methods write into the ghost fields. The fields have no bytes, so this is all that the methods do.
use Rattle.std.proofs.Common.{List, [], ◌∷◌}
use mathlib.Core.List.{IsPrefix, append-nil}

module _ {X : Type 0} where
  -- what `note` adds to the log
  abbrev pub note_adds : X → List X
  note_adds last = last ∷ []

  -- what `reach` adds, if this is missing
  abbrev pub reach_adds : List X → List X
  reach_adds lacking = lacking

  -- what `follow` adds, if the list was extended by this
  abbrev pub follow_adds : List X → List X
  follow_adds more = more

  -- what `show` says has been seen, and that it is a beginning of the log
  abbrev pub show_sees : (log : List X) → (seen : List X) × IsPrefix seen log
  show_sees log = (log, ([], append-nil log))
