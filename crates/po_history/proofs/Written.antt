-- The lists that the methods write into the ghost field. Since the field has no bytes, this is all that their bodies do.
use Rattle.std.proofs.Common.{List, [], ◌∷◌, ◌++◌}

module _ {X : Type 0} where
  abbrev pub written_new : List X
  written_new = []

  abbrev pub written_copy : List X → List X
  written_copy xs = xs

  abbrev pub written_then : List X → X → List X
  written_then xs x = xs ++ x ∷ []
