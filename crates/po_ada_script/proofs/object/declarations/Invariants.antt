use Rattle.std.proofs.Common.{◌≡◌, map, take}
use Rattle.po_ada_script.specs.Shapes.{declaration}
use Rattle.po_ada_script.proofs.object.declarations.Given as goal

-- the entries so far have their declarations
abbrev pub invariant-loop-entry : goal.invariant-loop-entry
invariant-loop-entry l = l.declarations.items ≡ map declaration (take l.entry-index l.entries)
