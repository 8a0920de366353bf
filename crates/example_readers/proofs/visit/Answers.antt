use Rattle.std.proofs.Common.{[]}
use Rattle.example_readers.proofs.visit.Goals as goal

-- each of the five commands keeps the volumes, of which there are none
pub exclusion_law-requires-clause-volumes : goal.exclusion_law-requires-clause-volumes
exclusion_law-requires-clause-volumes g c =
    let asked = c.in_ok-ask-3.ensures [] (c.in_ok-ask-2.ensures [] (c.in_ok-ask.ensures [] c.requires)) in
    c.in_ok-leave-2.ensures [] (c.in_ok-leave.ensures [] asked)
