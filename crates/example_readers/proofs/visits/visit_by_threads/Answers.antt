-- The closed object is the one that was opened.
use Rattle.std.proofs.Common.{◌≡◌, subst}
use Rattle.example_readers.specs.Exclusion.{WritersAreAlone}
use Rattle.example_readers.proofs.visits.visit_by_threads.Goals as goal

pub returns : goal.returns
returns g c =
    let closed = c.in_ok-closed.closed in
    let opened = c.requires.story.0 in
    let same_object = c.in_ok-closed.ensures in
    let same : closed.core.object.setup ≡ c.args.core.object.setup = cc in
    record { alone = subst (λ setup. WritersAreAlone setup closed.log) same c.writers_were_alone.ensures }
