use Rattle.po_stress.proofs.EndSums.{ends_add_up}
use Rattle.po_stress.proofs.sums.recall_sums.Goals as goal

pub returns-clause-ended : goal.returns-clause-ended
returns-clause-ended g c = λ ok.
    ends_add_up c.args.closed.now.core.object.state.ended c.args.closed.now.core.object.events c.args.closed.now.passes
    (c.requires.0 ok).agree c.every_answer.ensures.none_other
