use Rattle.std.proofs.Common.{◌+◌, ◌++◌, subst, MatchOption}
use Rattle.po_history.specs.Histories.{joined}
use Rattle.po_receipts.specs.Agreement.{AgreeBelow, IsMismatch}
use Rattle.po_receipts.proofs.round.difference_by_marks.Goals as goal

pub returns : goal.returns
returns g c below =
    let ended = c.args.core.now.object.state.ended in
    let history = joined c.args.volumes.now ++ c.args.core.now.object.events in
    let passes = c.args.passes.now in
    subst (λ n. MatchOption c.lowest_difference.result (AgreeBelow ended history passes (c.args.first + n)) (λ d. IsMismatch ended history passes d.seat d.place))
    c.note_history.auto.marks (c.lowest_difference.ensures ended history c.note_history.ensures below)
