use Rattle.po_receipts.specs.Agreement.{history_of}
use Rattle.po_receipts.proofs.OwnAnswers as lemmas
use Rattle.po_receipts.proofs.laws.own_answers.Goals as goal

pub returns : goal.returns
returns g c =
    let core = c.args.core.now in
    lemmas.own_answers core.object.state.ended (history_of core c.args.volumes.now) c.args.passes.now c.requires.agree
