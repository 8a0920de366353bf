use Rattle.po_classic_units.specs.Buffer.{buffer_meaning}
use Rattle.po_receipts.proofs.OneHistory.{whole-history}
use Rattle.po_laws.proofs.BufferLawLemmas as lemmas
use Rattle.po_laws.proofs.logs.buffer_law_of_log.Goals as goal

pub returns : goal.returns
returns g c =
    let view = c.args.core.now.object in
    let log = c.args.log.now.items in
    let history = whole-history buffer_meaning view log c.headline.ensures.headline c.requires.whole in
    record { law = lemmas.buffer_law view.setup log c.requires.new history.legal }
