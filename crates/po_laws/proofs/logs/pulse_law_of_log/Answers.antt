use Rattle.po_classic_units.specs.Pulse.{pulse_meaning}
use Rattle.po_receipts.proofs.OneHistory.{whole-history}
use Rattle.po_laws.proofs.PulseLawLemmas as lemmas
use Rattle.po_laws.proofs.logs.pulse_law_of_log.Goals as goal

pub returns : goal.returns
returns g c =
    let view = c.args.core.now.object in
    let log = c.args.log.now.items in
    let history = whole-history pulse_meaning view log c.headline.ensures.headline c.requires.whole in
    record { law = lemmas.pulse_law view.setup log c.requires.new history.legal history.rest }
