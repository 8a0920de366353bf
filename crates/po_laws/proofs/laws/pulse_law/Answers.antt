use Rattle.po_classic_units.specs.Pulse.{pulse_meaning}
use Rattle.po_laws.proofs.HistoryLemmas.{whole, whole_legal, whole_rests}
use Rattle.po_laws.proofs.PulseLawLemmas as lemmas
use Rattle.po_laws.proofs.laws.pulse_law.Goals as goal

pub returns : goal.returns
returns g c =
    let view = c.args.core.now.object in
    let volumes = c.args.volumes.now in
    let headline = c.headline.ensures.headline in
    let events = whole pulse_meaning view volumes in
    let legal = whole_legal pulse_meaning view volumes c.requires.volumes headline in
    let rests = whole_rests pulse_meaning view volumes c.requires.volumes headline in
    record { law = lemmas.pulse_law view.setup events c.requires.new legal rests }
