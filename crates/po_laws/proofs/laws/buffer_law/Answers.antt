use Rattle.po_classic_units.specs.Buffer.{buffer_meaning}
use Rattle.po_laws.proofs.HistoryLemmas.{whole, whole_legal}
use Rattle.po_laws.proofs.BufferLawLemmas as lemmas
use Rattle.po_laws.proofs.laws.buffer_law.Goals as goal

pub returns : goal.returns
returns g c =
    let view = c.args.core.now.object in
    let volumes = c.args.volumes.now in
    let headline = c.headline.ensures.headline in
    let events = whole buffer_meaning view volumes in
    let legal = whole_legal buffer_meaning view volumes c.requires.volumes headline in
    record { law = lemmas.buffer_law view.setup events c.requires.new legal }
