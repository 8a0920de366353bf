use Rattle.po_classic_units.specs.Meeting.{meeting_meaning}
use Rattle.po_laws.proofs.HistoryLemmas.{whole, whole_legal, whole_rests}
use Rattle.po_laws.proofs.MeetingLawLemmas as lemmas
use Rattle.po_laws.proofs.laws.meeting_law.Goals as goal

pub returns : goal.returns
returns g c =
    let view = c.args.core.now.object in
    let volumes = c.args.volumes.now in
    let headline = c.headline.ensures.headline in
    let events = whole meeting_meaning view volumes in
    let legal = whole_legal meeting_meaning view volumes c.requires.volumes headline in
    let rests = whole_rests meeting_meaning view volumes c.requires.volumes headline in
    record { law = lemmas.meeting_law view.setup events c.requires.new legal rests }
