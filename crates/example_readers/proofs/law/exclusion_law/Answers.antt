use Rattle.example_readers.specs.ReadersWriters.{readers_writers_meaning}
use Rattle.po_laws.proofs.HistoryLemmas.{whole, whole_legal}
use Rattle.example_readers.proofs.ExclusionLemmas as lemmas
use Rattle.example_readers.proofs.law.exclusion_law.Goals as goal

pub returns : goal.returns
returns g c =
    let view = c.args.core.now.object in
    let volumes = c.args.volumes.now in
    let headline = c.headline.ensures.headline in
    let events = whole readers_writers_meaning view volumes in
    let legal = whole_legal readers_writers_meaning view volumes c.requires.volumes headline in
    record { law = lemmas.exclusion_law view.setup events c.requires.new legal }
