use Rattle.example_readers.specs.ReadersWriters.{readers_writers_meaning}
use Rattle.po_receipts.proofs.OneHistory.{whole-history}
use Rattle.example_readers.proofs.ExclusionLemmas as lemmas
use Rattle.example_readers.proofs.law.exclusion_law_of_log.Goals as goal

pub returns : goal.returns
returns g c =
    let view = c.args.core.now.object in
    let log = c.args.log.now.items in
    let history = whole-history readers_writers_meaning view log c.headline.ensures.headline c.requires.whole in
    record { law = lemmas.exclusion_law view.setup log c.requires.new history.legal }
