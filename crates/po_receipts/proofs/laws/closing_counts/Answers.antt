use Rattle.po_receipts.proofs.NoOthers.{calls_counted, procedures_counted}
use Rattle.po_receipts.proofs.laws.closing_counts.Goals as goal

pub returns : goal.returns
returns g c =
    let m = g.U.Unit.meaning in
    let core = c.args.core.now in
    let passes = c.args.passes.now in
    let volumes = c.args.volumes.now in
    record {
      calls = calls_counted m core passes volumes c.requires.volumes c.headline.ensures.headline c.requires.totals;
      procedures = procedures_counted m core passes volumes c.requires.volumes c.requires.totals;
    }
