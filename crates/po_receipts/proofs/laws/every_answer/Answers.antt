use Rattle.po_receipts.specs.Agreement.{history_of}
use Rattle.po_receipts.proofs.OwnAnswers.{own_answers}
use Rattle.po_receipts.proofs.NoOthers as lemmas
use Rattle.po_receipts.proofs.laws.every_answer.Goals as goal

pub returns : goal.returns
returns g c =
    let m = g.U.Unit.meaning in
    let core = c.args.core.now in
    let passes = c.args.passes.now in
    let volumes = c.args.volumes.now in
    let agree = c.requires.agreed.agree in
    let headline = c.headline.ensures.headline in
    let are = lemmas.cut_off_before m core.object volumes c.headline.ensures.uncut c.requires.agreed.whole c.requires.volumes in
    let alone = lemmas.filed_alone m core passes volumes are headline c.recall_tallies.ensures c.requires.totals agree c.requires.filed in
    record {
      own = own_answers core.object.state.ended (history_of core volumes) passes agree;
      volumes = are;
      serial = lemmas.whole_leads m core passes volumes are headline;
      none_other = alone.0;
      none_pending = alone.1;
    }
