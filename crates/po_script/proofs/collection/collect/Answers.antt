use Rattle.std.proofs.Common.{◌<◌, ◌≤◌, ◌∙◌, ap, sym, length, arith}
use Rattle.po_core.specs.View.{ended_now}
use Rattle.po_script.proofs.CollectLemmas.{found_ended, collected_more}
use Rattle.po_script.proofs.collection.collect.Goals as goal

pub collect_one-requires-clause-ended : goal.collect_one-requires-clause-ended
collect_one-requires-clause-ended g c =
    let view = c.loop-index.core.object in
    let shown = c.ended_now-index-end.ensures ∙ ap ended_now (sym c.loop-index.invariant.object) in
    let low : c.loop-index.index < length (ended_now view) = rw shown at c.loop-index-test.true in
    rw c.ended_now.ensures (found_ended view.state.ended view.ended_before c.loop-index.index _ low)

pub loop-index-preserved : goal.loop-index-preserved
loop-index-preserved g c =
    let i = c.loop-index.invariant in
    let e = c.collect_one.ensures in
    let shown = c.ended_now.ensures ∙ ap ended_now i.object in
    record {
      object = e.object ∙ i.object;
      knows = e.knows;
      collected =
          collected_more c.loop-index.core.tickets c.collect_one.new.core.tickets (ended_now c.args.core.now.object)
          c.loop-index.index _ i.collected e.others (rw shown at e.collected);
    }

pub returns-clause-collected : goal.returns-clause-collected
returns-clause-collected g c =
    let same = c.loop-index.invariant.object in
    let shown = c.ended_now-index-end.ensures in
    let all : length (ended_now c.args.core.now.object) ≤ c.loop-index.index = rw shown at c.loop-index-test.false in
    rw same (λ k d low. c.loop-index.invariant.collected k d (omega (arith, low, all)) low)
