use Rattle.std.proofs.Common.{◌∙◌, ap, ◌+◌, ◌≤◌, length, drop, arith, length-drop}
use Rattle.std.proofs.lemmas.List.{take_rest, drop-drop}
use Rattle.po_streams.proofs.SinkLemmas.{written_more, still}
use Rattle.po_streams.proofs.sink.write_all.Goals as goal

pub loop-rest-preserved : goal.loop-rest-preserved
loop-rest-preserved g c =
    let i = c.loop-rest.invariant in
    let n = c.in_ok-count.count in
    let bytes = c.args.bytes.now in
    let within : n ≤ length c.loop-rest.rest.now = c.in_ok-count.ensures.within in
    let long = ap length i.rest_is ∙ length-drop i.written bytes in
    record {
      written = i.written + n;
      within = omega (arith, long);
      rest_is = take_rest c.loop-rest.rest.now n ∙ ap (drop n) i.rest_is ∙ drop-drop n i.written bytes;
      took = written_more _ _ _ bytes i.written n i.took (rw i.rest_is at c.in_ok-count.ensures.took);
      failed = c.in_ok-count.ensures.fine ∙ i.failed;
      stuck = still _ _ n c.in_ok-count.ensures.at_stuck c.if-count-eq0.false ∙ i.stuck;
    }
