use Rattle.po_script.proofs.run.run_over.Goals as goal

pub read_on-ran-requires-clause-fresh : goal.read_on-ran-requires-clause-fresh
read_on-ran-requires-clause-fresh g c = c.in_ok-run.ensures.ok (g.R.Source.left c.args.reader.now) (g.R.Source.reads c.args.reader.now) (g.W.Sink.taken c.args.writer.now)
