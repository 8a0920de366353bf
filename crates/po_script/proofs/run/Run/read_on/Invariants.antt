use Rattle.std.proofs.Common.{◌≡◌, ◌-◌, ℕ, List}
use Rattle.po_script.specs.Cutter.{total_of}
use Rattle.po_script.specs.Run.{Stands}
use Rattle.po_script.proofs.run.Run.read_on.Given as goal

abbrev pub invariant-loop-step : goal.invariant-loop-step
invariant-loop-step g l =
    record {
      so_far : (bytes : List ℕ) × Stands g.O.ScriptObject.units g.O.ScriptObject.object l.self bytes (g.R.Source.left l.fn.reader) (g.R.Source.left l.reader) (g.R.Source.reads l.fn.reader) (g.R.Source.reads l.reader) (g.W.Sink.taken l.fn.writer) (g.W.Sink.taken l.writer);
      read : g.R.Source.failed l.reader ≡ g.R.Source.failed l.fn.reader;
      wrote : g.W.Sink.failed l.writer ≡ g.W.Sink.failed l.fn.writer;
      took : g.W.Sink.stuck l.writer ≡ g.W.Sink.stuck l.fn.writer;
    }

abbrev pub decreases-loop-step : goal.decreases-loop-step
decreases-loop-step g l = 67108864 - total_of l.self.lines
