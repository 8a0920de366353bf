use Rattle.std.proofs.Common.{◌≡◌, ◌-◌, ℕ, List}
use Rattle.po_script.specs.Cutter.{total_of}
use Rattle.po_check.specs.Check.{Stands}
use Rattle.po_check.proofs.check.Check.read_on.Given as goal

abbrev pub invariant-loop-step : goal.invariant-loop-step
invariant-loop-step g l =
    record {
      so_far : (bytes : List ℕ) × Stands g.O.ScriptObject.units l.self bytes (g.R.Source.left l.fn.reader) (g.R.Source.left l.reader) (g.R.Source.reads l.fn.reader) (g.R.Source.reads l.reader) (g.P.Report.told l.fn.report) (g.P.Report.told l.report);
      fine : g.P.Report.failed l.report ≡ g.P.Report.failed l.fn.report;
      read : g.R.Source.failed l.reader ≡ g.R.Source.failed l.fn.reader;
    }

abbrev pub decreases-loop-step : goal.decreases-loop-step
decreases-loop-step g l = 67108864 - total_of l.self.lines
