use Rattle.std.proofs.Common.{◌≡◌, ℕ, ◌≤◌, length, take, drop}
use Rattle.std.specs.Io.KnownBytes.{Appends}
use Rattle.po_streams.proofs.sink.write_all.Given as goal

abbrev pub invariant-loop-rest : goal.invariant-loop-rest
invariant-loop-rest g l =
    record {
      written : ℕ;
      within : written ≤ length l.fn.bytes;
      rest_is : l.rest ≡ drop written l.fn.bytes;
      took : Appends (g.W.Sink.taken l.initial.writer) (g.W.Sink.taken l.writer) (take written l.fn.bytes);
      failed : g.W.Sink.failed l.writer ≡ g.W.Sink.failed l.initial.writer;
      stuck : g.W.Sink.stuck l.writer ≡ g.W.Sink.stuck l.initial.writer;
    }

abbrev pub decreases-loop-rest : goal.decreases-loop-rest
decreases-loop-rest g l = length l.rest
