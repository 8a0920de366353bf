use Rattle.std.proofs.Common.{◌≡◌, ◌≤◌, ◌++◌, ◌∷◌, ◌∙◌, ◌||◌, [], false, length, sym, arith}
use Rattle.std.proofs.lemmas.Bool.{ltb-true, ltb-false}
use Rattle.std.proofs.lemmas.List.{append-nil}
use Rattle.std.proofs.lemmas.Result.{err_from_is_err_and}
use Rattle.po_script.specs.Cutter.{number_of, waiting}
use Rattle.po_script.specs.Script.{cut}
use Rattle.po_language.specs.declared.run_error.RunError.{RunError}
use Rattle.po_script.proofs.CutterLemmas.{few_reads, kept_long}
use Rattle.po_script.proofs.StandLemmas.{letter_stands}
use Rattle.po_script.proofs.EndLemmas.{run_long_ends, run_past_ends, err_weaker, ok_weaker}
use Rattle.po_script.proofs.run.Run.read_on.Goals as goal

pub returns-in-Err-clause-reads : goal.returns-in-Err-clause-reads
returns-in-Err-clause-reads g c =
    let i = c.loop-step.invariant in
    few_reads _ _ _ _ i.so_far.0 _ _ _ _ (c.in-Err.ensures.err.2 i.so_far.0 _ _ i.so_far.1.cuts) c.next.new.self.few

pub returns-in-Err-clause-err : goal.returns-in-Err-clause-err
returns-in-Err-clause-err g c =
    let i = c.loop-step.invariant in
    let s = i.so_far.1 in
    let e = c.in-Err.ensures.err in
    let cuts = e.2 i.so_far.0 _ _ s.cuts in
    (i.so_far.0, rw (e.1, append-nil) at cuts.source.consumed, (e.0, rw (i.wrote, i.took) c.requires.writer, s.tells.fine, s.short, s.tells.told))

pub returns-then-is_too_long-clause-reads : goal.returns-then-is_too_long-clause-reads
returns-then-is_too_long-clause-reads g c =
    let i = c.loop-step.invariant in
    let k = rw c.in-Letter.is at c.in-Ok.ensures.step in
    few_reads _ _ _ _ (i.so_far.0 ++ k.0 ∷ []) _ _ _ _ (k.4 i.so_far.0 _ _ i.so_far.1.cuts) c.next.new.self.few

pub returns-then-is_too_long-clause-err : goal.returns-then-is_too_long-clause-err
returns-then-is_too_long-clause-err g c =
    let i = c.loop-step.invariant in
    let s = i.so_far.1 in
    let k = rw c.in-Letter.is at c.in-Ok.ensures.step in
    let now = i.so_far.0 ++ k.0 ∷ [] in
    let cuts = k.4 i.so_far.0 _ _ s.cuts in
    let tells = letter_stands _ _ _ _ _ _ i.so_far.0 _ _ k.0 s.tells k.1 in
    let long = ltb-true 4096 (length (cut now).rest) (sym (kept_long (cut now).rest) ∙ (rw cuts.line_is at (sym c.is_too_long.ensures ∙ c.if-is_too_long.true))) in
    let few : length now ≤ 67108864 = omega (arith, cuts.total_is, c.next.new.self.few) in
    let read = c.in-Ok.ensures.fine ∙ i.read ∙ c.requires.reader.0 in
    let wrote : (g.W.Sink.failed c.loop-step.writer || g.W.Sink.stuck c.loop-step.writer) ≡ false = rw (i.wrote, i.took) c.requires.writer in
    (now ++ waiting c.next.new.self, cuts.source.consumed, rw (c.fault.ensures, read, wrote) (run_long_ends g.O.ScriptObject.units g.O.ScriptObject.object c.loop-step.self.interpreter now _ _ tells (number_of c.next.new.self) (waiting c.next.new.self) (g.R.Source.ended c.next.new.reader) few cuts.number_is long))

pub loop-step-preserved-else-is_too_long : goal.loop-step-preserved-else-is_too_long
loop-step-preserved-else-is_too_long g c =
    let i = c.loop-step.invariant in
    let s = i.so_far.1 in
    let k = rw c.in-Letter.is at c.in-Ok.ensures.step in
    let now = i.so_far.0 ++ k.0 ∷ [] in
    let cuts = k.4 i.so_far.0 _ _ s.cuts in
    let short = ltb-false 4096 (length (cut now).rest) (sym (kept_long (cut now).rest) ∙ (rw cuts.line_is at (sym c.is_too_long.ensures ∙ c.if-is_too_long.false))) in
    record {
      so_far = (now, record { cuts = cuts; short = omega (arith, short); tells = letter_stands _ _ _ _ _ _ i.so_far.0 _ _ k.0 s.tells k.1 });
      read = c.in-Ok.ensures.fine ∙ i.read;
      wrote = i.wrote;
      took = i.took;
    }

pub loop-step-preserved : goal.loop-step-preserved
loop-step-preserved g c =
    let i = c.loop-step.invariant in
    let s = i.so_far.1 in
    let k = rw c.in-Newline.is at c.in-Ok.ensures.step in
    let fed = c.in_ok-newline-in-Newline.ensures in
    record {
      so_far = (i.so_far.0 ++ 10 ∷ [], fed.ok i.so_far.0 _ _ _ _ _ (record { cuts = k.4 i.so_far.0 _ _ s.cuts; short = s.short; tells = s.tells }));
      read = c.in-Ok.ensures.fine ∙ i.read;
      wrote = fed.fine.0 ∙ i.wrote;
      took = fed.fine.1 ∙ i.took;
    }

pub returns-in_err-newline-in-Newline-clause-reads : goal.returns-in_err-newline-in-Newline-clause-reads
returns-in_err-newline-in-Newline-clause-reads g c =
    let i = c.loop-step.invariant in
    let k = rw c.in-Newline.is at c.in-Ok.ensures.step in
    few_reads _ _ _ _ i.so_far.0 _ _ _ _ (k.4 i.so_far.0 _ _ i.so_far.1.cuts) c.next.new.self.few

pub returns-in_err-newline-in-Newline-clause-err : goal.returns-in_err-newline-in-Newline-clause-err
returns-in_err-newline-in-Newline-clause-err g c =
    let p = err_from_is_err_and c.from_residual.result c.from_residual.ensures.1 in
    let i = c.loop-step.invariant in
    let s = i.so_far.1 in
    let k = rw c.in-Newline.is at c.in-Ok.ensures.step in
    let cuts = k.4 i.so_far.0 _ _ s.cuts in
    let read = c.in-Ok.ensures.fine ∙ i.read ∙ c.requires.reader.0 in
    rw (p.1, p.2) (
      i.so_far.0 ++ waiting c.next.new.self,
      cuts.source.consumed,
      rw read (c.in_err-newline-in-Newline.ensures.err (g.R.Source.ended c.next.new.reader) i.so_far.0 _ _ _ _ _ (record { cuts = cuts; short = s.short; tells = s.tells }) (rw (i.wrote, i.took) c.requires.writer)),
    )

pub returns-in-End-clause-reads : goal.returns-in-End-clause-reads
returns-in-End-clause-reads g c =
    let i = c.loop-step.invariant in
    let k = rw c.in-End.is at c.in-Ok.ensures.step in
    few_reads _ _ _ _ i.so_far.0 _ _ _ _ (k.2 i.so_far.0 _ _ i.so_far.1.cuts) c.next.new.self.few

pub returns-in-End-clause-ok : goal.returns-in-End-clause-ok
returns-in-End-clause-ok g c =
    let i = c.loop-step.invariant in
    let s = i.so_far.1 in
    let k = rw c.in-End.is at c.in-Ok.ensures.step in
    let cuts = k.2 i.so_far.0 _ _ s.cuts in
    let read = c.in-Ok.ensures.fine ∙ i.read ∙ c.requires.reader.0 in
    ok_weaker _ _ c.finish.result (λ ends. (i.so_far.0, rw (k.0, append-nil) at cuts.source.consumed, rw (k.1, read) (ends i.so_far.0 _ _ _ _ _ (record { cuts = cuts; short = s.short; tells = s.tells }) (rw (i.wrote, i.took) c.requires.writer)))) c.finish.ensures.ok

pub returns-in-End-clause-err : goal.returns-in-End-clause-err
returns-in-End-clause-err g c =
    let i = c.loop-step.invariant in
    let s = i.so_far.1 in
    let k = rw c.in-End.is at c.in-Ok.ensures.step in
    let cuts = k.2 i.so_far.0 _ _ s.cuts in
    let read = c.in-Ok.ensures.fine ∙ i.read ∙ c.requires.reader.0 in
    err_weaker _ _ c.finish.result (λ (fault : RunError) ends. (i.so_far.0 ++ waiting c.next.new.self, cuts.source.consumed, rw (k.1, read) (ends k.0 i.so_far.0 _ _ _ _ _ (record { cuts = cuts; short = s.short; tells = s.tells }) (rw (i.wrote, i.took) c.requires.writer)))) c.finish.ensures.err

pub returns-in-Past-clause-reads : goal.returns-in-Past-clause-reads
returns-in-Past-clause-reads g c =
    let i = c.loop-step.invariant in
    let k = rw c.in-Past.is at c.in-Ok.ensures.step in
    few_reads _ _ _ _ i.so_far.0 _ _ _ _ (k.3 i.so_far.0 _ _ i.so_far.1.cuts) c.next.new.self.few

pub returns-in-Past-clause-err : goal.returns-in-Past-clause-err
returns-in-Past-clause-err g c =
    let i = c.loop-step.invariant in
    let s = i.so_far.1 in
    let k = rw c.in-Past.is at c.in-Ok.ensures.step in
    let cuts = k.3 i.so_far.0 _ _ s.cuts in
    let all : length i.so_far.0 ≡ 67108864 = omega (arith, cuts.total_is, k.1) in
    let read = c.in-Ok.ensures.fine ∙ i.read ∙ c.requires.reader.0 in
    let wrote : (g.W.Sink.failed c.loop-step.writer || g.W.Sink.stuck c.loop-step.writer) ≡ false = rw (i.wrote, i.took) c.requires.writer in
    (i.so_far.0 ++ waiting c.next.new.self, cuts.source.consumed, rw (c.fault-in-Past.ensures, read, wrote, k.0.2) (run_past_ends g.O.ScriptObject.units g.O.ScriptObject.object c.loop-step.self.interpreter i.so_far.0 _ _ s.tells s.short (number_of c.next.new.self) k.0.0 k.0.1 (g.R.Source.ended c.next.new.reader) all cuts.number_is))
