use Rattle.std.proofs.Common.{◌<◌, ◌++◌, ◌∷◌, ◌∙◌, [], length, refl, inl, inr, ap, arith}
use Rattle.std.proofs.lemmas.List.{append-nil, length-append}
use Rattle.std.proofs.lemmas.Result.{err_from_is_err_and}
use Rattle.po_script.specs.Cutter.{waiting}
use Rattle.po_script.proofs.CutterLemmas.{few_reads}
use Rattle.po_script.proofs.EndLemmas.{err_weaker}
use Rattle.po_check.specs.declared.error.CheckError.{CheckError}
use Rattle.po_check.proofs.CheckLemmas.{letter_stands, ok_weaker, ok_both}
use Rattle.po_check.proofs.EarlyEnds.{early_other}
use Rattle.po_check.proofs.check.Check.read_on.Goals as goal

pub returns-in-Err-clause-reads : goal.returns-in-Err-clause-reads
returns-in-Err-clause-reads g c =
    let i = c.loop-step.invariant in
    few_reads _ _ _ _ i.so_far.0 _ _ _ _ (c.in-Err.ensures.err.2 i.so_far.0 _ _ i.so_far.1.cuts) c.next.new.self.few

pub returns-in-Err-clause-err : goal.returns-in-Err-clause-err
returns-in-Err-clause-err g c =
    let i = c.loop-step.invariant in
    let s = i.so_far.1 in
    let e = c.in-Err.ensures.err in
    let cuts = e.2 i.so_far.0 _ _ s.cuts in
    (i.so_far.0, rw (e.1, append-nil) at cuts.source.consumed, (e.0, i.fine, s.tells.told))

pub loop-step-preserved-in-Letter : goal.loop-step-preserved-in-Letter
loop-step-preserved-in-Letter g c =
    let i = c.loop-step.invariant in
    let s = i.so_far.1 in
    let k = rw c.in-Letter.is at c.in-Ok.ensures.step in
    record {
      so_far = (i.so_far.0 ++ k.0 ∷ [], record { cuts = k.4 i.so_far.0 _ _ s.cuts; tells = letter_stands g.O.ScriptObject.units _ _ _ i.so_far.0 _ _ k.0 s.tells k.1 });
      fine = i.fine;
      read = c.in-Ok.ensures.fine ∙ i.read;
    }

pub loop-step-preserved : goal.loop-step-preserved
loop-step-preserved g c =
    let i = c.loop-step.invariant in
    let s = i.so_far.1 in
    let k = rw c.in-Newline.is at c.in-Ok.ensures.step in
    record {
      so_far = (i.so_far.0 ++ 10 ∷ [], c.in_ok-newline-in-Newline.ensures.ok i.so_far.0 _ _ _ _ _ (record { cuts = k.4 i.so_far.0 _ _ s.cuts; tells = s.tells }));
      fine = c.in_ok-newline-in-Newline.ensures.fine ∙ i.fine;
      read = c.in-Ok.ensures.fine ∙ i.read;
    }

pub returns-in_err-newline-in-Newline-clause-reads : goal.returns-in_err-newline-in-Newline-clause-reads
returns-in_err-newline-in-Newline-clause-reads g c =
    let i = c.loop-step.invariant in
    let k = rw c.in-Newline.is at c.in-Ok.ensures.step in
    few_reads _ _ _ _ i.so_far.0 _ _ _ _ (k.4 i.so_far.0 _ _ i.so_far.1.cuts) c.next.new.self.few

pub returns-in_err-newline-in-Newline-clause-err : goal.returns-in_err-newline-in-Newline-clause-err
returns-in_err-newline-in-Newline-clause-err g c =
    let p = err_from_is_err_and c.from_residual.result c.from_residual.ensures.1 in
    let i = c.loop-step.invariant in
    let s = i.so_far.1 in
    let k = rw c.in-Newline.is at c.in-Ok.ensures.step in
    let cuts = k.4 i.so_far.0 _ _ s.cuts in
    let e = c.in_err-newline-in-Newline.ensures.err in
    rw (p.1, p.2) (
      i.so_far.0 ++ waiting c.next.new.self,
      cuts.source.consumed,
      early_other g.O.ScriptObject.units _ _ _ _ _ _ _ _ (c.in-Ok.ensures.fine ∙ i.read ∙ c.requires.reader.0) i.fine e.0 (e.1 i.so_far.0 _ _ _ _ _ (record { cuts = cuts; tells = s.tells })),
    )

pub returns-in-End-clause-reads : goal.returns-in-End-clause-reads
returns-in-End-clause-reads g c =
    let i = c.loop-step.invariant in
    let k = rw c.in-End.is at c.in-Ok.ensures.step in
    few_reads _ _ _ _ i.so_far.0 _ _ _ _ (k.2 i.so_far.0 _ _ i.so_far.1.cuts) c.next.new.self.few

pub returns-in-End-clause-ok : goal.returns-in-End-clause-ok
returns-in-End-clause-ok g c =
    let i = c.loop-step.invariant in
    let s = i.so_far.1 in
    let k = rw c.in-End.is at c.in-Ok.ensures.step in
    let cuts = k.2 i.so_far.0 _ _ s.cuts in
    let read = c.in-Ok.ensures.fine ∙ i.read ∙ c.requires.reader.0 in
    ok_weaker _ _ c.finish.result (λ verdict ends.
    let told = ends.0 i.so_far.0 _ _ _ _ _ (record { cuts = cuts; tells = s.tells }) in
    (i.so_far.0, rw (k.0, append-nil) at cuts.source.consumed, record { whole = inl (k.1, rw c.in-End.is at c.in-Ok.ensures.end refl); read = read; written = ends.1 ∙ i.fine; told = told.0; verdict_is = told.1 })) (ok_both _ _ c.finish.result c.finish.ensures.ok c.finish.ensures.fine)

pub returns-in-End-clause-err : goal.returns-in-End-clause-err
returns-in-End-clause-err g c =
    let i = c.loop-step.invariant in
    let s = i.so_far.1 in
    let k = rw c.in-End.is at c.in-Ok.ensures.step in
    let cuts = k.2 i.so_far.0 _ _ s.cuts in
    let read = c.in-Ok.ensures.fine ∙ i.read ∙ c.requires.reader.0 in
    err_weaker _ _ c.finish.result (λ (fault : CheckError) e. (i.so_far.0 ++ waiting c.next.new.self, cuts.source.consumed, early_other g.O.ScriptObject.units fault _ _ _ _ _ _ _ read i.fine e.0 (e.1 i.so_far.0 _ _ _ _ _ (record { cuts = cuts; tells = s.tells })))) c.finish.ensures.err

pub returns-in-Past-clause-reads : goal.returns-in-Past-clause-reads
returns-in-Past-clause-reads g c =
    let i = c.loop-step.invariant in
    let k = rw c.in-Past.is at c.in-Ok.ensures.step in
    few_reads _ _ _ _ i.so_far.0 _ _ _ _ (k.3 i.so_far.0 _ _ i.so_far.1.cuts) c.next.new.self.few

pub returns-in-Past-clause-ok : goal.returns-in-Past-clause-ok
returns-in-Past-clause-ok g c =
    let i = c.loop-step.invariant in
    let s = i.so_far.1 in
    let k = rw c.in-Past.is at c.in-Ok.ensures.step in
    let cuts = k.3 i.so_far.0 _ _ s.cuts in
    let read = c.in-Ok.ensures.fine ∙ i.read ∙ c.requires.reader.0 in
    let past : 67108864 < length (i.so_far.0 ++ waiting c.next.new.self) = omega (arith, cuts.total_is, k.1, length-append i.so_far.0 (waiting c.next.new.self), ap length k.0.2) in
    ok_weaker _ _ c.past_limit.result (λ verdict ends.
    let told = ends.0 i.so_far.0 _ _ _ _ _ (record { cuts = cuts; tells = s.tells }) in
    (i.so_far.0 ++ waiting c.next.new.self, cuts.source.consumed, record { whole = inr past; read = read; written = ends.1 ∙ i.fine; told = told.0; verdict_is = told.1 })) (ok_both _ _ c.past_limit.result c.past_limit.ensures.ok c.past_limit.ensures.fine)

pub returns-in-Past-clause-err : goal.returns-in-Past-clause-err
returns-in-Past-clause-err g c =
    let i = c.loop-step.invariant in
    let s = i.so_far.1 in
    let k = rw c.in-Past.is at c.in-Ok.ensures.step in
    let cuts = k.3 i.so_far.0 _ _ s.cuts in
    let read = c.in-Ok.ensures.fine ∙ i.read ∙ c.requires.reader.0 in
    err_weaker _ _ c.past_limit.result (λ (fault : CheckError) e. (i.so_far.0 ++ waiting c.next.new.self, cuts.source.consumed, early_other g.O.ScriptObject.units fault _ _ _ _ _ _ _ read i.fine e.0 (e.1 i.so_far.0 _ _ _ _ _ (record { cuts = cuts; tells = s.tells })))) c.past_limit.ensures.err
