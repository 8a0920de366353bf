use Rattle.std.proofs.Common.{◌<◌, ◌||◌, length, arith}
use Rattle.std.proofs.lemmas.Result.{err_from_is_err_and}
use Rattle.po_script.specs.Cutter.{kept, number_of}
use Rattle.po_script.specs.Script.{cut}
use Rattle.po_script.proofs.CutLemmas.{cut-newline}
use Rattle.po_script.proofs.StandLemmas.{newline_stands}
use Rattle.po_script.proofs.EndLemmas.{newline_ends, whole_line}
use Rattle.po_script.proofs.run.Run.newline.Goals as goal

pub returns-in_err-carry_out-clause-err : goal.returns-in_err-carry_out-clause-err
returns-in_err-carry_out-clause-err g c =
    let p = err_from_is_err_and c.from_residual.result c.from_residual.ensures.1 in
    let run = c.args.self.now in
    rw (p.1, p.2) (λ ended bytes start left first reads had s fine.
    let room : length bytes < 67108864 = omega (arith, s.cuts.total_is, c.requires.room) in
    let whole = whole_line (kept run.lines) (cut bytes).rest s.cuts.line_is s.short in
    rw c.requires.next.1 (newline_ends g.O.ScriptObject.units g.O.ScriptObject.object run.interpreter bytes had _ s.tells s.short c.in_err-carry_out.field-0.0 (number_of run.lines) c.requires.next.0 _ (g.W.Sink.failed c.args.writer.now || g.W.Sink.stuck c.args.writer.now) (g.W.Sink.failed c.carry_out.new.writer || g.W.Sink.stuck c.carry_out.new.writer) ended room s.cuts.number_is fine (rw (c.number.ensures, c.line.ensures, whole) at c.in_err-carry_out.ensures.err)))

pub returns-clause-ok : goal.returns-clause-ok
returns-clause-ok g c = λ bytes start left first reads had s.
    let k = c.in_ok-carry_out.ensures.ok in
    let whole = whole_line (kept c.args.self.now.lines) (cut bytes).rest s.cuts.line_is s.short in
    record {
      cuts = c.newline.ensures.on bytes start left first reads s.cuts;
      short = rw (cut-newline bytes) (omega arith);
      tells = rw (k.begun, k.state) (newline_stands _ _ _ _ _ _ bytes had _ _ k.command s.tells s.short (rw (c.line.ensures, whole) at k.says) k.told);
    }
