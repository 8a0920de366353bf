use Rattle.std.proofs.Common.{◌≡◌, ◌<◌, ◌++◌, ◌∷◌, [], length, sym, arith}
use Rattle.std.proofs.lemmas.List.{length_push, take_all, take_at}
use Rattle.po_script.proofs.CutterLemmas.{letter_cuts}
use Rattle.po_script.proofs.cutter.Cutter.letter.Goals as goal
use Rattle.po_script.proofs.cutter.Cutter.letter.Goals.{then-len-lt-KEPT, else-len-lt-KEPT}

pub returns-clause-on : goal.returns-clause-on
returns-clause-on c = λ bytes start left first reads s.
    let line = c.args.self.now.line.items in
    let b = c.args.byte in
    rw c.pass.ensures (elim c.if-len-lt-KEPT.branch [
      | then-len-lt-KEPT w ↦
          let short : length line < 4097 = omega (arith, w.if-len-lt-KEPT.true, c.len.ensures, c.args.self.now.line.ok.0) in
          rw (w.self-is, w.push_reserved.ensures.items) (letter_cuts line _ _ _ c.requires.next.0 bytes start left left first reads reads s (line ++ b ∷ []) b c.requires.other (sym (take_all 4097 (line ++ b ∷ []) (omega (arith, short, length_push line b)))) c.requires.next.1)
      | else-len-lt-KEPT w ↦
          let full : length line ≡ 4097 = omega (arith, w.if-len-lt-KEPT.false, c.len.ensures, c.args.self.now.line.ok.0, c.args.self.now.short) in
          rw w.self-is (letter_cuts line _ _ _ c.requires.next.0 bytes start left left first reads reads s line b c.requires.other (sym (take_at line (b ∷ []) 4097 full)) c.requires.next.1)
    ])
