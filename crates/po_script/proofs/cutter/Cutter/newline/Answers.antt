use Rattle.po_script.proofs.CutterLemmas.{newline_cuts}
use Rattle.po_script.proofs.cutter.Cutter.newline.Goals as goal

pub returns-clause-on : goal.returns-clause-on
returns-clause-on c = λ bytes start left first reads s.
    rw (c.clear.ensures.items, c.pass.ensures) (newline_cuts _ _ _ _ c.requires.next.0 bytes start left left first reads reads s c.requires.next.1)
