use Rattle.std.proofs.Common.{rules, ◌≡◌, subst, sym}
use Rattle.po_core.specs.Tracking.{opening_of}
use Rattle.po_core.proofs.Recordings.{recording_opens}
use Rattle.po_core.specs.Recording.{IsRecording}
use Rattle.po_core.proofs.recorded.Recorded.new.Goals as goal

pub returns-clause-has : goal.returns-clause-has
returns-clause-has g c =
    let made = c.args.setup.now in
    let base : c.new-2.result ≡ opening_of made = search rules in
    let at = rw (c.first_number-first_number.ensures, c.first_place-first_place.ensures) at c.in_ok-history.ensures in
    λ s is keys first grows. subst (λ b. IsRecording made s 1 0 b c.in_ok-history.history c.new-3.result c.new-4.result 0) (sym base) (recording_opens g.U.Unit.meaning made c.in_ok-history.history c.new-3.result c.new-4.result at c.new-3.ensures.items c.new-3.ensures.len c.new-4.ensures.items s is keys first grows)
