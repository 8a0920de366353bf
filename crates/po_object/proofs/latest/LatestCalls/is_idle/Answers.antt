use Rattle.std.proofs.Common.{◌≡◌, Bool, true, false, not, refl}
use Rattle.po_object.proofs.LatestKept.{never-waits, only-ended}
use Rattle.po_object.proofs.latest.LatestCalls.is_idle.Goals as goal

pub returns-in-Never-clause-none : goal.returns-in-Never-clause-none
returns-in-Never-clause-none g c = λ _. never-waits _ _ c.args.seat c.requires c.in-Never.ensures

not_true : (b : Bool) → not b ≡ true → b ≡ false
not_true true h = cc
not_true false h = refl

pub returns-in-Only-clause-none : goal.returns-in-Only-clause-none
returns-in-Only-clause-none g c = λ idle.
    only-ended _ _ c.args.seat c.requires c.in-Only.ticket c.in-Only.ensures _ c.waits.ensures.placed (c.waits.ensures.not (not_true c.waits.result idle))
