use Rattle.std.proofs.Common.{arith, ◌≡◌, vec_len}
use Rattle.po_object.proofs.object.Object.close_after.Goals as goal

pub gather-closed-requires-clause-one_each : goal.gather-closed-requires-clause-one_each
gather-closed-requires-clause-one_each g c =
    let inv = c.object.invariant.calls in
    let view : vec_len c.object.inside.seats ≡ c.missing.new.self = c.object.view_is in
    let same = c.missing.ensures.same in
    λ s l. c.in_default.ensures.none s (omega (arith, inv, view, same, l))
