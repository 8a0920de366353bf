use Rattle.std.proofs.Common.{◌<◌, refl, arith}
use Rattle.std.proofs.lemmas.Bool.{ne_eqb}
use Rattle.po_script.proofs.CutterLemmas.{stays, on_err}
use Rattle.po_script.proofs.cutter.Cutter.next.Goals as goal

pub returns-in_err-peek-clause-err : goal.returns-in_err-peek-clause-err
returns-in_err-peek-clause-err g c =
    let k = c.in_err-peek.ensures in
    on_err _ c.from_residual.result (k.err.0, k.err.1, λ bytes start first s. stays _ _ _ _ _ bytes start _ _ first _ _ s (k.given bytes start first s.source))

pub returns-in-None-clause-step : goal.returns-in-None-clause-step
returns-in-None-clause-step g c =
    let k = c.in_ok-peek.ensures in
    (rw c.in-None.is at k.next, rw c.in-None.is at k.ended, λ bytes start first s. stays _ _ _ _ _ bytes start _ _ first _ _ s (k.given bytes start first s.source))

pub returns-then-self-eq-SCRIPT_LIMIT-clause-step : goal.returns-then-self-eq-SCRIPT_LIMIT-clause-step
returns-then-self-eq-SCRIPT_LIMIT-clause-step g c =
    let k = c.in_ok-peek.ensures in
    let next = rw c.in-Some.is at k.next in
    ((c.in-Some.byte, next.0, next.1), c.if-self-eq-SCRIPT_LIMIT.true, rw c.in-Some.is at k.ended, λ bytes start first s. stays _ _ _ _ _ bytes start _ _ first _ _ s (k.given bytes start first s.source))

pub returns-then-byte-eq10-clause-step : goal.returns-then-byte-eq10-clause-step
returns-then-byte-eq10-clause-step g c =
    let k = c.in_ok-peek.ensures in
    let room : c.args.self.now.total < 67108864 = omega (arith, c.args.self.now.few, c.if-self-eq-SCRIPT_LIMIT.false) in
    (rw (c.in-Some.is, c.if-byte-eq10.true) at k.next, room, rw c.in-Some.is at k.ended, refl, λ bytes start first s. stays _ _ _ _ _ bytes start _ _ first _ _ s (k.given bytes start first s.source))

pub returns-clause-step : goal.returns-clause-step
returns-clause-step g c =
    let k = c.in_ok-peek.ensures in
    (c.in-Some.byte, ne_eqb c.in-Some.byte 10 c.if-byte-eq10.false, rw c.in-Some.is at k.ended, c.letter.ensures.total, λ bytes start first s. c.letter.ensures.on bytes start _ first _ (stays _ _ _ _ _ bytes start _ _ first _ _ s (k.given bytes start first s.source)))
