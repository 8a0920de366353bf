-- A call whose time has come moves to those that are due.
use Rattle.std.proofs.Common.{◌<◌, ◌≤◌, sym, subst}
use Rattle.std.specs.Prelude.{IfSome}
use Rattle.po_queues.specs.Least.{number_of}
use Rattle.po_queues.proofs.PlaceLemmas.{numbers, fewer_numbers}
use Rattle.po_queues.proofs.ExpirationLemmas.{moving}
use Rattle.po_queues.proofs.expirations.Expirations.rise.Goals as goal

pub set-requires-in-Some : goal.set-requires-in-Some
set-requires-in-Some c =
    let s = c.loop-key.self-inside in
    let within = subst (λ b. IfSome (number_of s.later c.in-Some.key) (λ n. n ≤ b)) c.from.ensures c.in-Some.ensures.within in
    (moving c.loop-key.invariant.holds c.in-Some.key c.in-Some.ensures.some within).2

pub loop-key-smaller : goal.loop-key-smaller
loop-key-smaller c =
    let s = c.loop-key.self-inside in
    let within = subst (λ b. IfSome (number_of s.later c.in-Some.key) (λ n. n ≤ b)) c.from.ensures c.in-Some.ensures.within in
    let m = moving c.loop-key.invariant.holds c.in-Some.key c.in-Some.ensures.some within in
    subst (λ l. numbers l < numbers s.later) (sym c.set.ensures) (fewer_numbers s.later c.in-Some.key m.0 m.1)
