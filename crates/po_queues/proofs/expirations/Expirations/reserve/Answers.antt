-- Room for more calls changes nothing else.
use Rattle.std.proofs.Common.{◌≤◌, length, arith}
use Rattle.po_queues.proofs.ExpirationLemmas.{reserved}
use Rattle.po_queues.proofs.expirations.Expirations.reserve.Goals as goal

pub invariant_of-self-2 : goal.invariant_of-self-2
invariant_of-self-2 c =
    let s = c.self.inside in
    let more = c.in_ok-more in
    let longer : length s.calls.items ≤ more.more =
    omega (arith, more.ensures, c.len-reserved.ensures, c.len-reserved.type_inv, s.calls.ok.0) in
    reserved c.self.invariant more.more _ longer (omega (arith, s.calls.ok.0)) c.grow.new.self c.grow-2.new.self
    c.in_ok-grow.ensures.ok c.in_ok-grow-2.ensures.ok _ c.resize.new.self.items c.resize.ensures.items
