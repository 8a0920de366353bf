use Rattle.std.proofs.Common.{ap, arith}
use Rattle.po_core.proofs.Trackings.{tracked_same}
use Rattle.po_core.proofs.core_in_action.CoreInAction.collect.Goals as goal

pub invariant_of-self : goal.invariant_of-self
invariant_of-self g c =
    let m = g.U.Unit.meaning in
    let a = c.self.inside in
    let b = g.R.Record.base a.setup a.kept in
    let is = c.collect.ensures.rest in
    record {
      tracked = tracked_same m a.setup b a.state c.collect.new.self (g.R.Record.events a.kept) a.place a.last (ap (λ s. s.state) is) (ap (λ s. s.places) is) (ap (λ s. s.serving) is) (omega (arith, ap (λ s. s.before) is, c.self.invariant.tracked.shown)) c.self.invariant.tracked;
      has = rw is c.self.invariant.has;
    }
