use Rattle.std.proofs.Common.{sym, subst}
use Rattle.po_engine.specs.Arrival.{AreAt, Increases}
use Rattle.po_engine.proofs.PlaceSteps.{at_push, increases_push}
use Rattle.po_engine.proofs.state.State.enter.Goals as goal

pub returns-clause-places : goal.returns-clause-places
returns-clause-places g c = λ f is at.
    let s = c.args.self.now in
    subst (λ v. AreAt f v.state.waiting v.places) (sym c.queue.ensures) (at_push f s.state.waiting s.places c.args.call c.args.queueing.place is at)

pub returns-clause-rises : goal.returns-clause-rises
returns-clause-rises g c = λ h.
    subst (λ v. Increases v.places) (sym c.queue.ensures) (increases_push c.args.self.now.places c.args.queueing.place c.requires.later h)
