use Rattle.std.proofs.Common.{◌≡◌, refl, ◌∙◌, true, false}
use Rattle.po_engine.specs.Pick.{pick}
use Rattle.po_core.specs.Progress.{Happens}
use Rattle.po_core.specs.View.{last_served}
use Rattle.po_core.proofs.Settling.{settles_by, same_on}
use Rattle.po_core.proofs.Trails.{settled_at}
use Rattle.po_core.proofs.Views.{same_object, with_object}
use Rattle.po_core.proofs.core_in_action.CoreInAction.settle.Goals as goal

pub loop-preserved : goal.loop-preserved
loop-preserved g c =
    let m = g.U.Unit.meaning in
    let first = c.args.self.now.object in
    let now = c.loop.self.object in
    let o = pick m now.setup.order (last_served now) now.state in
    record {
      settles = settles_by m (c.step.new.self ≡ c.loop.self) first now c.step.new.self.object o refl c.loop.invariant.same c.loop-test.ensures.step c.loop-test.ensures.falls c.loop.invariant.settles;
      same = same_on m first now c.step.new.self.object c.loop.invariant.same c.step.ensures.same;
      tickets = c.step.ensures.tickets ∙ c.loop.invariant.tickets;
      capacity = c.step.ensures.capacity ∙ c.loop.invariant.capacity;
    }

pub returns-clause-exact : goal.returns-clause-exact
returns-clause-exact g c =
    let m = g.U.Unit.meaning in
    let first = c.args.self.now.object in
    let now = c.loop.self.object in
    let o = pick m now.setup.order (last_served now) now.state in
    let step = same_object o false c.loop.self c.step.new.self (λ e. (false ≡ true) × Happens m now c.step.new.self.object e) c.loop-test.ensures.step in
    with_object c.args.self.now c.step.new.self _
    (settled_at m first now c.step.new.self.object o step c.loop.invariant.settles c.loop-test.ensures.falls c.loop.invariant.same)
    (c.step.ensures.tickets ∙ c.loop.invariant.tickets)
    (c.step.ensures.capacity ∙ c.loop.invariant.capacity)
