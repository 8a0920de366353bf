use Rattle.std.proofs.Common.{◌≡◌, ◌+◌, ◌-◌, ◌≤◌, sym, subst, ap, arith, length, length-drop}
use Rattle.po_engine.specs.Pick.{Fits, owed}
use Rattle.po_engine.specs.StateView.{IsFirstDue}
use Rattle.po_core.proofs.Falls.{weight_falls, owed_falls}
use Rattle.po_core.proofs.FirstDue.{first_from_pick}
use Rattle.po_core.proofs.PlacesKept.{arrived_by}
use Rattle.po_core.specs.Noting.{known_of}
use Rattle.po_core.proofs.Trackings.{room_as, inner_follows, tracked_fits, tracked_rests, tracked_inner, tracked_room, tracked_later}
use Rattle.po_core.proofs.core_in_action.CoreInAction.step.Goals as goal

pub perform-requires-clause-fits : goal.perform-requires-clause-fits
perform-requires-clause-fits g c =
    let law = g.met.U.Unit.lawful in
    let m = g.U.Unit.meaning in
    let a = c.self.inside in
    let b = g.R.Record.base a.setup a.kept in
    let es = g.R.Record.events a.kept in
    let e = c.in-Some.event in
    let picked = rw c.order.ensures at (sym c.in-Some.ensures.picked) in
    let fits = tracked_fits m a.setup law b a.state es a.place a.last e c.self.invariant.tracked picked in
    subst (λ s. Fits m s.state e) (sym c.pick.ensures.same) fits

pub perform-requires-clause-first : goal.perform-requires-clause-first
perform-requires-clause-first g c =
    let law = g.met.U.Unit.lawful in
    let m = g.U.Unit.meaning in
    let a = c.self.inside in
    let b = g.R.Record.base a.setup a.kept in
    let es = g.R.Record.events a.kept in
    let e = c.in-Some.event in
    let picked = rw c.order.ensures at (sym c.in-Some.ensures.picked) in
    let fits = tracked_fits m a.setup law b a.state es a.place a.last e c.self.invariant.tracked picked in
    subst (λ s. IsFirstDue s.state e) (sym c.pick.ensures.same) (first_from_pick m a.setup.order a.last a.state.state e picked)

pub perform-requires-clause-later : goal.perform-requires-clause-later
perform-requires-clause-later g c =
    let law = g.met.U.Unit.lawful in
    let m = g.U.Unit.meaning in
    let a = c.self.inside in
    let b = g.R.Record.base a.setup a.kept in
    let es = g.R.Record.events a.kept in
    rw (c.pick.ensures.same, c.queueing-queueing.ensures) (tracked_later m a.setup law b a.state es a.place a.last c.self.invariant.tracked)

pub overflow_add-self : goal.overflow_add-self
overflow_add-self g c =
    let law = g.met.U.Unit.lawful in
    let m = g.U.Unit.meaning in
    let a = c.self.inside in
    let b = g.R.Record.base a.setup a.kept in
    let es = g.R.Record.events a.kept in
    let e = c.in-Some.event in
    let picked = rw c.order.ensures at (sym c.in-Some.ensures.picked) in
    let fits = tracked_fits m a.setup law b a.state es a.place a.last e c.self.invariant.tracked picked in
    omega (arith, tracked_room m a.setup law b a.state es a.place a.last e c.self.invariant.tracked fits)

pub note-requires : goal.note-requires
note-requires g c =
    let law = g.met.U.Unit.lawful in
    let m = g.U.Unit.meaning in
    let a = c.self.inside in
    let b = g.R.Record.base a.setup a.kept in
    let es = g.R.Record.events a.kept in
    let e = c.in-Some.event in
    let picked = rw c.order.ensures at (sym c.in-Some.ensures.picked) in
    let fits = tracked_fits m a.setup law b a.state es a.place a.last e c.self.invariant.tracked picked in
    let is = rw (c.queueing-queueing.ensures, c.pick.ensures.same) at c.perform.ensures.state in
    let r = c.perform.new.self in
    let noted = length c.ended_now-noted.result.now in
    let so_far : noted ≡ length a.state.state.ended - a.state.before = omega (arith, ap length (rw c.pick.ensures.same at c.ended_now-noted.ensures), length-drop a.state.before a.state.state.ended) in
    let less : owed m r.state + 1 ≤ owed m a.state.state = rw (ap (λ s. s.state) is) (owed_falls m law a.setup.max_queue a.state.state e fits) in
    record {
      from = a.state;
      room = owed m a.state.state - 1;
      has = room_as (g.R.Record.IsOf a.setup a.kept (known_of a.state)) (owed m a.state.state) (owed m a.state.state - 1 + 1) 0 (omega (arith, less)) c.self.invariant.has;
      follows = inner_follows m a.setup law b a.state r es a.place a.last e c.self.invariant.tracked fits is noted so_far;
      fits = omega (arith, less);
    }

pub invariant_of-self : goal.invariant_of-self
invariant_of-self g c =
    let law = g.met.U.Unit.lawful in
    let m = g.U.Unit.meaning in
    let a = c.self.inside in
    let b = g.R.Record.base a.setup a.kept in
    let es = g.R.Record.events a.kept in
    let e = c.in-Some.event in
    let picked = rw c.order.ensures at (sym c.in-Some.ensures.picked) in
    let fits = tracked_fits m a.setup law b a.state es a.place a.last e c.self.invariant.tracked picked in
    let is = rw (c.queueing-queueing.ensures, c.pick.ensures.same) at c.perform.ensures.state in
    let r = c.perform.new.self in
    let noted = length c.ended_now-noted.result.now in
    let so_far : noted ≡ length a.state.state.ended - a.state.before = omega (arith, ap length (rw c.pick.ensures.same at c.ended_now-noted.ensures), length-drop a.state.before a.state.state.ended) in
    let at = (rw (c.queueing-queueing.ensures, c.pick.ensures.same) at (c.perform.ensures.places (arrived_by m a.setup b a.state.state es))) c.self.invariant.tracked.placed in
    record {
      tracked = rw (c.served_by-self-inside.ensures, c.note.ensures.base, c.note.ensures.events) (tracked_inner m a.setup law b a.state r es a.place a.last e noted c.self.invariant.tracked fits (inner_follows m a.setup law b a.state r es a.place a.last e c.self.invariant.tracked fits is noted so_far) at);
      has = c.note.ensures.has;
    }

pub returns-in-Some-clause-falls : goal.returns-in-Some-clause-falls
returns-in-Some-clause-falls g c =
    let law = g.met.U.Unit.lawful in
    let m = g.U.Unit.meaning in
    let a = c.self.inside in
    let b = g.R.Record.base a.setup a.kept in
    let es = g.R.Record.events a.kept in
    let e = c.in-Some.event in
    let picked = rw c.order.ensures at (sym c.in-Some.ensures.picked) in
    let fits = tracked_fits m a.setup law b a.state es a.place a.last e c.self.invariant.tracked picked in
    let is = rw (c.queueing-queueing.ensures, c.pick.ensures.same) at c.perform.ensures.state in
    rw (ap (λ s. s.state) is, ← ap (λ view. view.object.state) c.self.view_is) (weight_falls m law a.setup.max_queue a.state.state e fits)

pub returns-in-None-clause-falls : goal.returns-in-None-clause-falls
returns-in-None-clause-falls g c =
    let law = g.met.U.Unit.lawful in
    let m = g.U.Unit.meaning in
    let a = c.self.inside in
    let b = g.R.Record.base a.setup a.kept in
    let es = g.R.Record.events a.kept in
    rw c.pick.ensures.same (tracked_rests m a.setup law b a.state es a.place a.last c.self.invariant.tracked (rw c.order.ensures at (sym c.in-None.ensures.picked)))
