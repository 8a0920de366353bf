use Rattle.std.proofs.Common.{ℕ, cond, ◌≡◌, ◌+◌, ◌-◌, None, [], arith, sym, ap, subst, refl}
use Rattle.po_history.specs.declared.event.Event.TheVariants.{Finalize}
use Rattle.po_engine.specs.Step.{MayBegin}
use Rattle.po_engine.specs.Arrival.{AreAt, noted}
use Rattle.po_engine.specs.Pick.{owed}
use Rattle.po_core.proofs.PlacesKept.{arrived_by}
use Rattle.po_core.specs.Noting.{known_of}
use Rattle.po_core.proofs.Trackings.{room_as, own_follows, tracked_own, tracked_place}
use Rattle.po_core.proofs.core_in_action.CoreInAction.finalize.Goals as goal

pub overflow_add-self : goal.overflow_add-self
overflow_add-self g c =
    let a = c.self.inside in
    omega (arith, tracked_place g.U.Unit.meaning a.setup (g.R.Record.base a.setup a.kept) a.state (g.R.Record.events a.kept) a.place a.last c.self.invariant.tracked)

pub note-requires : goal.note-requires
note-requires g c =
    let m = g.U.Unit.meaning in
    let a = c.self.inside in
    let b = g.R.Record.base a.setup a.kept in
    let es = g.R.Record.events a.kept in
    let r = c.finalize.new.self in
    let begin : MayBegin m a.state.state = subst (MayBegin m) (sym (ap (λ view. view.object.state) c.self.view_is)) c.requires.begin in
    let is = rw c.begin.ensures at c.finalize.ensures in
    let one : ◌≡◌ {A = ℕ} (cond a.state.state.finalized 0 1) 1 = ap {B = ℕ} (λ b. cond b 0 1) begin.alive in
    let none : owed m r.state ≡ 0 = ap (λ s. owed m s.state) is in
    record {
      from = a.state;
      room = owed m a.state.state - 1;
      has = room_as (g.R.Record.IsOf a.setup a.kept (known_of a.state)) (owed m a.state.state) (owed m a.state.state - 1 + 1) 0 (omega (arith, one)) c.self.invariant.has;
      follows = own_follows m a.setup b a.state r es a.place a.last Finalize c.self.invariant.tracked begin tt [] is refl (λ ran. absurd (cc));
      fits = omega (arith, none);
    }

pub invariant_of-self : goal.invariant_of-self
invariant_of-self g c =
    let m = g.U.Unit.meaning in
    let a = c.self.inside in
    let b = g.R.Record.base a.setup a.kept in
    let es = g.R.Record.events a.kept in
    let r = c.finalize.new.self in
    let begin : MayBegin m a.state.state = subst (MayBegin m) (sym (ap (λ view. view.object.state) c.self.view_is)) c.requires.begin in
    let is = rw c.begin.ensures at c.finalize.ensures in
    let one : ◌≡◌ {A = ℕ} (cond a.state.state.finalized 0 1) 1 = ap {B = ℕ} (λ b. cond b 0 1) begin.alive in
    let none : owed m r.state ≡ 0 = ap (λ s. owed m s.state) is in
    let at = subst (λ s. AreAt (noted (arrived_by m a.setup b a.state.state es) 0 None) s.state.waiting s.places) (sym is) tt in
    record {
      tracked = rw (c.note.ensures.base, c.note.ensures.events) (tracked_own m a.setup b a.state r es a.place a.last Finalize c.self.invariant.tracked (own_follows m a.setup b a.state r es a.place a.last Finalize c.self.invariant.tracked begin tt [] is refl (λ ran. absurd (cc))) at (omega (arith, one, none, c.self.invariant.tracked.fits)));
      has = c.note.ensures.has;
    }
