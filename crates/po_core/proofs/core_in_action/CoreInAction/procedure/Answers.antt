use Rattle.std.proofs.Common.{◌≡◌, ◌<◌, ◌+◌, arith, sym, ap, subst, refl, length}
use Rattle.po_history.specs.declared.event.Event.TheVariants.{Procedure}
use Rattle.po_engine.specs.Step.{MayBegin}
use Rattle.po_engine.specs.Arrival.{AreAt}
use Rattle.po_engine.specs.Pick.{owed}
use Rattle.po_core.specs.View.{next_place}
use Rattle.po_core.proofs.PlacesKept.{arrived_by}
use Rattle.po_core.proofs.Trackings.{own_follows, tracked_own, tracked_place}
use Rattle.po_core.proofs.core_in_action.CoreInAction.procedure.Goals as goal

pub overflow_add-self : goal.overflow_add-self
overflow_add-self g c =
    let a = c.self.inside in
    omega (arith, tracked_place g.U.Unit.meaning a.setup (g.R.Record.base a.setup a.kept) a.state (g.R.Record.events a.kept) a.place a.last c.self.invariant.tracked)

pub note-requires : goal.note-requires
note-requires g c =
    let m = g.U.Unit.meaning in
    let a = c.self.inside in
    let b = g.R.Record.base a.setup a.kept in
    let es = g.R.Record.events a.kept in
    let r = c.procedure-reply.new.self in
    let told = sym (ap (λ view. view.object.state) c.self.view_is) in
    let begin : MayBegin m a.state.state = subst (MayBegin m) told c.requires.begin in
    let op = subst (λ s. c.args.op < m.procedures s.unit) told c.requires.op in
    let place : b.place + length es < 18_446_744_073_709_551_615 = subst (λ v. next_place v < 18_446_744_073_709_551_615) (sym (ap (λ view. view.object) c.self.view_is)) c.requires.place in
    let is = rw c.begin.ensures at c.procedure-reply.ensures.state in
    let reply = rw c.begin.ensures at c.procedure-reply.ensures.reply in
    let same : owed m r.state ≡ owed m a.state.state = ap (λ s. owed m s.state) is in
    rw (c.reserve_event.ensures.base, c.reserve_event.ensures.events) (record {
      from = a.state;
      room = owed m a.state.state;
      has = c.in_ok-reserve_event.ensures.ok;
      follows = own_follows m a.setup b a.state r es a.place a.last (Procedure c.args.owner c.args.op c.args.v c.procedure-reply.result) c.self.invariant.tracked (begin, op, reply) tt a.state.places is refl (λ ran. omega (arith, c.self.invariant.tracked.place, place));
      fits = omega (arith, same);
    })

pub invariant_of-self-2 : goal.invariant_of-self-2
invariant_of-self-2 g c =
    let m = g.U.Unit.meaning in
    let a = c.self.inside in
    let b = g.R.Record.base a.setup a.kept in
    let es = g.R.Record.events a.kept in
    let r = c.procedure-reply.new.self in
    let told = sym (ap (λ view. view.object.state) c.self.view_is) in
    let begin : MayBegin m a.state.state = subst (MayBegin m) told c.requires.begin in
    let op = subst (λ s. c.args.op < m.procedures s.unit) told c.requires.op in
    let place : b.place + length es < 18_446_744_073_709_551_615 = subst (λ v. next_place v < 18_446_744_073_709_551_615) (sym (ap (λ view. view.object) c.self.view_is)) c.requires.place in
    let is = rw c.begin.ensures at c.procedure-reply.ensures.state in
    let reply = rw c.begin.ensures at c.procedure-reply.ensures.reply in
    let same : owed m r.state ≡ owed m a.state.state = ap (λ s. owed m s.state) is in
    let at = subst (λ s. AreAt (arrived_by m a.setup b a.state.state es) s.state.waiting s.places) (sym is) c.self.invariant.tracked.placed in
    record {
      tracked = rw (c.note.ensures.base, c.note.ensures.events, c.reserve_event.ensures.base, c.reserve_event.ensures.events) (tracked_own m a.setup b a.state r es a.place a.last (Procedure c.args.owner c.args.op c.args.v c.procedure-reply.result) c.self.invariant.tracked (own_follows m a.setup b a.state r es a.place a.last (Procedure c.args.owner c.args.op c.args.v c.procedure-reply.result) c.self.invariant.tracked (begin, op, reply) tt a.state.places is refl (λ ran. omega (arith, c.self.invariant.tracked.place, place))) at (omega (arith, same, c.recall_invariant.ensures.few, c.in_ok-reserve_event.ensures.low)));
      has = c.note.ensures.has;
    }
