use Rattle.std.proofs.Common.{◌≡◌, ◌≤◌, ◌+◌, ◌-◌, ◌&&◌, false, arith, sym, ap, subst}
use Rattle.std.specs.List.{find}
use Rattle.po_unit.specs.Numbering.{entry_count}
use Rattle.po_history.specs.declared.event.Event.TheVariants.{Cancel}
use Rattle.po_engine.specs.Finding.{IsFound}
use Rattle.po_engine.specs.WaitingCalls.{has_number}
use Rattle.po_engine.specs.Step.{MayBegin}
use Rattle.po_engine.specs.Pick.{owed}
use Rattle.po_core.proofs.PlacesKept.{arrived_by}
use Rattle.po_core.proofs.Wells.{next_attempt}
use Rattle.po_core.proofs.Falls.{owed_attempt}
use Rattle.po_core.specs.Noting.{known_of}
use Rattle.po_core.proofs.Trackings.{room_as, own_follows, tracked_own, tracked_place}
use Rattle.po_core.proofs.core_in_action.CoreInAction.attempt_cancel.Goals as goal

pub overflow_add-self : goal.overflow_add-self
overflow_add-self g c =
    let a = c.self.inside in
    omega (arith, tracked_place g.U.Unit.meaning a.setup (g.R.Record.base a.setup a.kept) a.state (g.R.Record.events a.kept) a.place a.last c.self.invariant.tracked)

pub note-requires : goal.note-requires
note-requires g c =
    let law = g.met.U.Unit.lawful in
    let m = g.U.Unit.meaning in
    let a = c.self.inside in
    let b = g.R.Record.base a.setup a.kept in
    let es = g.R.Record.events a.kept in
    let r = c.attempt_cancel.new.self in
    let n = c.args.ticket.number in
    let told = sym (ap (λ view. view.object.state) c.self.view_is) in
    let begin : MayBegin m a.state.state = subst (MayBegin m) told c.requires.begin in
    let found : IsFound (λ x. (x.without_abort && x.aborted) ≡ false) (find (has_number n) a.state.state.waiting) = subst (λ s. IsFound (λ x. (x.without_abort && x.aborted) ≡ false) (find (has_number n) s.waiting)) told c.requires.found in
    let is = rw c.begin.ensures at c.attempt_cancel.ensures.state in
    let next = next_attempt m law a.setup.max_queue (entry_count a.setup.shape) a.state.state n in
    let less : owed m r.state + 1 ≤ owed m a.state.state = rw (ap (λ s. s.state) is) (owed_attempt m law a.setup.max_queue a.state.state n found) in
    record {
      from = a.state;
      room = owed m a.state.state - 1;
      has = room_as (g.R.Record.IsOf a.setup a.kept (known_of a.state)) (owed m a.state.state) (owed m a.state.state - 1 + 1) 0 (omega (arith, less)) c.self.invariant.has;
      follows = own_follows m a.setup b a.state r es a.place a.last (Cancel n) c.self.invariant.tracked (begin, found) tt r.places is next (λ ran. absurd (cc));
      fits = omega (arith, less);
    }

pub invariant_of-self : goal.invariant_of-self
invariant_of-self g c =
    let law = g.met.U.Unit.lawful in
    let m = g.U.Unit.meaning in
    let a = c.self.inside in
    let b = g.R.Record.base a.setup a.kept in
    let es = g.R.Record.events a.kept in
    let r = c.attempt_cancel.new.self in
    let n = c.args.ticket.number in
    let told = sym (ap (λ view. view.object.state) c.self.view_is) in
    let begin : MayBegin m a.state.state = subst (MayBegin m) told c.requires.begin in
    let found : IsFound (λ x. (x.without_abort && x.aborted) ≡ false) (find (has_number n) a.state.state.waiting) = subst (λ s. IsFound (λ x. (x.without_abort && x.aborted) ≡ false) (find (has_number n) s.waiting)) told c.requires.found in
    let is = rw c.begin.ensures at c.attempt_cancel.ensures.state in
    let next = next_attempt m law a.setup.max_queue (entry_count a.setup.shape) a.state.state n in
    let less : owed m r.state + 1 ≤ owed m a.state.state = rw (ap (λ s. s.state) is) (owed_attempt m law a.setup.max_queue a.state.state n found) in
    let at = (rw c.begin.ensures at (c.attempt_cancel.ensures.places (arrived_by m a.setup b a.state.state es))) c.self.invariant.tracked.placed in
    record {
      tracked = rw (c.note.ensures.base, c.note.ensures.events) (tracked_own m a.setup b a.state r es a.place a.last (Cancel n) c.self.invariant.tracked (own_follows m a.setup b a.state r es a.place a.last (Cancel n) c.self.invariant.tracked (begin, found) tt r.places is next (λ ran. absurd (cc))) at (omega (arith, less, c.self.invariant.tracked.fits)));
      has = c.note.ensures.has;
    }
