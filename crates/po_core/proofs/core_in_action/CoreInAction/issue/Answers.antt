use Rattle.std.proofs.Common.{◌≡◌, true, ◌<◌, ◌+◌, arith, sym, ◌∙◌, ap, subst, refl}
use Rattle.po_unit.specs.Numbering.{is_public}
use Rattle.po_engine.specs.Step.{MayBegin}
use Rattle.po_engine.specs.Pick.{owed}
use Rattle.po_core.proofs.PlacesKept.{arrived_by}
use Rattle.po_core.specs.Noting.{known_of}
use Rattle.po_core.proofs.Trackings.{room_as, issue_follows, more_room, tracked_same, tracked_issue, tracked_later, tracked_place}
use Rattle.po_core.proofs.core_in_action.CoreInAction.issue.Goals as goal

pub invariant_of-self : goal.invariant_of-self
invariant_of-self g c =
    let m = g.U.Unit.meaning in
    let a = c.self.inside in
    let b = g.R.Record.base a.setup a.kept in
    let es = g.R.Record.events a.kept in
    let q = c.reserve_call.new.state in
    let same = c.reserve_call.ensures.same in
    record {
      tracked = rw (c.reserve_call.ensures.base, c.reserve_call.ensures.events) (tracked_same m a.setup b a.state q es a.place a.last (ap (λ s. s.state) same) (ap (λ s. s.places) same) (ap (λ s. s.serving) same) (omega (arith, ap (λ s. s.before) same, c.self.invariant.tracked.shown)) c.self.invariant.tracked);
      has = subst (λ s. g.R.Record.IsOf a.setup c.reserve_call.new.self (known_of q) (owed m s) 0) (sym (ap (λ s. s.state) same)) c.in_err-reserve_call.ensures.err;
    }

pub issue-ticket-requires-clause-later : goal.issue-ticket-requires-clause-later
issue-ticket-requires-clause-later g c =
    let a = c.self.inside in
    let b = g.R.Record.base a.setup a.kept in
    rw (c.queueing-queueing.ensures, c.begin.ensures, c.reserve_call.ensures.same) (tracked_later g.U.Unit.meaning a.setup g.met.U.Unit.lawful b a.state (g.R.Record.events a.kept) a.place a.last c.self.invariant.tracked)

pub overflow_add-self : goal.overflow_add-self
overflow_add-self g c =
    let a = c.self.inside in
    omega (arith, tracked_place g.U.Unit.meaning a.setup (g.R.Record.base a.setup a.kept) a.state (g.R.Record.events a.kept) a.place a.last c.self.invariant.tracked)

pub note-requires : goal.note-requires
note-requires g c =
    let law = g.met.U.Unit.lawful in
    let m = g.U.Unit.meaning in
    let a = c.self.inside in
    let b = g.R.Record.base a.setup a.kept in
    let es = g.R.Record.events a.kept in
    let q = c.reserve_call.new.state in
    let r = c.issue-ticket.new.self in
    let same = c.reserve_call.ensures.same in
    let kept = tracked_same m a.setup b a.state q es a.place a.last (ap (λ s. s.state) same) (ap (λ s. s.places) same) (ap (λ s. s.serving) same) (omega (arith, ap (λ s. s.before) same, c.self.invariant.tracked.shown)) c.self.invariant.tracked in
    let told = sym (ap (λ view. view.object.state) c.self.view_is) ∙ sym (ap (λ s. s.state) same) in
    let begin : MayBegin m q.state = subst (MayBegin m) told c.requires.begin in
    let entry : c.args.e < m.entries q.state.unit = subst (λ s. c.args.e < m.entries s.unit) told c.requires.entry in
    let number : q.state.next < 18_446_744_073_709_551_615 = subst (λ s. s.next < 18_446_744_073_709_551_615) told c.requires.number in
    let public = subst (λ made. is_public made.shape c.args.e ≡ true) (sym (ap (λ view. view.object.setup) c.self.view_is)) c.requires.public in
    let is = rw (c.queueing-queueing.ensures, c.begin.ensures) at c.issue-ticket.ensures.state in
    rw (c.next_number.ensures, c.begin.ensures, c.reserve_call.ensures.base, c.reserve_call.ensures.events) (record {
      from = q;
      room = owed m a.state.state + c.rank_of-rank.result + 2;
      has = room_as (g.R.Record.IsOf a.setup c.reserve_call.new.self (known_of q)) (owed m a.state.state + c.rank_of-rank.result + 3) (owed m a.state.state + c.rank_of-rank.result + 2 + 1) 1 (omega arith) c.in_ok-reserve_call.ensures.ok;
      follows = issue_follows m a.setup law b q r es a.place a.last c.args.owner c.args.e c.args.v c.args.deadline c.issue-ticket.result kept (begin, entry, refl, number) public is;
      fits = omega (arith, more_room m a.setup law q.state r.state c.args.owner c.args.e c.args.v c.args.deadline c.rank_of-rank.result (ap (λ s. s.state) is) c.rank_of-rank.ensures.rank, ap (λ s. owed m s.state) same);
    })

pub invariant_of-self-2 : goal.invariant_of-self-2
invariant_of-self-2 g c =
    let law = g.met.U.Unit.lawful in
    let m = g.U.Unit.meaning in
    let a = c.self.inside in
    let b = g.R.Record.base a.setup a.kept in
    let es = g.R.Record.events a.kept in
    let q = c.reserve_call.new.state in
    let r = c.issue-ticket.new.self in
    let same = c.reserve_call.ensures.same in
    let kept = tracked_same m a.setup b a.state q es a.place a.last (ap (λ s. s.state) same) (ap (λ s. s.places) same) (ap (λ s. s.serving) same) (omega (arith, ap (λ s. s.before) same, c.self.invariant.tracked.shown)) c.self.invariant.tracked in
    let told = sym (ap (λ view. view.object.state) c.self.view_is) ∙ sym (ap (λ s. s.state) same) in
    let begin : MayBegin m q.state = subst (MayBegin m) told c.requires.begin in
    let entry : c.args.e < m.entries q.state.unit = subst (λ s. c.args.e < m.entries s.unit) told c.requires.entry in
    let number : q.state.next < 18_446_744_073_709_551_615 = subst (λ s. s.next < 18_446_744_073_709_551_615) told c.requires.number in
    let public = subst (λ made. is_public made.shape c.args.e ≡ true) (sym (ap (λ view. view.object.setup) c.self.view_is)) c.requires.public in
    let is = rw (c.queueing-queueing.ensures, c.begin.ensures) at c.issue-ticket.ensures.state in
    let at = (rw (c.queueing-queueing.ensures, c.begin.ensures) at (c.issue-ticket.ensures.places (arrived_by m a.setup b q.state es))) kept.placed in
    record {
      tracked = rw (c.note.ensures.base, c.note.ensures.events, c.reserve_call.ensures.base, c.reserve_call.ensures.events, c.next_number.ensures, c.begin.ensures) (tracked_issue m a.setup law b q r es a.place a.last c.args.owner c.args.e c.args.v c.args.deadline c.issue-ticket.result kept (issue_follows m a.setup law b q r es a.place a.last c.args.owner c.args.e c.args.v c.args.deadline c.issue-ticket.result kept (begin, entry, refl, number) public is) at c.rank_of-rank.ensures.low number);
      has = c.note.ensures.has;
    }
