-- The walk meets each waiting call.
use Rattle.std.proofs.Common.{◌∙◌, sym, ap}
use Rattle.std.specs.Prelude.{option_map}
use Rattle.std.proofs.lemmas.Bool.{eq-eqb, ne_eqb}
use Rattle.po_engine.specs.WaitingCalls.{is_of}
use Rattle.po_engine.specs.Calls.{call_at, key_of}
use Rattle.po_engine.proofs.TicketSteps.{live_at}
use Rattle.po_engine.proofs.CallWalks.{meets, found_at, passed_at, begins_at, no_gap, fewer_left}
use Rattle.po_engine.proofs.calls.Calls.waiting_ticket_of.Goals as goal
use Rattle.po_engine.proofs.calls.Calls.waiting_ticket_of.Goals.{in-Some-at+else-call-owner, in_default-at}

pub returns-then-call-owner-clause-number : goal.returns-then-call-owner-clause-number
returns-then-call-owner-clause-number g c =
    let s = c.self.inside in
    let f = call_at s.table.calls in
    let ix = key_of s.first s.keys.items in
    let k = c.in-Some.key in
    let m = meets f ix k s.queues.items c.recall_invariant.ensures.distinct c.self.invariant.queued.queued (rw (c.in-Some.is) at c.loop-next.invariant.begins) in
    let x = c.in-Some-at.call.now in
    let found = found_at f ix (is_of c.args.owner) k s.queues.items x m c.in-Some-at.ensures (eq-eqb x.owner c.args.owner c.if-call-owner.true) in
    let rest = rw (c.in-Some.is) at c.loop-next.invariant.rest in
    rw (← c.self.view_is) (ap (option_map (λ y. y.number)) (sym (rest ∙ found)))

pub returns-then-call-owner-clause-live : goal.returns-then-call-owner-clause-live
returns-then-call-owner-clause-live g c =
    rw (← c.self.view_is) (live_at c.self.inside.table c.in-Some.key c.in-Some-at.call.now (sym c.in-Some-at.ensures))

pub loop-next-smaller : goal.loop-next-smaller
loop-next-smaller g c =
    let s = c.self.inside in
    let m = meets (call_at s.table.calls) (key_of s.first s.keys.items) c.in-Some.key s.queues.items c.recall_invariant.ensures.distinct c.self.invariant.queued.queued (rw (c.in-Some.is) at c.loop-next.invariant.begins) in
    rw (c.in-Some.is, c.next-next.ensures) (fewer_left c.in-Some.key s.queues.items m.stand)

pub loop-next-preserved : goal.loop-next-preserved
loop-next-preserved g c =
    let s = c.self.inside in
    let f = call_at s.table.calls in
    let ix = key_of s.first s.keys.items in
    let k = c.in-Some.key in
    let m = meets f ix k s.queues.items c.recall_invariant.ensures.distinct c.self.invariant.queued.queued (rw (c.in-Some.is) at c.loop-next.invariant.begins) in
    let rest = rw (c.in-Some.is) at c.loop-next.invariant.rest in
    rw c.next-next.ensures (record {
      begins = begins_at f ix k s.queues.items m;
      rest = elim c.match-at.branch [
        | in-Some-at+else-call-owner w ↦
            let x = w.in-Some-at.call.now in
            rest ∙ passed_at f ix (is_of c.args.owner) k s.queues.items x m w.in-Some-at.ensures (ne_eqb x.owner c.args.owner w.if-call-owner.false)
        | in_default-at w ↦ absurd (no_gap f ix k s.queues.items m w.in_default-at.ensures)
      ];
    })
