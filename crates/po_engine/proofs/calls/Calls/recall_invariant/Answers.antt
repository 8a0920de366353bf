-- What holds of all waiting calls follows from what is queued.
use Rattle.std.proofs.Common.{◌∙◌, sym, ap, arith, subst}
use Rattle.std.proofs.lemmas.List.{length-map}
use Rattle.po_queues.specs.Arrived.{arrived_keys}
use Rattle.po_engine.specs.Calls.{call_at, key_of, calls_in_service, AreCallsSound}
use Rattle.po_engine.proofs.CallReads.{once_each, all_below, length_same}
use Rattle.po_engine.proofs.ServiceSteps.{none_serving}
use Rattle.po_engine.proofs.KeptSteps.{key_below, ticket_led}
use Rattle.po_engine.proofs.TicketSteps.{waiting_ticket}
use Rattle.po_engine.proofs.Uncollected.{held_within, queued_held, uncollected_kept}
use Rattle.po_engine.proofs.calls.Calls.recall_invariant.Goals as goal

pub returns-clause-sound : goal.returns-clause-sound
returns-clause-sound g c =
    let s = c.self.inside in
    let i = c.self.invariant in
    let f = call_at s.table.calls in
    let ix = key_of s.first s.keys.items in
    let all = i.queued.queued in
    let len = length_same f ix s.queues.items all in
    subst AreCallsSound c.self.view_is (record {
      once = λ n. once_each f ix n s.queues.items c.recall_invariant.ensures.distinct all;
      below_next = all_below f ix s.next s.queues.items (λ m k h. omega (arith, key_below s.first s.keys.items m k h, i.numbers)) all;
      placed = length-map s.queues.items (λ j. j.stamp) ∙ sym len;
      few = omega (arith, len, i.for_ended, s.ended_now.ok.1);
    })

pub returns-clause-waiting : goal.returns-clause-waiting
returns-clause-waiting g c =
    let s = c.self.inside in
    let i = c.self.invariant in
    let f = call_at s.table.calls in
    let ix = key_of s.first s.keys.items in
    let all = i.queued.queued in
    let len = length_same f ix s.queues.items all in
    let held = held_within s.table.calls.slots (arrived_keys s.queues.items) c.recall_invariant.ensures.distinct (queued_held s.table.calls ix s.queues.items all) in
    let keys = length-map s.queues.items (λ j. j.key) in
    rw (← c.self.view_is) (omega (arith, len, held, keys, uncollected_kept s.table.calls.slots))

pub returns-clause-capacity : goal.returns-clause-capacity
returns-clause-capacity g c =
    let s = c.self.inside in
    rw (← c.self.view_is) (omega (arith, c.self.invariant.few, uncollected_kept s.table.calls.slots))

pub returns-clause-each : goal.returns-clause-each
returns-clause-each g c =
    let s = c.self.inside in
    let i = c.self.invariant in
    let f = call_at s.table.calls in
    let ix = key_of s.first s.keys.items in
    let len = length_same f ix s.queues.items i.queued.queued in
    rw (← c.self.view_is) (λ free. omega (arith, len, i.each, ap calls_in_service (none_serving f ix s.queues s.serving i.queued free)))

pub returns-clause-tickets : goal.returns-clause-tickets
returns-clause-tickets g c =
    let s = c.self.inside in
    rw (← c.self.view_is) (waiting_ticket s.table s.first s.keys.items s.queues.items c.self.invariant.queued.queued)

pub returns-clause-leads : goal.returns-clause-leads
returns-clause-leads g c =
    let s = c.self.inside in
    rw (← c.self.view_is) (λ k n is. ticket_led s.table (key_of s.first s.keys.items) k n c.self.invariant.kept.indexed is)
