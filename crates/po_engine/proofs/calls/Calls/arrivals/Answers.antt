-- The walk appends each waiting call to the list.
use Rattle.std.proofs.Common.{◌≡◌, ◌∙◌, ◌∷◌, ◌++◌, [], map, ap}
use Rattle.std.proofs.lemmas.List.{map-append}
use Rattle.po_engine.specs.declared.arrival.Arrival.{Arrival}
use Rattle.po_queues.specs.QueuedKeys.{key_after}
use Rattle.po_queues.specs.Arrived.{arrived_keys}
use Rattle.po_engine.specs.Calls.{call_at, key_of, waiting_in}
use Rattle.po_engine.proofs.CallWalks.{left_from, meets, calls_at, places_at, begins_at, no_gap, no_stamp, fewer_left}
use Rattle.po_engine.proofs.calls.Calls.arrivals.Goals as goal
use Rattle.po_engine.proofs.calls.Calls.arrivals.Goals.{in-Some-at+in-Some-stamp+in_ok-push, in-Some-at+in_default-stamp, in_default-at}

pub loop-next-smaller : goal.loop-next-smaller
loop-next-smaller g c =
    let s = c.self.inside in
    let m = meets (call_at s.table.calls) (key_of s.first s.keys.items) c.in-Some.key s.queues.items c.recall_invariant.ensures.distinct c.self.invariant.queued.queued (rw (c.in-Some.is) at c.loop-next.invariant.begins) in
    rw (c.in-Some.is, c.next-next.ensures) (fewer_left c.in-Some.key s.queues.items m.stand)

pub loop-next-preserved : goal.loop-next-preserved
loop-next-preserved g c =
    let s = c.self.inside in
    let f = call_at s.table.calls in
    let ix = key_of s.first s.keys.items in
    let k = c.in-Some.key in
    let m = meets f ix k s.queues.items c.recall_invariant.ensures.distinct c.self.invariant.queued.queued (rw (c.in-Some.is) at c.loop-next.invariant.begins) in
    let before = c.loop-next.list.items in
    elim c.match-at.branch [
      | in-Some-at+in-Some-stamp+in_ok-push w ↦
          let x = w.in-Some-at.call.now in
          let place = w.in-Some-stamp.place in
          let a : Arrival g.row.V.Denot = record { call = x; place = place } in
          let put : c.match-at.list.items ≡ before ++ a ∷ [] = ap (λ v. v.items) w.list-is ∙ w.in_ok-push.ensures.items in
          let left = left_from (key_after k (arrived_keys s.queues.items)) s.queues.items in
          let was = rw (c.in-Some.is) at c.loop-next.invariant in
          rw c.next-next.ensures (record {
            begins = begins_at f ix k s.queues.items m;
            calls = ap (λ l. map (λ b. b.call) l ++ waiting_in f left) put ∙ ap (λ l. l ++ waiting_in f left) (map-append (λ (b : Arrival g.row.V.Denot). b.call) before (a ∷ [])) ∙ calls_at f ix k s.queues.items x (map (λ b. b.call) before) m w.in-Some-at.ensures ∙ was.calls;
            places = ap (λ l. map (λ b. b.place) l ++ map (λ i. i.stamp) left) put ∙ ap (λ l. l ++ map (λ i. i.stamp) left) (map-append (λ (b : Arrival g.row.V.Denot). b.place) before (a ∷ [])) ∙ places_at f ix k s.queues.items place (map (λ b. b.place) before) m w.in-Some-stamp.ensures ∙ was.places;
          })
      | in-Some-at+in_default-stamp w ↦ absurd (no_stamp f ix k s.queues.items m w.in_default-stamp.ensures)
      | in_default-at w ↦ absurd (no_gap f ix k s.queues.items m w.in_default-at.ensures)
    ]
