-- The end that the table returns is the one that is seen, and only the tickets and the room change.
use Rattle.std.proofs.Common.{◌∙◌, ◌<◌, arith, ap, sym, refl, None}
use Rattle.slab.specs.Slab.{slab_len}
use Rattle.po_calls.specs.Calls.{kept}
use Rattle.po_engine.specs.Tickets.{end_at}
use Rattle.po_engine.specs.Calls.{key_of}
use Rattle.po_engine.proofs.CallPlaces.{place_is, end_is, leaves}
use Rattle.po_engine.proofs.KeptSteps.{ticket_set}
use Rattle.po_engine.proofs.CallSteps.{IsLeft, all_reserved, collected}
use Rattle.po_engine.proofs.Uncollected.{uncollected_kept}
use Rattle.po_engine.proofs.calls.Calls.collect.Goals as goal

pub returns-in_err-end-clause-end : goal.returns-in_err-end-clause-end
returns-in_err-end-clause-end g c =
    let s = c.self.inside in
    let i = c.self.invariant in
    let free = rw (← c.self.view_is) at c.requires in
    let is = place_is s.table (key_of s.first s.keys.items) s.queues s.serving s.ended.items c.args.ticket i.queued free i.kept in
    rw (c.from_residual.ensures, ← c.self.view_is) (c.in_err-end.ensures.exact ∙ end_is (kept s.table c.args.ticket) ∙ ap end_at is)

pub invariant_of-self-2 : goal.invariant_of-self-2
invariant_of-self-2 g c =
    let s = c.self.inside in let e = c.in_ok-end.ensures in
    let r = c.room_left-self-inside.ensures in
    let given : IsLeft s.capacity (slab_len c.collect.new.self.calls) c.collect.new.self.calls.capacity s.queues.reserved c.room_left-self-inside.result = record {
      all = r.all;
      none = r.none;
    } in
    (collected s.table c.collect.new.self s.queues s.keys.items s.ended.items s.before.items s.ended_now s.first s.next s.serving s.capacity c.room_left-self-inside.result s.is_fixed c.args.ticket c.in_ok-end.end e.exact e.updates e.len e.capacity e.last given c.self.invariant).keeps

pub returns-clause-end : goal.returns-clause-end
returns-clause-end g c =
    let s = c.self.inside in
    let i = c.self.invariant in
    let free = rw (← c.self.view_is) at c.requires in
    let is = place_is s.table (key_of s.first s.keys.items) s.queues s.serving s.ended.items c.args.ticket i.queued free i.kept in
    rw (← c.self.view_is) (c.in_ok-end.ensures.exact ∙ end_is (kept s.table c.args.ticket) ∙ ap end_at is)

pub returns-clause-taken : goal.returns-clause-taken
returns-clause-taken g c =
    rw (← c.self.view_is) (ticket_set c.self.inside.table c.collect.new.self c.args.ticket.key None c.in_ok-end.ensures.updates)

pub returns-clause-rest : goal.returns-clause-rest
returns-clause-rest g c =
    let s = c.self.inside in let i = c.self.invariant in
    let e = c.in_ok-end.ensures in
    let l = leaves s.table c.collect.new.self.calls (key_of s.first s.keys.items) s.queues s.serving s.ended.items c.args.ticket c.in_ok-end.end (sym e.exact) e.updates i.queued i.kept in
    rw (← c.self.view_is) (rw (l.waiting, l.in_service) refl)

pub returns-clause-kept_room : goal.returns-clause-kept_room
returns-clause-kept_room g c = λ room.
    let s = c.self.inside in let i = c.self.invariant in
    let has_room = rw (← c.self.view_is) at room in
    let few : slab_len s.table.calls < s.capacity = omega (arith, uncollected_kept s.table.calls.slots, has_room) in
    let all = all_reserved s.is_fixed s.table.calls s.queues.reserved s.capacity few i.reserved in
    rw (← c.self.view_is) (c.room_left-self-inside.ensures.all (omega (arith, all, c.in_ok-end.ensures.capacity)))
