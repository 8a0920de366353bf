use Rattle.std.proofs.Common.{◌≡◌, ◌∷◌, [], Some, refl, sym, ap, ◌∙◌, arith, subst, length-append}
use Rattle.std.proofs.lemmas.List.{map-append}
use Rattle.po_queues.specs.Arrived.{Arrived}
use Rattle.po_engine.specs.Calls.{IsQueued, call_at, key_of, of_key, calls_in_service, expires_at}
use Rattle.po_engine.proofs.ServiceSteps.{queued, waiting_push, stamps_before}
use Rattle.po_engine.proofs.calls.Calls.queue.Goals as goal

pub append-requires-clause-rises : goal.append-requires-clause-rises
append-requires-clause-rises g c = stamps_before c.args.place c.self.inside.queues.items (rw (← c.self.view_is) at c.requires.later)

pub invariant_of-self : goal.invariant_of-self
invariant_of-self g c =
    let s = c.self.inside in let i = c.self.invariant in
    let f = call_at s.table.calls in let ix = key_of s.first s.keys.items in
    let call = c.args.call in
    let is = c.in-Some.is in
    let serving = rw (← c.self.view_is) at c.requires.in_service in
    let at : f c.in-Some.key ≡ Some call = ap (of_key f) (sym is) ∙ serving in
    let x : Arrived = record { entry = call.entry; key = c.in-Some.key; stamp = c.args.place; expires = expires_at call } in
    rw (c.append.ensures, c.expires_at.ensures) (record {
      queued = queued f ix s.queues c.in-Some.key c.args.place call at (subst (IsQueued f ix s.queues) is i.queued);
      kept = i.kept;
      last = i.last;
      numbers = i.numbers;
      ended_before = i.ended_before;
      each = omega (arith, i.each, ap calls_in_service is, length-append s.queues.items (x ∷ []));
      shown = i.shown;
      few = i.few;
      room = i.room;
      reserved = i.reserved;
      for_ended = omega (arith, i.for_ended, ap calls_in_service is, length-append s.queues.items (x ∷ []));
      for_all = i.for_all;
    })

pub returns : goal.returns
returns g c =
    let s = c.self.inside in
    let f = call_at s.table.calls in
    let call = c.args.call in
    let serving = rw (← c.self.view_is) at c.requires.in_service in
    let at : f c.in-Some.key ≡ Some call = ap (of_key f) (sym c.in-Some.is) ∙ serving in
    let x : Arrived = record { entry = call.entry; key = c.in-Some.key; stamp = c.args.place; expires = expires_at call } in
    rw (c.append.ensures, c.expires_at.ensures, ← c.self.view_is) (rw (waiting_push f s.queues.items x call at, map-append (λ (j : Arrived). j.stamp) s.queues.items (x ∷ [])) refl)
