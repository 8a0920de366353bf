use Rattle.std.proofs.Common.{◌≡◌, ◌<◌, ◌+◌, ◌∷◌, ◌++◌, [], sym, arith, subst, length-append, append-nil}
use Rattle.std.specs.List.{All}
use Rattle.std.proofs.lemmas.List.Elements.{All-push, All-weaker}
use Rattle.po_engine.specs.declared.ended.Ended.{Ended}
use Rattle.po_engine.specs.Ending.{ended_as}
use Rattle.po_engine.specs.Calls.{IsQueued, IsKeptWell, call_at, key_of}
use Rattle.po_engine.proofs.ServiceSteps.{widened}
use Rattle.po_engine.proofs.KeptSteps.{kept_beside, key_below, key_more}
use Rattle.po_engine.proofs.CallSteps.{above_next}
use Rattle.po_engine.proofs.calls.Calls.end_at_once.Goals as goal

pub invariant_of-self : goal.invariant_of-self
invariant_of-self g c =
    let s = c.self.inside in let i = c.self.invariant in
    let f = call_at s.table.calls in let ix = key_of s.first s.keys.items in
    let number = subst (λ v. c.args.call.number ≡ v.next) (sym c.self.view_is) c.requires.number in
    let over = ended_as c.args.end c.args.call in
    let later = key_of s.first (s.keys.items ++ 0 ∷ []) in
    let keys = sym c.then-self-inside.ensures in
    let ended = sym c.then-self-inside-2.ensures in
    let copied = c.copy-self-inside.ensures in
    let below = All-weaker (λ (x : Ended g.row.V.Denot). x.number < s.next) (λ (x : Ended g.row.V.Denot). x.number < s.next + 1) (λ x lt. omega (arith, lt)) s.ended.items i.ended_before in
    record {
      queued = subst (λ l. IsQueued f (key_of s.first l) s.queues s.serving) keys (widened f ix later s.queues s.queues.reserved s.serving (omega arith) (key_more s.first 0 s.keys.items) i.queued);
      kept = subst (λ l. IsKeptWell s.table.calls (key_of s.first l) c.then-self-inside-2.result.items) keys
          (subst (λ e. IsKeptWell s.table.calls later e) ended (kept_beside s.table.calls ix later s.ended.items over (key_more s.first 0 s.keys.items) (λ n j led. omega (arith, key_below s.first s.keys.items n j led, i.numbers, number)) i.kept));
      last = above_next s.table.last s.next i.last;
      numbers = rw c.then-self-inside.ensures (omega (arith, i.numbers, length-append s.keys.items (0 ∷ [])));
      ended_before = subst (All (λ x. x.number < s.next + 1)) ended (All-push (λ x. x.number < s.next + 1) s.ended.items over below (omega (arith, number)));
      each = rw (c.then-self-inside.ensures, c.then-self-inside-2.ensures) (omega (arith, i.each, length-append s.keys.items (0 ∷ []), length-append s.ended.items (over ∷ [])));
      shown = rw (c.copy-self-inside.ensures, c.clear.ensures.items) (sym (append-nil _));
      few = i.few;
      room = i.room;
      reserved = i.reserved;
      for_ended = omega (arith, i.for_ended, c.clear.ensures.len, c.clear.ensures.capacity);
      for_all = omega (arith, i.for_all, c.clear.ensures.capacity);
    }
