use Rattle.std.proofs.Common.{refl, sym, ◌∙◌}
use Rattle.po_engine.specs.Calls.{call_at, key_of}
use Rattle.po_engine.proofs.ServiceSteps.{none_serving, oldest_taken, not_none}
use Rattle.po_engine.proofs.CallSteps.{taken_in_service}
use Rattle.po_engine.proofs.calls.Calls.take_oldest.Goals as goal

pub invariant_of-self : goal.invariant_of-self
invariant_of-self g c =
    let s = c.self.inside in let i = c.self.invariant in
    let f = call_at s.table.calls in let ix = key_of s.first s.keys.items in
    let r = rw (← c.self.view_is) at c.requires.serving in
    let none = none_serving f ix s.queues s.serving i.queued r in
    let taken = oldest_taken f ix s.queues s.serving c.in_ok-key.key c.recall_invariant.ensures i.queued (sym c.in_ok-key.ensures) in
    rw c.remove.ensures.others (taken_in_service s.table s.queues s.keys.items s.ended.items s.before.items s.ended_now s.first s.next s.serving s.capacity s.is_fixed c.in_ok-key.key c.recall_invariant.ensures taken.has none i)

pub returns-clause-found : goal.returns-clause-found
returns-clause-found g c =
    let s = c.self.inside in let i = c.self.invariant in
    let f = call_at s.table.calls in let ix = key_of s.first s.keys.items in
    let taken = oldest_taken f ix s.queues s.serving c.in_ok-key.key c.recall_invariant.ensures i.queued (sym c.in_ok-key.ensures) in
    rw (← c.self.view_is) (c.in_service.ensures ∙ taken.found)

pub returns-clause-taken : goal.returns-clause-taken
returns-clause-taken g c =
    let s = c.self.inside in let i = c.self.invariant in
    let f = call_at s.table.calls in let ix = key_of s.first s.keys.items in
    let taken = oldest_taken f ix s.queues s.serving c.in_ok-key.key c.recall_invariant.ensures i.queued (sym c.in_ok-key.ensures) in
    rw (c.in_service.ensures, c.remove.ensures.others, ← c.self.view_is) (rw (taken.waiting, taken.places) refl)

pub returns-clause-none_placed : goal.returns-clause-none_placed
returns-clause-none_placed g c =
    let s = c.self.inside in let i = c.self.invariant in
    let f = call_at s.table.calls in let ix = key_of s.first s.keys.items in
    let taken = oldest_taken f ix s.queues s.serving c.in_ok-key.key c.recall_invariant.ensures i.queued (sym c.in_ok-key.ensures) in
    rw c.in_service.ensures (not_none _ (f c.in_ok-key.key) taken.is_call)
