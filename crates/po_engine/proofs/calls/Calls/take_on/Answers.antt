use Rattle.std.proofs.Common.{refl, sym, ◌∙◌}
use Rattle.po_engine.specs.Calls.{call_at, key_of}
use Rattle.po_engine.proofs.ServiceSteps.{none_serving, none_on, first_taken}
use Rattle.po_engine.proofs.CallSteps.{taken_in_service}
use Rattle.po_engine.proofs.calls.Calls.take_on.Goals as goal

pub returns-in_err-key-clause-found : goal.returns-in_err-key-clause-found
returns-in_err-key-clause-found g c =
    let s = c.self.inside in let i = c.self.invariant in
    let f = call_at s.table.calls in let ix = key_of s.first s.keys.items in
    let none = none_on f ix s.queues s.serving c.args.entry i.queued (sym c.in_err-key.ensures.first) in
    rw (c.from_residual.ensures, ← c.self.view_is) (sym none.found)

pub returns-in_err-key-clause-taken : goal.returns-in_err-key-clause-taken
returns-in_err-key-clause-taken g c =
    let s = c.self.inside in let i = c.self.invariant in
    let f = call_at s.table.calls in let ix = key_of s.first s.keys.items in
    let r = rw (← c.self.view_is) at c.requires.serving in
    let none = none_on f ix s.queues s.serving c.args.entry i.queued (sym c.in_err-key.ensures.first) in
    rw (c.from_residual.ensures, c.in_err-key.ensures.none, ← c.self.view_is) (rw (r, none.waiting, none.places) refl)

pub invariant_of-self : goal.invariant_of-self
invariant_of-self g c = rw c.in_err-key.ensures.none c.self.invariant

pub invariant_of-self-2 : goal.invariant_of-self-2
invariant_of-self-2 g c =
    let s = c.self.inside in let i = c.self.invariant in
    let f = call_at s.table.calls in let ix = key_of s.first s.keys.items in
    let r = rw (← c.self.view_is) at c.requires.serving in
    let none = none_serving f ix s.queues s.serving i.queued r in
    let taken = first_taken f ix s.queues s.serving c.args.entry c.in_ok-key.key c.recall_invariant.ensures i.queued (sym c.in_ok-key.ensures.first) in
    rw c.in_ok-key.ensures.others (taken_in_service s.table s.queues s.keys.items s.ended.items s.before.items s.ended_now s.first s.next s.serving s.capacity s.is_fixed c.in_ok-key.key c.recall_invariant.ensures taken.has none i)

pub returns-clause-found : goal.returns-clause-found
returns-clause-found g c =
    let s = c.self.inside in let i = c.self.invariant in
    let f = call_at s.table.calls in let ix = key_of s.first s.keys.items in
    let taken = first_taken f ix s.queues s.serving c.args.entry c.in_ok-key.key c.recall_invariant.ensures i.queued (sym c.in_ok-key.ensures.first) in
    rw (← c.self.view_is) (c.in_service.ensures ∙ taken.found)

pub returns-clause-taken : goal.returns-clause-taken
returns-clause-taken g c =
    let s = c.self.inside in let i = c.self.invariant in
    let f = call_at s.table.calls in let ix = key_of s.first s.keys.items in
    let taken = first_taken f ix s.queues s.serving c.args.entry c.in_ok-key.key c.recall_invariant.ensures i.queued (sym c.in_ok-key.ensures.first) in
    rw (c.in_service.ensures, c.in_ok-key.ensures.others, ← c.self.view_is) (rw (taken.waiting, taken.places) refl)
