-- The key is queued at the end of all three, except among the expirations if its call has no time.
use Rattle.std.proofs.Common.{Some, None, refl, ◌∙◌, ap}
use Rattle.po_queues.specs.QueuedKeys.{QueuedKey, occurs}
use Rattle.po_queues.proofs.EntryLemmas.{seen_free, seen_below, seen_arrived, push_seen}
use Rattle.po_queues.proofs.entry_queues.EntryQueues.append.Goals as goal

pub append-requires-clause-not_queued : goal.append-requires-clause-not_queued
append-requires-clause-not_queued c =
    seen_free c.self.invariant c.self.view_is c.args.key c.requires.not_queued

pub append-requires-clause-rises : goal.append-requires-clause-rises
append-requires-clause-rises c = seen_below c.self.invariant c.self.view_is c.args.stamp c.requires.rises

pub append-requires-2-clause-not_there : goal.append-requires-2-clause-not_there
append-requires-2-clause-not_there c =
    ap (occurs c.args.key) (seen_arrived c.self.invariant c.self.view_is) ∙ c.requires.not_queued

pub append-requires-in-Some-clause-not_there : goal.append-requires-in-Some-clause-not_there
append-requires-in-Some-clause-not_there c = c.self.invariant.expiring c.args.key
    (seen_free c.self.invariant c.self.view_is c.args.key c.requires.not_queued)

pub invariant_of-self : goal.invariant_of-self
invariant_of-self c =
    let x : QueuedKey = record { entry = c.args.entry; key = c.args.key; stamp = c.args.stamp } in
    rw (c.append.ensures, c.append-2.ensures, c.append-in-Some.ensures)
    (push_seen c.self.invariant c.self.view_is x (Some c.in-Some.time) _ c.requires.reserved c.requires.not_queued
    refl).keeps

pub invariant_of-self-in_default : goal.invariant_of-self-in_default
invariant_of-self-in_default c =
    let x : QueuedKey = record { entry = c.args.entry; key = c.args.key; stamp = c.args.stamp } in
    rw (c.append.ensures, c.append-2.ensures)
    (push_seen c.self.invariant c.self.view_is x None _ c.requires.reserved c.requires.not_queued refl).keeps

pub returns-in-Some : goal.returns-in-Some
returns-in-Some c =
    let x : QueuedKey = record { entry = c.args.entry; key = c.args.key; stamp = c.args.stamp } in
    rw (c.append.ensures, c.append-in-Some.ensures, c.in-Some.is, ← c.self.view_is)
    (push_seen c.self.invariant c.self.view_is x (Some c.in-Some.time) _ c.requires.reserved c.requires.not_queued
    refl).view

pub returns-in_default : goal.returns-in_default
returns-in_default c =
    let x : QueuedKey = record { entry = c.args.entry; key = c.args.key; stamp = c.args.stamp } in
    rw (c.append.ensures, c.in_default.is, ← c.self.view_is)
    (push_seen c.self.invariant c.self.view_is x None _ c.requires.reserved c.requires.not_queued refl).view
