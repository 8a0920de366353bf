-- The first key of the entry is taken out of all three.
use Rattle.std.proofs.Common.{◌∙◌, sym}
use Rattle.po_queues.proofs.EntryLemmas.{seen_first, first_arrived, without_keeps, without_view}
use Rattle.po_queues.proofs.entry_queues.EntryQueues.take_first.Goals as goal

pub returns-in_err-key-clause-first : goal.returns-in_err-key-clause-first
returns-in_err-key-clause-first c =
    c.from_residual.ensures ∙ c.in_err-key.ensures.first ∙ seen_first c.self.invariant c.self.view_is c.args.entry

pub invariant_of-self-2 : goal.invariant_of-self-2
invariant_of-self-2 c =
    rw (c.in_ok-key.ensures.others, c.remove.ensures, c.remove-2.ensures.others)
    (without_keeps c.self.invariant c.in_ok-key.key)

pub returns-clause-first : goal.returns-clause-first
returns-clause-first c = c.in_ok-key.ensures.first ∙ seen_first c.self.invariant c.self.view_is c.args.entry

pub returns-clause-others : goal.returns-clause-others
returns-clause-others c =
    let s = c.self.inside in
    rw (c.in_ok-key.ensures.others, c.remove-2.ensures.others, ← c.self.view_is)
    (without_view s.reserved s.by_entry s.expirations c.in_ok-key.key)

pub remove-requires : goal.remove-requires
remove-requires c = first_arrived c.self.invariant c.args.entry c.in_ok-key.key (sym c.in_ok-key.ensures.first)
