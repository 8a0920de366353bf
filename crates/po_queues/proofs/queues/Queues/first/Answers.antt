-- The first key has a link, and the link has its stamp.
use Rattle.std.proofs.Common.{◌≡◌, ℕ, Option, Some, None, sym, ap, ◌∙◌, arith}
use Rattle.std.proofs.lemmas.List.{get_or_read}
use Rattle.po_queues.proofs.QueueLemmas.{first_link}
use Rattle.po_queues.specs.declared.link.Link.{Link}
use Rattle.po_queues.proofs.queues.Queues.first.Goals as goal

abbrev stamp_in : Option Link → ℕ
stamp_in None = 0
stamp_in (Some l) = l.stamp

pub returns-in_err-link : goal.returns-in_err-link
returns-in_err-link c =
    let entry = rw (← c.self.view_is) at c.requires in
    let read = get_or_read c.self.inside.firsts.items c.from.result _
    (omega (arith, c.from.ensures, c.self.invariant.firsts_len, entry)) c.index.ensures None in
    let found = first_link c.self.invariant c.self.view_is c.args.entry c.from.result c.from.ensures c.requires
    c.in_ok-key.key (sym read ∙ c.in_ok-key.was) in
    let bad : ◌≡◌ {A = Option Link} None (Some _) = c.in_err-link.ensures ∙ found.2 in
    absurd (cc)

pub returns : goal.returns
returns c =
    let entry = rw (← c.self.view_is) at c.requires in
    let read = get_or_read c.self.inside.firsts.items c.from.result _
    (omega (arith, c.from.ensures, c.self.invariant.firsts_len, entry)) c.index.ensures None in
    let found = first_link c.self.invariant c.self.view_is c.args.entry c.from.result c.from.ensures c.requires
    c.in_ok-key.key (sym read ∙ c.in_ok-key.was) in
    sym (found.1 ∙ ap (λ n. Some (c.in_ok-key.key, n)) (ap stamp_in (sym (c.in_ok-link.ensures ∙ found.2))))
