use Rattle.std.proofs.Common.{sym, ap, inl, inr}
use Rattle.std.specs.Option.{option_map}
use Rattle.std.proofs.lemmas.Bool.{cases_Bool}
use Rattle.po_object.proofs.LatestKept.{never-waits, only-waits, only-ended}
use Rattle.po_object.proofs.latest.LatestCalls.waiting_ticket_of.Goals as goal

pub returns-in-Never-clause-number : goal.returns-in-Never-clause-number
returns-in-Never-clause-number g c = ap (option_map (λ x. x.number)) (sym (never-waits _ _ c.args.seat c.requires c.in-Never.ensures))

pub returns-in-Only-clause-number : goal.returns-in-Only-clause-number
returns-in-Only-clause-number g c =
    let t = c.in-Only.ticket in
    elim (cases_Bool c.waits.result) [
      | inl here ↦ rw (c.then_some.ensures, here) (only-waits _ _ c.args.seat c.requires t c.in-Only.ensures (c.waits.ensures.waits here)).1
      | inr gone ↦ rw (c.then_some.ensures, gone) (ap (option_map (λ x. x.number)) (sym (only-ended _ _ c.args.seat c.requires t c.in-Only.ensures _ c.waits.ensures.placed (c.waits.ensures.not gone))))
    ]

pub returns-in-Only-clause-live : goal.returns-in-Only-clause-live
returns-in-Only-clause-live g c =
    let t = c.in-Only.ticket in
    elim (cases_Bool c.waits.result) [
      | inl here ↦ rw (c.then_some.ensures, here) (only-waits _ _ c.args.seat c.requires t c.in-Only.ensures (c.waits.ensures.waits here)).0
      | inr gone ↦ rw (c.then_some.ensures, gone) tt
    ]
