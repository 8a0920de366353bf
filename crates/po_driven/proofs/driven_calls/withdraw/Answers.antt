use Rattle.std.proofs.Common.{◌≡◌, ◌∙◌, length, true, ap, refl, sym, subst, arith}
use Rattle.std.specs.Prelude.{IsSome}
use Rattle.std.specs.List.{find}
use Rattle.po_engine.specs.Ending.{has_ended}
use Rattle.po_engine.specs.Tickets.{is_live, uncollected}
use Rattle.po_engine.specs.WaitingCalls.{has_number}
use Rattle.po_driven.specs.OnePlace.{calls_in_service}
use Rattle.po_driven.proofs.Held.{cancelled_ended, cancelled_len, collected}
use Rattle.po_driven.proofs.Spots.{cancelled}
use Rattle.po_driven.proofs.Tickets.{kept_then, one_cancelled, one_collected}
use Rattle.po_driven.proofs.driven_calls.withdraw.Goals as goal

pub returns-clause-placed : goal.returns-clause-placed
returns-clause-placed c = λ p.
    let e = c.cancel.ensures.state in let k = c.collect.ensures.rest in
    cancelled c.args.state.now c.collect.new.self c.args.ticket.number c.requires.serving (ap (λ v. v.state) k ∙ ap (λ v. v.state) e) (ap (λ v. v.serving) k ∙ ap (λ v. v.serving) e ∙ c.requires.serving) p

pub returns-clause-tickets : goal.returns-clause-tickets
returns-clause-tickets c = λ h.
    let s = c.args.state.now in let n = c.args.ticket.number in let m = c.cancel.new.self in
    let e = c.cancel.ensures.state in let k = c.collect.ensures in
    let live = subst (λ v. is_live v.tickets c.args.ticket ≡ true) (sym e) c.requires.live in
    let over = subst (λ v. IsSome (find (has_ended n) v.state.ended)) (sym e) (cancelled_ended s.state n (find (has_number n) s.state.waiting) refl c.requires.found) in
    omega (
      arith,
      h,
      collected m.state.waiting m.state.ended m.tickets c.collect.new.self.tickets c.args.ticket c.collect.result live over k.end k.taken,
      ap (λ v. uncollected v.tickets) e,
      ap (λ v. length v.state.waiting) e,
      ap (λ v. length v.state.waiting) k.rest,
      cancelled_len s.state n (find (has_number n) s.state.waiting) refl c.requires.found,
      ap (λ v. calls_in_service v.serving) e,
      ap (λ v. calls_in_service v.serving) k.rest,
    )

pub returns-clause-tickets_kept : goal.returns-clause-tickets_kept
returns-clause-tickets_kept c =
    let s = c.args.state.now in let m = c.cancel.new.self in let q = c.collect.new.self in let n = c.args.ticket.number in
    let e = c.cancel.ensures.state in let k = c.collect.ensures in
    let live = subst (λ v. is_live v.tickets c.args.ticket ≡ true) (sym e) c.requires.live in
    let over = subst (λ v. IsSome (find (has_ended n) v.state.ended)) (sym e) (cancelled_ended s.state n (find (has_number n) s.state.waiting) refl c.requires.found) in
    kept_then s m q (one_cancelled s m n (find (has_number n) s.state.waiting) (ap (λ v. v.tickets) e) (ap (λ v. v.state) e))
    (one_collected m q c.args.ticket c.collect.result live over k.taken k.left (ap (λ v. v.state.ended) k.rest))
