use Rattle.std.proofs.Common.{ℕ, length, None, Some, ap, sym, refl, arith}
use Rattle.po_engine.specs.Ending.{ended_as}
use Rattle.po_engine.specs.StateView.{StateView}
use Rattle.po_engine.specs.Step.{end_call}
use Rattle.po_driven.specs.OnePlace.{calls_in_service}
use Rattle.po_driven.proofs.Held.{ended_last, given_up}
use Rattle.po_driven.proofs.Spots.{over}
use Rattle.po_driven.proofs.Tickets.{kept_then, one_collected, one_ended}
use Rattle.po_driven.proofs.driven_calls.finish.Goals as goal

pub returns-clause-placed : goal.returns-clause-placed
returns-clause-placed c = λ p.
    let e = c.end_collected.ensures.after in
    over c.args.state.now c.end_collected.new.self c.args.call c.args.end c.requires (ap (λ v. v.state) e) (ap (λ v. v.serving) e) p

pub returns-clause-tickets : goal.returns-clause-tickets
returns-clause-tickets c = λ h.
    let s = c.args.state.now in let e = c.end_collected.ensures in
    omega (
      arith,
      h,
      given_up s.tickets c.end_collected.new.self.tickets c.end_collected.result e.live e.taken,
      ap (λ v. length v.state.waiting) e.after,
      ap calls_in_service c.requires,
      ap (λ v. calls_in_service v.serving) e.after,
    )

pub returns-clause-tickets_kept : goal.returns-clause-tickets_kept
returns-clause-tickets_kept c =
    let s = c.args.state.now in let n = c.end_collected.new.self in let t = c.end_collected.result in
    let e = c.end_collected.ensures in
    let m : StateView ℕ ℕ = record s { state = end_call s.state c.args.call c.args.end; serving = None } in
    kept_then s m n (one_ended s m (ended_as c.args.end c.args.call) refl refl)
    (one_collected m n t (Some c.args.end) e.live (ended_last t.number s.state.ended c.args.call c.args.end (sym e.number)) e.taken tt (ap (λ v. v.state.ended) e.after))
