use Rattle.std.proofs.Common.{◌≡◌, ◌∙◌, None}
use Rattle.po_stress.proofs.CallEnds.{all-by_seat, ends-by_seat, calls-by_seat}
use Rattle.po_stress.proofs.run.run_over.Goals as goal

pub returns-clause-tallies : goal.returns-clause-tallies
returns-clause-tallies g c =
    let told = c.in_ok-closed.ensures in
    all-by_seat (λ pass. pass.calls ≡ c.args.job.calls) _ _ _ told.one_each.0 told.by_seat c.in_ok-passes.ensures.tallies

pub returns-clause-free : goal.returns-clause-free
returns-clause-free g c =
    let told = c.in_ok-closed.ensures in
    all-by_seat (λ pass. pass.pending ≡ None) _ _ _ told.one_each.0 told.by_seat c.in_ok-passes.ensures.free

pub returns-clause-ends : goal.returns-clause-ends
returns-clause-ends g c =
    let told = c.in_ok-closed.ensures in
    ends-by_seat _ _ _ _ told.one_each.1 told.one_each.0 told.by_seat c.in_ok-passes.ensures.ends

pub returns-clause-all : goal.returns-clause-all
returns-clause-all g c =
    let told = c.in_ok-closed.ensures in
    c.in_ok-passes.ensures.all ∙ calls-by_seat _ _ _ told.one_each.1 told.one_each.0 told.by_seat
