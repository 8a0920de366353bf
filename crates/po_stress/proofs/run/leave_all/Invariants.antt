use Rattle.std.proofs.Common.{◌≡◌, ◌≤◌, ◌+◌, ◌*◌, All, vec_len, vec_capacity}
use Rattle.po_receipts.specs.Answers.{NonePending}
use Rattle.po_stress.specs.Ends.{AreEndsOfAll, all_of, calls_of}
use Rattle.po_stress.proofs.run.leave_all.Given as goal

abbrev pub decreases-loop-caller : goal.decreases-loop-caller
decreases-loop-caller g l = vec_len l.callers

abbrev pub invariant-loop-caller : goal.invariant-loop-caller
invariant-loop-caller g l =
    (vec_len l.passes + vec_len l.callers ≤ vec_capacity l.passes)
    × (vec_len l.passes + vec_len l.callers ≤ 65_535)
    × All (λ pass. pass.calls ≡ l.calls) l.passes.items
    × NonePending l.passes.items
    × AreEndsOfAll l.passes.items l.all
    × (all_of l.all ≡ calls_of l.passes.items)
    × (all_of l.all ≤ vec_len l.passes * 4_294_967_296)
