use Rattle.std.proofs.Common.{rules, arith, subst, sym, ◌≡◌, ◌≤◌, ◌++◌, ◌∷◌, [], ℕ, All, None}
use Rattle.std.proofs.lemmas.List.Elements.{All-push}
use Rattle.po_receipts.specs.Passes.{PassView}
use Rattle.po_receipts.specs.Answers.{NonePending}
use Rattle.po_stress.specs.Ends.{AreEndsOfAll, all_of, calls_of}
use Rattle.po_stress.proofs.CallEnds.{ends-more, calls-more}
use Rattle.po_stress.proofs.run.leave_all.Goals as goal

pub loop-caller-preserved : goal.loop-caller-preserved
loop-caller-preserved g c =
    let known = c.loop-caller.invariant in
    let old = c.loop-caller.all in let new = c.add.new.self in let here = c.leave-pass.result.1 in
    let passes = c.loop-caller.passes.items in let pass = c.leave-pass.result.0 in
    let pushed = c.push_reserved.ensures.items in
    let same : pass.calls ≡ c.args.calls = search rules in
    let fits : c.args.calls ≤ 4_294_967_296 = search rules in
    let sum = c.add.ensures in
    let all = c.leave-pass.ensures.all in
    let more = calls-more passes pass in
    let tallied = All-push (λ (p : PassView ℕ). p.calls ≡ c.args.calls) passes pass known.2 same in
    let free = All-push (λ (p : PassView ℕ). p.pending ≡ None) passes pass known.3 c.leave-pass.ensures.free in
    let counted = ends-more passes pass old here new sum.completed sum.cancelled sum.program_error known.4 c.leave-pass.ensures.ends in
    let summed : all_of new ≡ calls_of (passes ++ pass ∷ []) = omega (arith, sum.completed, sum.cancelled, sum.program_error, all, more, known.5) in (
      search rules,
      search rules,
      subst (All (λ (p : PassView ℕ). p.calls ≡ c.args.calls)) (sym pushed) tallied,
      subst NonePending (sym pushed) free,
      subst (λ ps. AreEndsOfAll ps new) (sym pushed) counted,
      subst (λ ps. all_of new ≡ calls_of ps) (sym pushed) summed,
      omega (arith, sum.completed, sum.cancelled, sum.program_error, all, same, fits, known.6, c.push_reserved.ensures.len),
    )
