use Rattle.std.proofs.Common.{ℕ, ◌∙◌, ap, count_by, arith}
use Rattle.po_core.specs.Base.{is_issue}
use Rattle.po_core.specs.Tickets.{CoreView}
use Rattle.po_stress.specs.Counts.{issues_ended}
use Rattle.po_stress.specs.declared.counting.Ending.{Ending}
use Rattle.po_stress.specs.declared.counting.Ending.TheVariants.{Done, GivenUp, Failed}
use Rattle.po_stress.proofs.report.Report.of.Goals as goal

pub returns-clause-told : goal.returns-clause-told
returns-clause-told g c =
    let U : Type 0 = g.row.U.Denot in let V : Type 0 = g.row.U-Value.Denot in
    let issued : CoreView U V → ℕ = λ core. count_by is_issue core.object.events in
    let ended : Ending → CoreView U V → ℕ = λ ending core. count_by (issues_ended ending core.object.state.ended) core.object.events in
    record {
      issued = c.issued.ensures ∙ ap (count_by is_issue) c.events.ensures ∙ ap issued c.core-core.ensures;
      completed = c.ended.ensures ∙ ap (ended Done) c.core-core.ensures;
      cancelled = c.ended-2.ensures ∙ ap (ended GivenUp) c.core-core.ensures;
      program_error = c.ended-3.ensures ∙ ap (ended Failed) c.core-core.ensures;
      agreed = c.reconcile-verdict.ensures.agreed;
      fault = c.reconcile-verdict.ensures.fault;
    }

pub returns-clause-sums : goal.returns-clause-sums
returns-clause-sums g c = λ ok.
    let U : Type 0 = g.row.U.Denot in let V : Type 0 = g.row.U-Value.Denot in
    let issued : CoreView U V → ℕ = λ core. count_by is_issue core.object.events in
    let ended : Ending → CoreView U V → ℕ = λ ending core. count_by (issues_ended ending core.object.state.ended) core.object.events in
    let completed = c.ended.ensures ∙ ap (ended Done) c.core-core.ensures in
    let cancelled = c.ended-2.ensures ∙ ap (ended GivenUp) c.core-core.ensures in
    let failed = c.ended-3.ensures ∙ ap (ended Failed) c.core-core.ensures in
    let all = c.recall_sums.ensures.issued ok in
    let each = c.recall_sums.ensures.ended ok in
    record {
      issued = c.issued.ensures ∙ ap (count_by is_issue) c.events.ensures ∙ ap issued c.core-core.ensures ∙ all;
      ended = omega (arith, completed, cancelled, failed, each, all);
    }
