use Rattle.std.proofs.Common.{◌<◌, ◌∙◌, sym, ap, subst}
use Rattle.po_unit.specs.Numbering.{entry_count}
use Rattle.po_unit.proofs.NumberingLemmas.{flat_number-lt-entry_count}
use Rattle.po_core.proofs.object_core.Core.count.Goals as goal

pub count-requires : goal.count-requires
count-requires g c =
    let is = c.shape.ensures ∙ ap (λ made. made.shape) c.setup.ensures in
    let low = flat_number-lt-entry_count c.shape.result.now c.args.entry c.in_ok-e.e (sym c.in_ok-e.ensures.exact) in
    let entries = ap g.U.Unit.meaning.entries (ap (λ s. s.unit) c.state.ensures) ∙ (c.recall_invariant.ensures.shaped ∙ ap entry_count (sym is)) in
    subst (λ n. c.in_ok-e.e < n) (sym entries) low
