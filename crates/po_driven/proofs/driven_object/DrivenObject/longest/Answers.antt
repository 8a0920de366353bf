use Rattle.std.proofs.Common.{◌≡◌, ◌<◌, ◌∙◌, Some, length, arith, sym, subst, ap}
use Rattle.std.specs.List.{slice_index}
use Rattle.std.proofs.lemmas.Grind.{get_or_default_zero}
use Rattle.po_driven.specs.Noted.{full_at, longest_on}
use Rattle.po_driven.proofs.Lengths.{full_some}
use Rattle.po_driven.proofs.driven_object.DrivenObject.longest.Goals as goal

pub returns-else-longest-eq0 : goal.returns-else-longest-eq0
returns-else-longest-eq0 c =
    let e = c.args.e in
    let limits = c.self.inside.limits.items in
    let inside = subst (λ v. e < v.calls.object.state.unit) (sym c.self.view_is) c.requires in
    let low : c.from.result < length limits = omega (arith, c.from.ensures, inside, c.self.invariant.limits) in
    let limit = c.index-longest.ensures ∙ get_or_default_zero limits c.from.result c.index-longest.result.now low ∙ ap (λ k. slice_index limits k) c.from.ensures in
    subst (λ v. Some c.index-longest.result.now ≡ longest_on v e) c.self.view_is (full_some c.index-longest.result.now c.if-longest-eq0.false ∙ ap full_at limit)
