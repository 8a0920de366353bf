use Rattle.std.proofs.Common.{◌≡◌, ◌<◌, sym, subst, ◌∙◌}
use Rattle.std.specs.List.{slice_index}
use Rattle.po_engine.specs.ObjectState.{counts_in}
use Rattle.po_engine.proofs.Lists.{count_at}
use Rattle.po_engine.proofs.state.State.count.Goals as goal

pub returns : goal.returns
returns g c =
    let i = c.self.inside in
    let m = g.U.Unit.meaning in
    let here = subst (λ v. c.args.e < m.entries v.state.unit) (sym c.self.view_is) c.requires in
    subst (λ v. c.count.result ≡ slice_index (counts_in m v.state) c.args.e) c.self.view_is (c.count.ensures ∙ sym (count_at (m.entries i.unit) i.calls.waiting c.args.e here))
