use Rattle.std.proofs.Common.{◌∙◌, ap, sym}
use Rattle.po_driven.specs.DrivenView.{DrivenView}
use Rattle.po_driven.proofs.Between.{final, finalizes}
use Rattle.po_driven.proofs.driven_object.DrivenObject.finalize.Goals as goal

pub returns-clause-finalizes : goal.returns-clause-finalizes
returns-clause-finalizes c =
    let i = c.self.inside in let d = c.args.self.now in let b = c.break_one.ensures in
    let m : DrivenView = record { calls = c.finalize.new.self; limits = i.limits.items; phase = i.phase; closed = i.closed.items } in
    let resting = sym (ap (λ v. v.phase) c.self.view_is) ∙ c.in-Resting.is in
    let same = ap (λ t. record m { calls = t }) c.finalize.ensures.same ∙ ap final c.self.view_is in
    finalizes d m c.break_one.new.self c.break_one.new.step c.break_one.result resting same b.services b.fresh b.breaks
