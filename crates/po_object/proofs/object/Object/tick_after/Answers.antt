use Rattle.std.proofs.Common.{rules}
use Rattle.po_object.specs.Refused.{IsTickRefusal}
use Rattle.po_object.proofs.Refused.{tick-refused}
use Rattle.po_object.proofs.object.Object.tick_after.Goals as goal

pub returns-in_err-clock-clause-refused : goal.returns-in_err-clock-clause-refused
returns-in_err-clock-clause-refused g c =
    let e = c.in_err-clock.ensures in
    let refused : IsTickRefusal g.R.Record.is_bounded c.in_err-clock.field-0.0 = tick-refused c.deref_mut.result.now g.R.Record.is_bounded e.kind c.in_err-clock.field-0.0 e.refused in
    search (rules, refused)
